-- An empty cache is right.
use Rattle.bdd.proofs.store.Table.new.Goals as goal

pub invariant_of-result-clause-cached : goal.invariant_of-result-clause-cached
invariant_of-result-clause-cached c f g r known = absurd (c.in_ok-cache.ensures f g r known)
