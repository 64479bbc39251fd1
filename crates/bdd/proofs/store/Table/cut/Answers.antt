-- No entry of the cache counts.
use Rattle.bdd.proofs.store.Table.cut.Goals as goal

pub invariant_of-self-clause-cached : goal.invariant_of-self-clause-cached
invariant_of-self-clause-cached c f g r known = absurd (c.forget.ensures f g r known)
