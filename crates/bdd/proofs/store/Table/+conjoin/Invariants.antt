-- Each call goes down in one of the two diagrams.
use Rattle.std.proofs.Common.{◌+◌, ◌/◌}
use Rattle.bdd.proofs.store.Table.+conjoin.Given as goal

abbrev pub decreases-conjoin : goal.decreases-conjoin
decreases-conjoin l = l.f / 2 + l.g / 2
