-- A pile put together at run time, as a pile and by the answers that it gives, from those of the engines in it.
use Rattle.engine.specs.Piles.{Pile, chain, ladder}
use Rattle.engine.specs.Answers.{Giving, Chained, Climbed}
use Rattle.engine.specs.declared.tower.Tower.{Tower}
use Rattle.engine.specs.declared.tower.Tower.TheVariants.{Single, Chain', Ladder'}

abbrev pub tower_pile : {E : Type 0} → (E → Pile) → Tower E → Pile
tower_pile pile (Single e) = pile e
tower_pile pile (Chain' p first q second) = chain (tower_pile pile first) (tower_pile pile second)
tower_pile pile (Ladder' p below) = ladder (tower_pile pile below)

abbrev pub tower_gives : {E : Type 0} → (E → Giving) → Tower E → Giving
tower_gives gives (Single e) = gives e
tower_gives gives (Chain' p first q second) = Chained (tower_gives gives first) (tower_gives gives second)
tower_gives gives (Ladder' p below) = Climbed (tower_gives gives below)
