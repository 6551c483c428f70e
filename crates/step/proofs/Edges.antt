-- The edges are right: the definitions compute each answer and each table.
use mathlib.Core.Path.{refl}
use Rattle.laws.specs.Lists.{below}
use Rattle.table.specs.Ranks.{earliest, closed_up}
use Rattle.step.specs.Edges.{AllRight, edges}

pub edges_right : AllRight edges
unfolding below earliest closed_up
edges_right =
    (refl, (refl, (refl, (refl, (refl, (refl, (refl, (refl, (refl, (refl, (refl, (refl, (refl, (refl, (refl, (refl, (refl, (refl, (refl, (refl, (refl, (refl, (refl, (refl, (refl, (refl, (refl, (refl, (refl, (refl, (refl, (refl, (refl, tt)))))))))))))))))))))))))))))))))
