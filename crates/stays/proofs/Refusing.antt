-- Of the machine that refuses everything, too, the events that it accepted are accepted again and no stay has two results: its runs are empty. So demand
-- 3 by itself says too little, and it is proved over the definition that demand 2 gives.
use mathlib.Core.Path.{◌≡◌, refl}
use mathlib.Core.List.{List, [], ◌∷◌}
use Rattle.table.specs.declared.Table.{Table}
use Rattle.events.specs.declared.Event.{Event}
use Rattle.stays.specs.Stays.{run, final, stop, Rearranges, OneResult}
use Rattle.stays.specs.Refusing.{refusing}

nothing_runs : (t : Table) (es : List Event) → run refusing t es ≡ []
nothing_runs t [] = refl
nothing_runs t (e ∷ es) = nothing_runs t es

nothing_changes : (t : Table) (es : List Event) → final refusing t es ≡ t
nothing_changes t [] = refl
nothing_changes t (e ∷ es) = nothing_changes t es

pub refusing_rearranges : Rearranges refusing
refusing_rearranges es = rw (nothing_runs refusing.empty es, nothing_changes refusing.empty es) (stop)

pub refusing_one_result : OneResult refusing
refusing_one_result es = rw (nothing_runs refusing.empty es) tt
