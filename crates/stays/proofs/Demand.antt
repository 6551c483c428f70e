-- THE THEOREMS of `specs/Demand.antt`, by their names there. The last two are computed.
use mathlib.Core.Path.{◌≡◌, sym, ap}
use mathlib.Core.List.{map}
use native.Mathlib.Decide.{ℕ_discrete}
use Rattle.laws.specs.Lists.{below}
use Rattle.table.specs.Ranks.{earliest, closed_up}
use Rattle.stays.specs.Arranged.{Numbered, Arrangement}
use Rattle.stays.specs.Demand.{Act, example_run, told, WorkedOut, same_call_twice, OwnEvents}
use Rattle.stays.proofs.Arranged.{made, is_arranged}
pub use Rattle.stays.proofs.Arranged.{rearranged, same_stays}
pub use Rattle.stays.proofs.EachStay.{each_stay}
pub use Rattle.stays.proofs.Requester.{tells_requester}
pub use Rattle.stays.proofs.Fair.{serves_first}

pub worked_out : WorkedOut
unfolding below earliest closed_up ℕ_discrete
worked_out r =
    let same : r.stays ≡ made example_run = sym (r.only (made example_run) (is_arranged example_run)) in
    (ap (λ (a : Arrangement Act). map (map told) a.ended) same, ap (λ (a : Arrangement Act). map (map told) a.running) same)

pub own_events : OwnEvents
unfolding below earliest closed_up ℕ_discrete
own_events r =
    let same : r.stays ≡ made same_call_twice = sym (r.only (made same_call_twice) (is_arranged same_call_twice)) in
    ap (λ (a : Arrangement Act). map (map (λ (y : Numbered Act). y.number)) a.ended) same
