-- T3 at a park position: it is in the set of every occupied state that a position can have, so it starts and stops with the stay.
-- The rule is a test that is computed at all pairs of states, once.
use mathlib.Core.Path.{◌≡◌, refl}
use mathlib.Core.Bool.{Bool, true, not, ◌&&◌, ◌||◌}
use Prim.Native.Nat.{◌%◌}
use lib.Dec.{eqb}
use borrow.Author.Tests.{eqb-true}
use Rattle.laws.proofs.Bools.{and_left, and_right}
use Rattle.table.specs.declared.State.{State}
use Rattle.table.specs.declared.State.TheVariants.{Free, ParkWaiting, LineWaiting, Requested, RemoteRequested, HandedOver}
use Rattle.table.specs.declared.Side.TheVariants.{Position}
use Rattle.table.specs.Places.{is_free}
use Rattle.table.specs.Timers.{started_set}
use Rattle.table.specs.Sound.{fits_side}
use Rattle.step.specs.Promises.{one_if}

-- a test passes at all six states
abbrev at_all : (State → Bool) → Bool
at_all p = p Free && (p ParkWaiting && (p LineWaiting && (p Requested && (p RemoteRequested && p HandedOver))))

at_each : (p : State → Bool) → at_all p ≡ true → (s : State) → p s ≡ true
at_each p h Free = and_left (p Free) _ h
at_each p h ParkWaiting = and_left (p ParkWaiting) _ (and_right (p Free) _ h)
at_each p h LineWaiting = and_left (p LineWaiting) _ (and_right (p ParkWaiting) _ (and_right (p Free) _ h))
at_each p h Requested = and_left (p Requested) _ (and_right (p LineWaiting) _ (and_right (p ParkWaiting) _ (and_right (p Free) _ h)))
at_each p h RemoteRequested =
    and_left (p RemoteRequested) _ (and_right (p Requested) _ (and_right (p LineWaiting) _ (and_right (p ParkWaiting) _ (and_right (p Free) _ h))))
at_each p h HandedOver =
    and_right (p RemoteRequested) _ (and_right (p Requested) _ (and_right (p LineWaiting) _ (and_right (p ParkWaiting) _ (and_right (p Free) _ h))))

abbrev right : State → State → Bool
right s u = not (fits_side Position s && fits_side Position u) || eqb (started_set Position s u % 2) (one_if (is_free s && not (is_free u)))

-- T3 is among what starts exactly where a free place is taken
pub t3_started : (s u : State) → fits_side Position s ≡ true → fits_side Position u ≡ true → started_set Position s u % 2 ≡ one_if (is_free s && not (is_free u))
t3_started s u f g =
    let test : right s u ≡ true = at_each (right s) (at_each (λ v. at_all (right v)) refl s) u in
    eqb-true (started_set Position s u % 2) (one_if (is_free s && not (is_free u))) (rw (f, g) at test)
