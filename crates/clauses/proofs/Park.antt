-- The two phones together: a park worked out, the error's value handed on, T10 as an error, and that each timer does run. All of it is computed.
use mathlib.Core.Path.{refl}
use mathlib.Core.Bool.{true}
use mathlib.Core.List.{[], ◌∷◌}
use Rattle.clauses.specs.declared.ErrorValue.{ErrorValue}
use Rattle.std.specs.Prelude.{Ok}
use Rattle.clauses.specs.declared.parking.Event as at-parking
use Rattle.clauses.specs.declared.parked.Event as at-parked
use Rattle.clauses.specs.Park.{WorkedOut, SameValue, T10AsError, EachRuns}

pub worked_out : WorkedOut
worked_out = record { parks = refl; is_parked = refl }

pub same_value : (x : ErrorValue) → SameValue x
same_value x = record { handed_on = refl; told = refl }

pub t10_as_error : T10AsError
t10_as_error = refl

pub each_runs : EachRuns
each_runs = record {
  t1 = ((at-parking.Event.ParkRequest true ∷ [], refl), (at-parking.Event.ExpiryT1, refl));
  t2 = ((at-parked.Event.Request (Ok tt) ∷ [], refl), (at-parked.Event.ExpiryT2, refl));
  t10 = ((at-parked.Event.RemotePickup (Ok tt) ∷ [], refl), (at-parked.Event.ExpiryT10, refl));
}
