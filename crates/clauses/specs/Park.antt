-- What is promised of the two phones together, and a park and a pickup worked out.
use Rattle.std.specs.Prelude.{◌≡◌, true, [], ◌∷◌, Some, None, Ok}
use Rattle.timers.specs.Timers.{DoesRun}
use Rattle.clauses.specs.declared.ErrorValue.{ErrorValue}
use Rattle.clauses.specs.declared.Failure.TheVariants.{ReturnError}
use Rattle.clauses.specs.declared.Timer.TheVariants.{T1, T2, T10}
use Rattle.clauses.specs.declared.Message.TheVariants.{RequestInvoke, RequestResult, RequestError, SetupInvoke, PickupResult, ExecuteInvoke, ReleaseHeld}
use Rattle.clauses.specs.declared.Report.TheVariants.{Succeeded, Failed}
use Rattle.clauses.specs.declared.parking.Event as at-parking
use Rattle.clauses.specs.declared.parked.State as parked-state
use Rattle.clauses.specs.declared.parked.Event as at-parked
use Rattle.clauses.specs.Answer.{undefined, begun, ended}
use Rattle.clauses.specs.Phone.{answers, timed}
use Rattle.clauses.specs.Parking.{parking}
use Rattle.clauses.specs.Parked.{parked_of, parked}

-- `worked_out`: a call is parked, and picked up from elsewhere, as each phone sees it
pub record WorkedOut : Type 0 where
  -- the user asks; the result comes
  pub parks : answers parking parking.idle (at-parking.Event.ParkRequest true ∷ at-parking.Event.Result ∷ [])
      ≡ Ok (begun RequestInvoke None T1) ∷ Ok (ended None (Some Succeeded) T1) ∷ []
  -- the cpRequest comes; the parked-to endpoint has the call; it is picked up there for another endpoint; that one answers
  pub is_parked : answers
      parked
      parked.idle
      (at-parked.Event.Request (Ok tt) ∷ at-parked.Event.SetupResult ∷ at-parked.Event.RemotePickup (Ok tt) ∷ at-parked.Event.ExecuteResult ∷ [])
      ≡ Ok (begun SetupInvoke None T2)
      ∷ Ok (ended (Some RequestResult) (Some Succeeded) T2)
      ∷ Ok (begun PickupResult (Some ExecuteInvoke) T10)
      ∷ Ok (ended (Some ReleaseHeld) (Some Succeeded) T10)
      ∷ []

-- `same_value`: Q-7, "An error from the parked-to side goes to the parking side with the same value": the parked endpoint sends on the value that
-- came and tells it its user; the parking endpoint tells its user the value that comes
pub record SameValue (x : ErrorValue) : Type 0 where
  pub handed_on : answers parked parked.idle (at-parked.Event.Request (Ok tt) ∷ at-parked.Event.SetupError (ReturnError x) ∷ [])
      ≡ Ok (begun SetupInvoke None T2) ∷ Ok (ended (Some (RequestError x)) (Some (Failed x)) T2) ∷ []
  pub told : answers parking parking.idle (at-parking.Event.ParkRequest true ∷ at-parking.Event.Error (ReturnError x) ∷ [])
      ≡ Ok (begun RequestInvoke None T1) ∷ Ok (ended None (Some (Failed x)) T1) ∷ []

-- `t10_as_error`: Q-7, "Expiry of T10 (house) acts as a pickExe error", one that did not come in RELEASE COMPLETE
abbrev pub T10AsError : Type 0
T10AsError =
    parked_of parked-state.State.CpickupSetupInit at-parked.Event.ExpiryT10
    ≡ parked_of parked-state.State.CpickupSetupInit (at-parked.Event.ExecuteError (ReturnError undefined))

-- `each_runs`: each of the three timers does run
pub record EachRuns : Type 0 where
  pub t1 : DoesRun (timed parking) T1
  pub t2 : DoesRun (timed parked) T2
  pub t10 : DoesRun (timed parked) T10
