-- Clause 7.2, the parked endpoint: the clause table. There is a line for each state and event, and above it the sentence of the clause that names the
-- step. "house" marks what is document 02's or decided in docs/DECISIONS.md (D-69 to D-90). A line without a sentence is 33: the clause, as it is read
-- there, names no step.
use Rattle.std.specs.Prelude.{Option, Some, None, Ok, Err}
use Rattle.clauses.specs.declared.Timer.{Timer}
use Rattle.clauses.specs.declared.Timer.TheVariants.{T2, T10}
use Rattle.clauses.specs.declared.Message.TheVariants.{RequestResult, RequestError, SetupInvoke, PickupResult, PickupError, PickupErrorInRelease, ExecuteInvoke, ReleaseHeld, ReleasePicker}
use Rattle.clauses.specs.declared.Report.TheVariants.{Succeeded, Failed}
use Rattle.clauses.specs.declared.parked.State.{State}
use Rattle.clauses.specs.declared.parked.State.TheVariants.{CpIdle, CpSetupRequ, CpickupSetupInit}
use Rattle.clauses.specs.declared.parked.Event.{Event}
use Rattle.clauses.specs.declared.parked.Event.TheVariants.{Request, SetupResult, SetupError, PrimaryCleared, HeldCleared, LocalPickup, RemotePickup, ExecuteResult, ExecuteError, ExecuteErrorInRelease, PickerCleared, PlainConnect, ExpiryT2, ExpiryT10}
use Rattle.clauses.specs.declared.Step.{Step}
use Rattle.clauses.specs.Answer.{undefined, value_of, begun, replied, ended, to, no_step}
use Rattle.clauses.specs.Phone.{Phone}

abbrev pub parked_of : State → Event → Step State
-- ---- CP-Idle

-- "Upon receiving a cpRequest Invoke APDU on the primary call .. while in H.225.0 call control state "active", the parked endpoint B shall determine
-- whether it can participate in the SS-PARK. If possible, it shall use the parkedToNumber .. to establish the parked call to the parked-to endpoint."
-- "The SETUP message .. shall contain a cpSetup Invoke APDU .. State CP-SetupRequ shall be entered and optional Timer T2 may be started".
-- house: "We always start T2."
parked_of CpIdle (Request (Ok _)) = to CpSetupRequ (begun SetupInvoke None T2)
-- ".. if the parked endpoint B cannot participate in the SS-PARK, a cpRequest Return Error APDU or a Reject APDU shall be returned within a FACILITY
-- message".
-- house: an error, and its value comes with the event
parked_of CpIdle (Request (Err x)) = to CpIdle (replied (Some (RequestError x)))
parked_of CpIdle SetupResult = no_step CpIdle
parked_of CpIdle (SetupError x) = no_step CpIdle
parked_of CpIdle PrimaryCleared = no_step CpIdle
-- "If the parked call is cleared while in state CP-Idle .., the parking endpoint may be recalled."
-- house: it is not recalled, so that there is nothing to do
parked_of CpIdle HeldCleared = to CpIdle (replied None)
-- "A pickup Invoke APDU may be received within a CONNECT message from the parked-to endpoint. If supported and allowed, the calling endpoint shall
-- return a pickup Return Result APDU within a FACILITY message."
-- house: "calling" is read "parked"
parked_of CpIdle (LocalPickup (Ok _)) = to CpIdle (replied (Some PickupResult))
-- "If the SS-PICKUP request cannot be accepted by the parked endpoint, a pickup Return Error APDU or a Reject APDU shall be returned to the parked-to
-- endpoint within a RELEASE COMPLETE message."
-- house: an error, and its value comes with the event
parked_of CpIdle (LocalPickup (Err x)) = to CpIdle (replied (Some (PickupErrorInRelease x)))
-- "A pickup Invoke APDU may be received within a FACILITY message .. If supported and allowed, the parked endpoint shall return a pickup Return
-- Result APDU." ".. the parked endpoint shall initiate call establishment (sending a SETUP message) to the picking-up endpoint containing a pickExe
-- Invoke APDU. .. Timer T10 shall be started and state CpickupSetupInit shall be entered."
-- house: one flag decides both; the result goes in a FACILITY, and before the SETUP
parked_of CpIdle (RemotePickup (Ok _)) = to CpickupSetupInit (begun PickupResult (Some ExecuteInvoke) T10)
-- "Otherwise, a pickup Return Error APDU or a Reject APDU shall be returned to the parked-to endpoint."
-- house: an error, in a FACILITY, and its value comes with the event
parked_of CpIdle (RemotePickup (Err x)) = to CpIdle (replied (Some (PickupError x)))
parked_of CpIdle ExecuteResult = no_step CpIdle
parked_of CpIdle (ExecuteError x) = no_step CpIdle
parked_of CpIdle (ExecuteErrorInRelease x) = no_step CpIdle
parked_of CpIdle PickerCleared = no_step CpIdle
parked_of CpIdle PlainConnect = no_step CpIdle
parked_of CpIdle ExpiryT2 = no_step CpIdle
parked_of CpIdle ExpiryT10 = no_step CpIdle
-- ---- CP-SetupRequ

parked_of CpSetupRequ (Request d) = no_step CpSetupRequ
-- "Upon receiving a PROGRESS message with a cpSetup Return Result APDU from the parked-to endpoint, parked endpoint B shall stop timer T2, (if
-- running) send a RELEASE COMPLETE message containing cpRequest Return Result APDU to parking endpoint A and enter state CP-Idle."
-- 10.2.2.2: "The cpSetup.Confirm primitive is used to report a successful or unsuccessful outcome of the parked call establishment."
parked_of CpSetupRequ SetupResult = to CpIdle (ended (Some RequestResult) (Some Succeeded) T2)
-- "If a cpSetup Return Error APDU or Reject APDU was received from the parked-to endpoint, the same error value shall be sent in the cpRequest Return
-- Error APDU from the parked endpoint B to parking endpoint A." ".. the parked endpoint shall send a cpRequest Return Error APDU to parking endpoint
-- A in a FACILITY message, stop timer T2 if running and enter state CP-Idle."
-- house: the second sentence is read of an error too; a Reject has undefined
parked_of CpSetupRequ (SetupError x) = to CpIdle (ended (Some (RequestError (value_of x))) (Some (Failed (value_of x))) T2)
-- "If the primary call is cleared while in state CP-SetupRequ, the parked endpoint shall stop timer T2 if running, clear the parked call and enter
-- state CP-Idle."
-- house: the user is not told
parked_of CpSetupRequ PrimaryCleared = to CpIdle (ended (Some ReleaseHeld) None T2)
-- ".. or on receipt of a call clearing indication of the parked call while in state CP-SetupRequ, the parked endpoint shall send a cpRequest Return
-- Error APDU to parking endpoint A in a FACILITY message, stop timer T2 if running and enter state CP-Idle."
-- house: with undefined
parked_of CpSetupRequ HeldCleared = to CpIdle (ended (Some (RequestError undefined)) (Some (Failed undefined)) T2)
parked_of CpSetupRequ (LocalPickup d) = no_step CpSetupRequ
parked_of CpSetupRequ (RemotePickup d) = no_step CpSetupRequ
parked_of CpSetupRequ ExecuteResult = no_step CpSetupRequ
parked_of CpSetupRequ (ExecuteError x) = no_step CpSetupRequ
parked_of CpSetupRequ (ExecuteErrorInRelease x) = no_step CpSetupRequ
parked_of CpSetupRequ PickerCleared = no_step CpSetupRequ
parked_of CpSetupRequ PlainConnect = no_step CpSetupRequ
-- "On expiry of timer T2 at parked endpoint B, .. the parked endpoint shall send a cpRequest Return Error APDU to parking endpoint A in a FACILITY
-- message, stop timer T2 if running and enter state CP-Idle."
-- house: with undefined
parked_of CpSetupRequ ExpiryT2 = to CpIdle (ended (Some (RequestError undefined)) (Some (Failed undefined)) T2)
parked_of CpSetupRequ ExpiryT10 = no_step CpSetupRequ
-- ---- CpickupSetupInit

parked_of CpickupSetupInit (Request d) = no_step CpickupSetupInit
parked_of CpickupSetupInit SetupResult = no_step CpickupSetupInit
parked_of CpickupSetupInit (SetupError x) = no_step CpickupSetupInit
parked_of CpickupSetupInit PrimaryCleared = no_step CpickupSetupInit
parked_of CpickupSetupInit HeldCleared = no_step CpickupSetupInit
parked_of CpickupSetupInit (LocalPickup d) = no_step CpickupSetupInit
parked_of CpickupSetupInit (RemotePickup d) = no_step CpickupSetupInit
-- "If a pickExe Return Result APDU is received in a CONNECT message from the picking-up endpoint while in state CpickupSetupInit, timer T10 shall be
-- stopped and state CP-Idle shall be entered. The parked call to the parked-to endpoint shall be released."
-- 10.2.2.2: "The pickExe.Confirm primitive is used to indicate a successful or unsuccessful outcome of the new call establishment".
parked_of CpickupSetupInit ExecuteResult = to CpIdle (ended (Some ReleaseHeld) (Some Succeeded) T10)
-- "If a pickExe Return Error APDU or a Reject APDU is received from the picking-up endpoint, the parked endpoint shall stop Timer T10, release the
-- call to the picking-up endpoint (if not already released), and enter state CP-Idle."
-- house: a Reject is told as undefined
parked_of CpickupSetupInit (ExecuteError x) = to CpIdle (ended (Some ReleasePicker) (Some (Failed (value_of x))) T10)
-- the same, where the call is released already
parked_of CpickupSetupInit (ExecuteErrorInRelease x) = to CpIdle (ended None (Some (Failed (value_of x))) T10)
parked_of CpickupSetupInit PickerCleared = no_step CpickupSetupInit
parked_of CpickupSetupInit PlainConnect = no_step CpickupSetupInit
parked_of CpickupSetupInit ExpiryT2 = no_step CpickupSetupInit
-- house: "Expiry of T10 (house) acts as a pickExe error", one that did not come in RELEASE COMPLETE, with undefined
parked_of CpickupSetupInit ExpiryT10 = to CpIdle (ended (Some ReleasePicker) (Some (Failed undefined)) T10)

-- 10.4: "T2 - may operate in the parked endpoint during state CP-SetupRequ."
-- 10.4: "T10 – shall operate in the parked or calling endpoint while in state CpickupSetupInit."
abbrev pub parked_timer : State → Option Timer
parked_timer CpIdle = None
parked_timer CpSetupRequ = Some T2
parked_timer CpickupSetupInit = Some T10

-- the timer whose expiry the event is
abbrev pub parked_expiry : Event → Option Timer
parked_expiry (Request d) = None
parked_expiry SetupResult = None
parked_expiry (SetupError x) = None
parked_expiry PrimaryCleared = None
parked_expiry HeldCleared = None
parked_expiry (LocalPickup d) = None
parked_expiry (RemotePickup d) = None
parked_expiry ExecuteResult = None
parked_expiry (ExecuteError x) = None
parked_expiry (ExecuteErrorInRelease x) = None
parked_expiry PickerCleared = None
parked_expiry PlainConnect = None
parked_expiry ExpiryT2 = Some T2
parked_expiry ExpiryT10 = Some T10

abbrev pub parked : Phone
parked = record {
  State = State;
  Event = Event;
  idle = CpIdle;
  next = λ s e. (parked_of s e).state;
  answer = λ s e. (parked_of s e).answer;
  timer = parked_timer;
  expiry = parked_expiry;
}
