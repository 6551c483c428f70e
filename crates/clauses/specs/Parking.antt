-- Clause 7.1, the parking endpoint: the clause table. There is a line for each state and event, and above it the sentence of the clause that names the
-- step. "house" marks what is document 02's or decided in docs/DECISIONS.md (D-69 to D-90). A line without a sentence is 33: the clause, as it is read
-- there, names no step.
use Rattle.std.specs.Prelude.{true, false, Option, Some, None}
use Rattle.clauses.specs.declared.Timer.{Timer}
use Rattle.clauses.specs.declared.Timer.TheVariants.{T1}
use Rattle.clauses.specs.declared.Message.TheVariants.{RequestInvoke}
use Rattle.clauses.specs.declared.Report.TheVariants.{Rejected, Succeeded, Failed}
use Rattle.clauses.specs.declared.parking.State.{State}
use Rattle.clauses.specs.declared.parking.State.TheVariants.{CpIdle, CpRequested}
use Rattle.clauses.specs.declared.parking.Event.{Event}
use Rattle.clauses.specs.declared.parking.Event.TheVariants.{ParkRequest, Result, Error, PrimaryCleared, ExpiryT1}
use Rattle.clauses.specs.declared.Step.{Step}
use Rattle.clauses.specs.Answer.{undefined, value_of, begun, told, ended, to, no_step}
use Rattle.clauses.specs.Phone.{Phone}

abbrev pub parking_of : State → Event → Step State
-- ---- CP-Idle

-- "When receiving an SS-PARK request from the Parking User A while in H.225.0 call control state "active" (U10), the parking endpoint A shall send a
-- FACILITY message containing a cpRequest Invoke APDU to the parked endpoint B, enter state CP-Requested and start timer T1."
parking_of CpIdle (ParkRequest true) = to CpRequested (begun RequestInvoke None T1)
-- "When receiving a local SS-PARK request from the Parking User A while in a H.225.0 call control state different from "active", the parking endpoint
-- shall locally reject the supplementary service request."
parking_of CpIdle (ParkRequest false) = to CpIdle (told Rejected)
parking_of CpIdle Result = no_step CpIdle
parking_of CpIdle (Error x) = no_step CpIdle
parking_of CpIdle PrimaryCleared = no_step CpIdle
parking_of CpIdle ExpiryT1 = no_step CpIdle
-- ---- CP-Requested

parking_of CpRequested (ParkRequest accepted) = no_step CpRequested
-- "Upon receipt of a cpRequest Return Result APDU, the parking endpoint shall enter state CP-Idle and stop timer T1."
-- 10.2.1.2: "The cpRequest.Confirm primitive is used to indicate successful or unsuccessful invocation of SS-PARK."
parking_of CpRequested Result = to CpIdle (ended None (Some Succeeded) T1)
-- "In the case of an unsuccessful outcome of SS-PARK .., a cpRequest Return Error APDU or a Reject APDU shall be received .. Timer T1 shall be
-- stopped and state CP-Idle shall be entered." "An unsuccessful outcome of SS-PARK shall be reported to the Parking User."
-- house: a Reject is reported as undefined
parking_of CpRequested (Error x) = to CpIdle (ended None (Some (Failed (value_of x))) T1)
parking_of CpRequested PrimaryCleared = no_step CpRequested
-- "In the case of timer T1 expiry, the parking endpoint shall enter state CP-Idle and continue the call with user B."
-- house: it is reported as undefined, and T1 is named as stopped
parking_of CpRequested ExpiryT1 = to CpIdle (ended None (Some (Failed undefined)) T1)

-- 10.4: "T1 – shall operate in the parking endpoint during state CP-Requested."
abbrev pub parking_timer : State → Option Timer
parking_timer CpIdle = None
parking_timer CpRequested = Some T1

-- the timer whose expiry the event is
abbrev pub parking_expiry : Event → Option Timer
parking_expiry (ParkRequest accepted) = None
parking_expiry Result = None
parking_expiry (Error x) = None
parking_expiry PrimaryCleared = None
parking_expiry ExpiryT1 = Some T1

abbrev pub parking : Phone
parking = record {
  State = State;
  Event = Event;
  idle = CpIdle;
  next = λ s e. (parking_of s e).state;
  answer = λ s e. (parking_of s e).answer;
  timer = parking_timer;
  expiry = parking_expiry;
}
