-- What an event does at one place (document 01, "Events"; document 02, Q-1; H.450.5, 7.3 and 7.5): it is refused, or has an outcome. That says only
-- what changes: the end of the stay, or the stage that the call is now at with its count. So a freed record is all zeros, a call stays the
-- same, an occupied place stays occupied, and only state 4 has a connection, all by construction.
use Rattle.std.specs.Prelude.{ℕ, ◌+◌, ◌/◌, ◌%◌, ◌^◌, Bool, true, false, cond, Option, Some, None, Result, Ok, Err, List, ◌==◌}
use Rattle.table.specs.declared.Connection.{Connection}
use Rattle.table.specs.declared.Invoke.{Invoke}
use Rattle.table.specs.declared.State.{State}
use Rattle.table.specs.declared.State.TheVariants.{Free, ParkWaiting, LineWaiting, Requested, RemoteRequested, HandedOver}
use Rattle.table.specs.declared.Side.{Side}
use Rattle.table.specs.declared.Side.TheVariants.{Position, Line}
use Rattle.table.specs.declared.Record.{Record}
use Rattle.table.specs.Places.{is_free, waiting_on, no_connection, no_invoke}
use Rattle.table.specs.Timers.{timer_set}
use Rattle.events.specs.declared.Event.{Event}
use Rattle.events.specs.declared.rule.Rule.{Rule}
use Rattle.events.specs.declared.rule.Rule.TheVariants.{Start, On}
use Rattle.events.specs.declared.rule.Signal.{Signal}
use Rattle.events.specs.declared.rule.Signal.TheVariants.{LocalPickup, PickRequest, PickupResult, PickupError, ErrorInRelease, Release, Answered, Expiry}
use Rattle.events.specs.declared.message.Message.{Message}
use Rattle.events.specs.declared.message.Message.TheVariants.{ParkResult, Connect, Facility, PickResult, PickError, ReleaseComplete}
use Rattle.events.specs.declared.message.ErrorValue.TheVariants.{Undefined}
use Rattle.events.specs.declared.refusal.Refusal.{Refusal}
use Rattle.events.specs.declared.refusal.Refusal.TheVariants.{UnknownKind, CallNotHeld, PickupHere, PickupElsewhere, CallHandedOver, StateUnfit, NotOutstanding, TimerNotRunning}
use Rattle.events.specs.declared.turn.Stage.{Stage}
use Rattle.events.specs.declared.turn.Stage.TheVariants.{Waits, AskedHere, AskedFrom, Taken}
use Rattle.events.specs.declared.turn.Outcome.{Outcome}
use Rattle.events.specs.declared.turn.Outcome.TheVariants.{Freed, Becomes}

-- ---- a held call's stage, and its record

-- states 1 and 2; 3; 4 with its connection; 5. (No rule looks at the stage of a free record.)
abbrev pub stage_by : State → Connection → Stage
stage_by Free c = Waits
stage_by ParkWaiting c = Waits
stage_by LineWaiting c = Waits
stage_by Requested c = AskedHere
stage_by RemoteRequested c = AskedFrom c
stage_by HandedOver c = Taken

abbrev pub stage_of : Record → Stage
stage_of r = stage_by r.state r.connection

abbrev pub state_at : Side → Stage → State
state_at a Waits = waiting_on a
state_at a AskedHere = Requested
state_at a (AskedFrom c) = RemoteRequested
state_at a Taken = HandedOver

-- "On leaving state 4 the connection becomes 0."
abbrev pub connection_at : Stage → Connection
connection_at Waits = no_connection
connection_at AskedHere = no_connection
connection_at (AskedFrom c) = c
connection_at Taken = no_connection

abbrev pub held_record : Side → Stage → List ℕ → Invoke → Record
held_record a s call n = record { state = state_at a s; call = call; connection = connection_at s; count = n }

-- ---- the ten kinds

-- kinds 1 and 2: "To state 1. Message 1." "To state 2. No message."
abbrev pub greeting : Side → Option Message
greeting Position = Some ParkResult
greeting Line = None

-- "Count up by one"; "after 65,535 comes 0"
abbrev pub up : Invoke → Invoke
up n = record { 0 = (n.0 + 1) % 2 ^ 16 }

-- kinds 3 and 4: a waiting call goes to the stage given. Q-3: "Keep 7 for state 3, and use 11 for state 4 and 12 for state 5."
abbrev pub picked_up : Stage → Stage → Invoke → Option Message → Result Outcome Refusal
picked_up Waits to n m = Ok (Becomes to n m)
picked_up AskedHere to n m = Err PickupHere
picked_up (AskedFrom c) to n m = Err PickupElsewhere
picked_up Taken to n m = Err CallHandedOver

-- "The outstanding number is the count."
abbrev pub is_outstanding : Record → Invoke → Bool
is_outstanding r n = n.0 == r.count.0

abbrev pub if_outstanding : Bool → Outcome → Result Outcome Refusal
if_outstanding right u = cond right (Ok u) (Err NotOutstanding)

-- kind 5: "State 3: freed, no message. State 4: to 5, message 5."
abbrev pub resulted : Stage → Bool → Invoke → Result Outcome Refusal
resulted Waits right n = Err StateUnfit
resulted AskedHere right n = if_outstanding right (Freed None None)
resulted (AskedFrom c) right n = if_outstanding right (Becomes Taken n (Some (PickResult c)))
resulted Taken right n = Err StateUnfit

-- kind 6: "State 3: freed, message 7. State 4: back to 1 or 2, message 6."
abbrev pub failed : Stage → Bool → Invoke → Result Outcome Refusal
failed Waits right n = Err StateUnfit
failed AskedHere right n = if_outstanding right (Freed (Some ReleaseComplete) None)
failed (AskedFrom c) right n = if_outstanding right (Becomes Waits n (Some (PickError c Undefined)))
failed Taken right n = Err StateUnfit

-- Q-1: what a picker hears who waits for the result when the stay ends: "message 6 with error 1"
abbrev pub to_picker : Stage → Option Message
to_picker Waits = None
to_picker AskedHere = None
to_picker (AskedFrom c) = Some (PickError c Undefined)
to_picker Taken = None

-- kind 8: "Any occupied state: freed, no message." Q-1: in state 4 the picker hears of it
abbrev pub released : Stage → Outcome
released s = Freed (to_picker s) None

-- kind 7: "State 3 with the right invoke number: freed, no message. State 4 with the right number: freed, message 6. Every other
-- state or number: exactly as kind 8."
abbrev pub failed_in_release : Stage → Bool → Outcome
failed_in_release Waits right = released Waits
failed_in_release AskedHere right = cond right (Freed None None) (released AskedHere)
failed_in_release (AskedFrom c) right = cond right (Freed (Some (PickError c Undefined)) None) (released (AskedFrom c))
failed_in_release Taken right = released Taken

-- kind 9: "State 2: freed, no message."
abbrev pub answered : State → Result Outcome Refusal
answered Free = Err StateUnfit
answered ParkWaiting = Err StateUnfit
answered LineWaiting = Ok (Freed None None)
answered Requested = Err StateUnfit
answered RemoteRequested = Err StateUnfit
answered HandedOver = Err StateUnfit

-- is T3, T6 or T9 in the set
abbrev pub runs : ℕ → ℕ → Bool
runs set timer = cond (timer == 3) ((set % 2) == 1) (cond (timer == 6) ((set / 2 % 2) == 1) (cond (timer == 9) ((set / 4 % 2) == 1) false))

-- "T3: freed, message 7. T6: freed, message 7." Q-1: T3 in state 4 "sends message 7 and then message 6"; T6 never runs there
abbrev pub timed_out : Stage → Outcome
timed_out s = Freed (Some ReleaseComplete) (to_picker s)

-- kind 10; "T9 (house): as kind 6 in state 4."
abbrev pub expired : Bool → ℕ → Stage → Invoke → Result Outcome Refusal
expired running timer s n = cond running (cond (timer == 9) (failed s true n) (Ok (timed_out s))) (Err TimerNotRunning)

-- ---- the turn

-- a signal on a held call
abbrev pub turn_on : Signal → Side → Record → Event → Result Outcome Refusal
turn_on LocalPickup a r e = picked_up (stage_of r) AskedHere (up r.count) (Some (Connect (up r.count)))
turn_on PickRequest a r e = picked_up (stage_of r) (AskedFrom e.connection) (up r.count) (Some (Facility (up r.count)))
turn_on PickupResult a r e = resulted (stage_of r) (is_outstanding r e.invoke) r.count
turn_on PickupError a r e = failed (stage_of r) (is_outstanding r e.invoke) r.count
turn_on ErrorInRelease a r e = Ok (failed_in_release (stage_of r) (is_outstanding r e.invoke))
turn_on Release a r e = Ok (released (stage_of r))
turn_on Answered a r e = answered r.state
turn_on Expiry a r e = expired (runs (timer_set a r.state) e.timer) e.timer (stage_of r) r.count

-- what an event does at a place of side a with record r: "The count starts at 0 in a new stay"
abbrev pub turn : Option Rule → Side → Record → Event → Result Outcome Refusal
turn (Some (Start d)) a r e = Ok (Becomes Waits no_invoke (greeting d))
turn (Some (On s)) a r e = cond (is_free r.state) (Err CallNotHeld) (turn_on s a r e)
turn None a r e = Err UnknownKind
