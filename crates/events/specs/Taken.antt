-- A call that is taken (document 02, Q-3): the number by which a clerk is told why, and that a picker elsewhere hears one error whatever the
-- number.
use Rattle.std.specs.Prelude.{◌≡◌, ℕ, Bool, true, Option, Some, Result, Ok, Err, ◌||◌, ◌==◌}
use Rattle.table.specs.declared.Connection.{Connection}
use Rattle.table.specs.declared.Invoke.{Invoke}
use Rattle.table.specs.declared.State.{State}
use Rattle.table.specs.declared.State.TheVariants.{Free, ParkWaiting, LineWaiting, Requested, RemoteRequested, HandedOver}
use Rattle.events.specs.declared.message.Message.{Message}
use Rattle.events.specs.declared.message.Message.TheVariants.{PickError}
use Rattle.events.specs.declared.message.ErrorValue.TheVariants.{CallAlreadyPickedUp}
use Rattle.events.specs.declared.refusal.Refusal.{Refusal}
use Rattle.events.specs.declared.turn.Stage.{Stage}
use Rattle.events.specs.declared.turn.Outcome.{Outcome}
use Rattle.events.specs.Refusal.{refusal_number, pick_request_refused}
use Rattle.events.specs.Turn.{stage_by, picked_up}

-- the number of an outcome: 0 where the event is done
abbrev pub outcome_number : Result Outcome Refusal → ℕ
outcome_number (Err w) = refusal_number w
outcome_number (Ok u) = 0

-- "Keep 7 for state 3, and use 11 for state 4 and 12 for state 5.": the number of a pickup, by the state of its call; a call that waits is to be
-- had. (No call is in a free record.)
abbrev pub pickup_number : State → ℕ
pickup_number Free = 0
pickup_number ParkWaiting = 0
pickup_number LineWaiting = 0
pickup_number Requested = 7
pickup_number RemoteRequested = 11
pickup_number HandedOver = 12

-- `pickup_numbered`: so is a pickup refused, whatever it would have led to
abbrev pub PickupNumbered : Type 0
PickupNumbered = (s : State) (c : Connection) (to : Stage) (n : Invoke) (m : Option Message) → outcome_number (picked_up (stage_by s c) to n m) ≡ pickup_number s

-- one of the three numbers
abbrev pub is_taken : ℕ → Bool
is_taken number = number == 7 || (number == 11 || number == 12)

-- `taken_alike`: "On the wire all three stay callAlreadyPickedUp."
abbrev pub TakenAlike : Type 0
TakenAlike = (w : Refusal) (c : Connection) → is_taken (refusal_number w) ≡ true → pick_request_refused w c ≡ Some (PickError c CallAlreadyPickedUp)
