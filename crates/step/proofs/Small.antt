-- How large the numbers of an answer can be: each of its fields comes from a small enumeration, or from the timer table.
use mathlib.Core.Path.{◌≡◌, refl}
use mathlib.Core.Bool.{Bool, true, false, cond}
use mathlib.Core.List.{List}
use Prim.Native.Nat.{ℕ, ◌+◌, ◌≤◌}
use native.Mathlib.Omega.{arith}
use lib.Dec.{lit≤, ltb}
use borrow.Author.Tests.{ltb-true}
use Rattle.std.specs.Prelude.{Option, Some, None}
use Rattle.table.specs.declared.State.{State}
use Rattle.table.specs.declared.Side.{Side}
use Rattle.table.specs.declared.Record.{Record}
use Rattle.table.specs.declared.Table.{Table}
use Rattle.table.specs.Places.{no_place, place_at, side_at, no_invoke, free_record, record_at, place_count}
use Rattle.table.specs.Timers.{started_set}
use Rattle.table.proofs.States.{state_below}
use Rattle.table.proofs.Laws.{timer_below}
use Rattle.step.specs.declared.Step.{Step}
use Rattle.events.specs.declared.message.Message.{Message}
use Rattle.events.specs.declared.message.Message.TheVariants.{ParkResult, ParkError, Connect, Facility, PickResult, PickError, ReleaseComplete}
use Rattle.events.specs.declared.message.ErrorValue.TheVariants.{Undefined, CallAlreadyPickedUp}
use Rattle.events.specs.declared.turn.Stage.TheVariants.{Waits}
use Rattle.events.specs.Rule.{rule_of}
use Rattle.events.specs.Turn.{held_record, greeting}
use Rattle.events.specs.Message.{sent}
use Rattle.events.specs.Refusal.{refusal_number, refusal_message}
use Rattle.events.specs.Answers.{saying}
use Rattle.events.proofs.Refusals.{numbered}
use Rattle.step.specs.Step.{step_of}
use Rattle.step.specs.Promises.{SmallSent, Small, AnswersSmall}
use Rattle.step.proofs.Stepped.{Stepped, kept, begun, ended, went_on, stepped, done}

message_below : (m : Option Message) → (sent m).message ≤ 7
message_below None = lit≤ tt
message_below (Some ParkResult) = lit≤ tt
message_below (Some ParkError) = lit≤ tt
message_below (Some (Connect n)) = lit≤ tt
message_below (Some (Facility n)) = lit≤ tt
message_below (Some (PickResult c)) = lit≤ tt
message_below (Some (PickError c x)) = lit≤ tt
message_below (Some ReleaseComplete) = lit≤ tt

error_below : (m : Option Message) → (sent m).error ≤ 2
error_below None = lit≤ tt
error_below (Some ParkResult) = lit≤ tt
error_below (Some ParkError) = lit≤ tt
error_below (Some (Connect n)) = lit≤ tt
error_below (Some (Facility n)) = lit≤ tt
error_below (Some (PickResult c)) = lit≤ tt
error_below (Some (PickError c Undefined)) = lit≤ tt
error_below (Some (PickError c CallAlreadyPickedUp)) = lit≤ tt
error_below (Some ReleaseComplete) = lit≤ tt

started_below : (a : Side) (s u : State) → started_set a s u ≤ 7
started_below a s u = omega (arith, timer_below a u)

place_below : (i : ℕ) → (place_at i).0 ≤ place_count
place_below i = by (ltb i place_count) refl
  where
    by : (b : Bool) → ltb i place_count ≡ b → (cond b (record { 0 = i + 1 }) no_place).0 ≤ place_count
    by true h = omega (arith, ltb-true i place_count h)
    by false h = lit≤ tt

sent_small : (m : Option Message) → SmallSent (sent m)
sent_small m = record { message = message_below m; error = error_below m }

pub saying_small : (n : ℕ) (m : Option Message) → n ≤ 25 → Small (saying n m)
saying_small n m h = record {
  number = h;
  place = lit≤ tt;
  state = lit≤ tt;
  first = sent_small m;
  started = lit≤ tt;
  stopped = lit≤ tt;
  second = sent_small None;
}

done_small : (t : Table) (i : ℕ) (new : Record) (call : List ℕ) (first second : Option Message) → Small (done t i new call first second).answer
done_small t i new call first second = record {
  number = lit≤ tt;
  place = place_below i;
  state = omega (arith, state_below new.state);
  first = sent_small first;
  started = started_below (side_at i) (record_at t i).state new.state;
  stopped = started_below (side_at i) new.state (record_at t i).state;
  second = sent_small second;
}

pub answers_small : AnswersSmall
answers_small t e all = by (step_of t e) (stepped t all.0 e)
  where
    by : (s : Step) → Stepped t all.0 e s → Small s.answer
    by s (kept w) = saying_small (refusal_number w) (refusal_message (rule_of e.kind) w e.connection) (numbered w).to
    by s (begun d i sound rule room) = done_small t i (held_record (side_at i) Waits e.call no_invoke) e.call (greeting d) None
    by s (ended k i first second at turn) = done_small t i free_record (record_at t i).call first second
    by s (went_on k i g n m at turn) = done_small t i (held_record (side_at i) g (record_at t i).call n) (record_at t i).call m None
