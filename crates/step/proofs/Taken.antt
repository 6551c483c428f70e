-- A call that is taken: a pickup that names it does its turn at the place that holds it, and the turn goes by the state (`pickup_numbered`). On the
-- wire the refusals are alike (`taken_alike`), and an answer is no more than its refusal.
use mathlib.Core.Path.{◌≡◌, refl, ap, ◌∙◌}
use mathlib.Core.Bool.{true}
use mathlib.Core.Logic.{⊎_elim}
use Rattle.std.specs.Prelude.{Option, Some}
use Rattle.laws.proofs.Bools.{never}
use Rattle.table.specs.declared.Invoke.{Invoke}
use Rattle.table.specs.Places.{side_at, record_at}
use Rattle.events.specs.declared.message.Message.{Message}
use Rattle.events.specs.declared.message.Message.TheVariants.{PickError}
use Rattle.events.specs.declared.message.ErrorValue.TheVariants.{CallAlreadyPickedUp}
use Rattle.events.specs.declared.rule.Rule.TheVariants.{On}
use Rattle.events.specs.declared.rule.Signal.{Signal}
use Rattle.events.specs.declared.rule.Signal.TheVariants.{LocalPickup, PickRequest}
use Rattle.events.specs.declared.turn.Stage.{Stage}
use Rattle.events.specs.Rule.{rule_of}
use Rattle.events.specs.Refusal.{refusal_number}
use Rattle.events.specs.Taken.{pickup_number, is_taken}
use Rattle.events.specs.Answers.{saying}
use Rattle.events.specs.Turn.{stage_of, picked_up, turn_on}
use Rattle.events.proofs.Refusals.{pickup_numbered, taken_alike}
use Rattle.step.specs.declared.Step.{Step}
use Rattle.step.specs.Aim.{aim, aim_named}
use Rattle.step.specs.Step.{step_of}
use Rattle.step.specs.Promises.{TellsWhy, TakenAnswer}
use Rattle.step.proofs.Stepped.{Stepped, kept, begun, ended, went_on, settled_number, stepped}
use Rattle.step.proofs.Promises.{on_held}

pub tells_why : TellsWhy
tells_why t e all sound kind choice j inside held =
    ⊎_elim (λ q. at LocalPickup _ _ _ (rw q) (rw choice) refl) (λ q. at PickRequest _ _ _ (rw q) (rw choice) refl) kind
  where
    at : (k : Signal) (to : Stage) (n : Invoke) (m : Option Message) → rule_of e.kind ≡ Some (On k) → aim (Some (On k)) t e ≡ aim_named t e
        → turn_on k (side_at j) (record_at t j) e ≡ picked_up (stage_of (record_at t j)) to n m → (step_of t e).answer.number ≡ pickup_number (record_at t j).state
    at k to n m rule named turn =
        on_held t all e sound j inside held k rule named (λ (s : Step). s.answer.number ≡ pickup_number (record_at t j).state)
        (rw turn (settled_number t e j (record_at t j).call (picked_up (stage_of (record_at t j)) to n m)) ∙ pickup_numbered (record_at t j).state (record_at t j).connection to n m)

pub taken_answer : TakenAnswer
taken_answer t e all kind taken = by (step_of t e) (stepped t all.0 e) taken
  where
    by : (s : Step) → Stepped t all.0 e s → is_taken s.answer.number ≡ true → s.answer ≡ saying s.answer.number (Some (PickError e.connection CallAlreadyPickedUp))
    by s (kept w) h = rw kind (ap (saying (refusal_number w)) (taken_alike w e.connection h))
    by s (begun d i sound rule room) h = never h
    by s (ended k i first second at turn) h = never h
    by s (went_on k i g n m at turn) h = never h
