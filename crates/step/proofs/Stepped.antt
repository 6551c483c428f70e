-- Every step, seen as what it is: a refusal that keeps the table, a new stay at a free place, the end of a stay, or a stay that
-- goes on. All that is promised of a step goes by these four cases.
use mathlib.Core.Path.{◌≡◌, refl, sym, subst}
use mathlib.Core.Bool.{Bool, true, false, cond}
use mathlib.Core.List.{List}
use Prim.Native.Nat.{ℕ, ◌<◌}
use lib.ListN.{length}
use Rattle.std.specs.Prelude.{Option, Some, None, Result, Ok, Err}
use Rattle.laws.proofs.Bools.{impossible}
use Rattle.table.specs.declared.Invoke.{Invoke}
use Rattle.table.specs.declared.Side.{Side}
use Rattle.table.specs.declared.Record.{Record}
use Rattle.table.specs.declared.Table.{Table}
use Rattle.table.specs.Places.{is_free, side_at, no_invoke, free_record, record_at, place_count}
use Rattle.table.specs.Sound.{is_sound}
use Rattle.events.specs.declared.Event.{Event}
use Rattle.step.specs.declared.Step.{Step}
use Rattle.events.specs.declared.rule.Rule.{Rule}
use Rattle.events.specs.declared.rule.Rule.TheVariants.{Start, On}
use Rattle.events.specs.declared.rule.Signal.{Signal}
use Rattle.events.specs.declared.message.Message.{Message}
use Rattle.events.specs.declared.refusal.Refusal.{Refusal}
use Rattle.events.specs.declared.refusal.Refusal.TheVariants.{CallNotHeld, TableUnsound}
use Rattle.events.specs.declared.turn.Stage.{Stage}
use Rattle.events.specs.declared.turn.Stage.TheVariants.{Waits}
use Rattle.events.specs.declared.turn.Outcome.{Outcome}
use Rattle.events.specs.declared.turn.Outcome.TheVariants.{Freed, Becomes}
use Rattle.events.specs.Rule.{rule_of}
use Rattle.events.specs.Answers.{declined}
use Rattle.events.specs.Act.{changed, left}
use Rattle.events.specs.Taken.{outcome_number}
use Rattle.events.specs.Turn.{held_record, greeting, turn_on}
use Rattle.table.proofs.Keep.{put_same}
use Rattle.step.specs.Aim.{aim}
use Rattle.step.specs.Step.{refused_by, placed, carried_out, step_of}
use Rattle.step.proofs.Aims.{Room, aim_new_lem, aim_on}

-- a new record at an index, with its call's answer
abbrev pub done : Table → ℕ → Record → List ℕ → Option Message → Option Message → Step
done t i new call first second = placed t i (changed i (record_at t i) new call first second)

-- an outcome at an index
abbrev pub settled : Table → Event → ℕ → List ℕ → Result Outcome Refusal → Step
settled t e i call u = placed t i (left e i (record_at t i) call u)

-- a signal on a held call: the event's rule, the place, and that it is occupied
pub record Reached (t : Table) (e : Event) (s : Signal) (i : ℕ) : Type 0 where
  pub sound : is_sound t ≡ true
  pub rule : rule_of e.kind ≡ Some (On s)
  pub inside : i < place_count
  pub occupied : is_free (record_at t i).state ≡ false
  pub aimed : aim (Some (On s)) t e ≡ Ok i

pub data Stepped (t : Table) (size : length t.places ≡ place_count) (e : Event) : Step → Type 0 where
  kept : (w : Refusal) → Stepped t size e (refused_by t e w)
  begun : (d : Side) (i : ℕ) → is_sound t ≡ true → rule_of e.kind ≡ Some (Start d) → Room t size d e.call i
      → Stepped t size e (done t i (held_record (side_at i) Waits e.call no_invoke) e.call (greeting d) None)
  ended : (s : Signal) (i : ℕ) (first second : Option Message) → Reached t e s i → turn_on s (side_at i) (record_at t i) e ≡ Ok (Freed first second)
      → Stepped t size e (done t i free_record (record_at t i).call first second)
  went_on : (s : Signal) (i : ℕ) (g : Stage) (n : Invoke) (m : Option Message) → Reached t e s i → turn_on s (side_at i) (record_at t i) e ≡ Ok (Becomes g n m)
      → Stepped t size e (done t i (held_record (side_at i) g (record_at t i).call n) (record_at t i).call m None)

-- what is settled at a place has the number of its outcome
pub settled_number : (t : Table) (e : Event) (i : ℕ) (call : List ℕ) (u : Result Outcome Refusal) → (settled t e i call u).answer.number ≡ outcome_number u
settled_number t e i call (Err w) = refl
settled_number t e i call (Ok (Freed first second)) = refl
settled_number t e i call (Ok (Becomes g n m)) = refl

-- a refusal leaves the record as it was, and so the table
pub refused_stays : (t : Table) (e : Event) (i : ℕ) (call : List ℕ) (w : Refusal) → refused_by t e w ≡ settled t e i call (Err w)
refused_stays t e i call w j = record { table = sym (put_same t i) j; answer = declined e w }

module _ (t : Table) (size : length t.places ≡ place_count) (e : Event) where
  module _ (s : Signal) (i : ℕ) (reached : is_free (record_at t i).state ≡ false → Reached t e s i) where
    stays : (w : Refusal) → Stepped t size e (settled t e i (record_at t i).call (Err w))
    stays w = subst (Stepped t size e) (refused_stays t e i (record_at t i).call w) (kept w)

    outcome : (u : Result Outcome Refusal) → is_free (record_at t i).state ≡ false → turn_on s (side_at i) (record_at t i) e ≡ u → Stepped t size e (settled t e i (record_at t i).call u)
    outcome (Err w) f q = stays w
    outcome (Ok (Freed first second)) f q = ended s i first second (reached f) q
    outcome (Ok (Becomes g n m)) f q = went_on s i g n m (reached f) q

    on_held : (b : Bool) → is_free (record_at t i).state ≡ b
        → Stepped t size e (settled t e i (record_at t i).call (cond b (Err CallNotHeld) (turn_on s (side_at i) (record_at t i) e)))
    on_held true q = stays CallNotHeld
    on_held false q = outcome (turn_on s (side_at i) (record_at t i) e) q refl

  module _ (sound : is_sound t ≡ true) where
    by_aim : (k : Option Rule) → rule_of e.kind ≡ k → (a : Result ℕ Refusal) → aim k t e ≡ a → Stepped t size e (carried_out k t e a)
    by_aim k rule (Err w) q = kept w
    by_aim (Some (Start d)) rule (Ok i) q = begun d i sound rule (aim_new_lem t size d e i q)
    by_aim (Some (On s)) rule (Ok i) q =
        on_held s i (λ f. record { sound = sound; rule = rule; inside = (aim_on t size s e i q).0; occupied = f; aimed = q }) (is_free (record_at t i).state) refl
    by_aim None rule (Ok i) q = impossible cc

  -- THE VIEW
  pub stepped : Stepped t size e (step_of t e)
  stepped = by (is_sound t) refl
    where
      by : (b : Bool) → is_sound t ≡ b
          → Stepped t size e (cond b (carried_out (rule_of e.kind) t e (aim (rule_of e.kind) t e)) (refused_by t e TableUnsound))
      by true q = by_aim q (rule_of e.kind) refl (aim (rule_of e.kind) t e) refl
      by false q = kept TableUnsound
