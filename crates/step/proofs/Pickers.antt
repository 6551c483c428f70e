-- The picker of a call in state 4 hears once how it came out, and nobody else hears anything: by the four cases of `Stepped`, each from what
-- one turn sends (`told`, `silent`).
use mathlib.Core.Path.{◌≡◌, refl, sym, ap, ◌∙◌}
use mathlib.Core.Bool.{false, true≢false}
use mathlib.Core.Logic.{◌⊎◌, inl, inr, ⊎_elim}
use Prim.Native.Nat.{ℕ, ◌<◌}
use lib.ListN.{length}
use Rattle.std.specs.Prelude.{Option, Some, None}
use Rattle.laws.proofs.Bools.{impossible, equal_or}
use Rattle.table.specs.declared.Connection.{Connection}
use Rattle.table.specs.declared.State.TheVariants.{Free, RemoteRequested}
use Rattle.table.specs.declared.Side.{Side}
use Rattle.table.specs.declared.Side.TheVariants.{Position, Line}
use Rattle.table.specs.declared.Record.{Record}
use Rattle.table.specs.declared.Table.{Table}
use Rattle.table.specs.Places.{is_free, side_at, free_record, record_at, place_count}
use Rattle.table.specs.Ranks.{put}
use Rattle.table.proofs.Keep.{put_here, put_other}
use Rattle.table.proofs.States.{state_or}
use Rattle.events.specs.declared.Event.{Event}
use Rattle.events.specs.declared.rule.Rule.{Rule}
use Rattle.events.specs.declared.rule.Rule.TheVariants.{On}
use Rattle.events.specs.declared.rule.Signal.TheVariants.{PickRequest}
use Rattle.events.specs.declared.message.Message.{Message}
use Rattle.events.specs.declared.turn.Stage.{Stage}
use Rattle.events.specs.declared.turn.Stage.TheVariants.{Waits, AskedHere, AskedFrom, Taken}
use Rattle.events.specs.Rule.{rule_of}
use Rattle.events.specs.Message.{sent}
use Rattle.events.specs.Reply.{replies, RepliesOnce}
use Rattle.events.specs.Turn.{state_at, held_record, greeting}
use Rattle.events.proofs.Outcomes.{is_out}
use Rattle.events.proofs.Replies.{told, silent}
use Rattle.events.proofs.Refusals.{refused_not_0, Tells, nothing, parker, picker, tells}
use Rattle.step.specs.declared.Step.{Step}
use Rattle.step.specs.Step.{step_of}
use Rattle.step.specs.Promises.{Leaves4, PickerToldOnce, leaves, refused, RepliesHaveCause}
use Rattle.step.proofs.Stepped.{Stepped, kept, begun, ended, went_on, stepped}

free≢remote : Free ≡ RemoteRequested → ⊥
free≢remote q = impossible (cc q)

-- a call whose picker waits no longer is in another state
out_left : (a : Side) (g : Stage) → is_out g ≡ false → state_at a g ≡ RemoteRequested → ⊥
out_left Position Waits h q = impossible (cc q)
out_left Line Waits h q = impossible (cc q)
out_left a AskedHere h q = impossible (cc q)
out_left a (AskedFrom c) h q = true≢false h
out_left a Taken h q = impossible (cc q)

pub greeting_silent : (d : Side) → replies (sent (greeting d)) (sent None) ≡ 0
greeting_silent Position = refl
greeting_silent Line = refl

-- a refusal tells a picker only where a pickrequ is refused
pickrequ_or_quiet : (c : Connection) (k : Option Rule) (m : Option Message) → Tells c k m → (k ≡ Some (On PickRequest)) ⊎ (replies (sent m) (sent None) ≡ 0)
pickrequ_or_quiet c k m nothing = inr refl
pickrequ_or_quiet c k m parker = inr refl
pickrequ_or_quiet c k m (picker x) = inl refl

module _ (t : Table) (size : length t.places ≡ place_count) (e : Event) where
  -- ---- told once

  module _ (j : ℕ) (was : (record_at t j).state ≡ RemoteRequested) where
    -- a record that is put elsewhere is not why the call at j leaves its state
    elsewhere : (i : ℕ) → i < place_count → (new : Record) → (j ≡ i → ⊥) → (record_at (put t i new) j).state ≡ RemoteRequested
    elsewhere i inside new other = ap (λ (r : Record). r.state) (put_other t size i inside new j other) ∙ was

    once : (s : Step) → Stepped t size e s → ((record_at s.table j).state ≡ RemoteRequested → ⊥) → RepliesOnce (record_at t j).connection s.answer.first s.answer.second
    once s (kept w) left = absurd (left was)
    once s (begun d i sound rule room) left =
        ⊎_elim (λ same. absurd (true≢false (sym room.vacant ∙ ap is_free (ap (λ (k : ℕ). (record_at t k).state) (sym same) ∙ was))))
        (λ other. absurd (left (elsewhere i room.inside _ other))) (equal_or j i)
    once s (ended k i first second at turn) left =
        ⊎_elim (λ same. let h = told k (side_at j) (record_at t j) e was in rw same (rw turn at (rw same at h)))
        (λ other. absurd (left (elsewhere i at.inside _ other))) (equal_or j i)
    once s (went_on k i g n m at turn) left =
        ⊎_elim (λ same. let h = told k (side_at j) (record_at t j) e was in rw same (rw turn at (rw same at h)).0)
        (λ other. absurd (left (elsewhere i at.inside _ other))) (equal_or j i)

  -- ---- and not otherwise

  abbrev CauseOf : Step → Type 0
  CauseOf s = ((j : ℕ) × (j < place_count) × Leaves4 t s.table j) ⊎ ((s.answer.number ≡ 0 → ⊥) × (rule_of e.kind ≡ Some (On PickRequest)))

  cause : (s : Step) → Stepped t size e s → (replies s.answer.first s.answer.second ≡ 0 → ⊥) → CauseOf s
  cause s (kept w) some = ⊎_elim (λ rule. inr (refused_not_0 w, rule)) (λ quiet. absurd (some quiet)) (pickrequ_or_quiet e.connection (rule_of e.kind) _ (tells e.connection (rule_of e.kind) w))
  cause s (begun d i sound rule room) some = absurd (some (greeting_silent d))
  cause s (ended k i first second at turn) some =
      ⊎_elim (λ was. inl (
        i,
        at.inside,
        record {
          was = was;
          is_not = λ q. free≢remote (sym (ap (λ (r : Record). r.state) (put_here t size i at.inside free_record)) ∙ q);
        },
      ))
      (λ other. absurd (some (rw turn at (silent k (side_at i) (record_at t i) e other)))) (state_or (record_at t i).state RemoteRequested)
  cause s (went_on k i g n m at turn) some =
      ⊎_elim (λ was. inl (
        i,
        at.inside,
        record {
          was = was;
          is_not = λ q.
              out_left (side_at i) g (rw turn at (told k (side_at i) (record_at t i) e was)).1
              (sym (ap (λ (r : Record). r.state) (put_here t size i at.inside (held_record (side_at i) g (record_at t i).call n))) ∙ q);
        },
      ))
      (λ other. absurd (some (rw turn at (silent k (side_at i) (record_at t i) e other)))) (state_or (record_at t i).state RemoteRequested)

pub picker_told_once : PickerToldOnce
picker_told_once t e j all left = once t all.0 e j left.was (step_of t e) (stepped t all.0 e) left.is_not

pub replies_have_cause : RepliesHaveCause
replies_have_cause t e all some =
    ⊎_elim (λ x. leaves x.0 x.1 x.2) (λ x. refused x.0 x.1) (cause t all.0 e (step_of t e) (stepped t all.0 e) some)
