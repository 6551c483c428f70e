-- At the image of a sound table, what is done octet by octet is the step of the machine: the answer is its answer, and what is left is the
-- image of its table. One record is put, and a record put in an image makes the image of the table with that record put (`place_put_lem`). An image
-- that was read is the image of its table (`image_written_back`), and a table by value is what is read from its image (`table_back`).
use Rattle.std.proofs.Common.{◌≡◌, ℕ, ◌<◌, Bool, true, false, cond, Option, Some, None, Result, Ok, Err, IfOk, eqb, List, length, sym, refl, ap, ◌∙◌, ne_eqb, eqb-true, arith}
use borrow.Author.Tests.{eqb-false}
use Rattle.laws.proofs.Bools.{and_left, and_right}
use Rattle.table.specs.declared.Record.{Record}
use Rattle.table.specs.declared.Table.{Table}
use Rattle.table.specs.Places.{side_at, record_at, place_count}
use Rattle.table.specs.Ranks.{put}
use Rattle.table.specs.Sound.{is_sound}
use Rattle.events.specs.declared.Event.{Event}
use Rattle.events.specs.declared.Acted.{Acted}
use Rattle.events.specs.declared.rule.Rule.{Rule}
use Rattle.events.specs.declared.rule.Rule.TheVariants.{Start, On}
use Rattle.events.specs.declared.refusal.Refusal.{Refusal}
use Rattle.events.specs.declared.turn.Outcome.{Outcome}
use Rattle.events.specs.declared.turn.Outcome.TheVariants.{Freed, Becomes}
use Rattle.events.specs.Rule.{rule_of}
use Rattle.events.specs.Refusal.{refusal_number}
use Rattle.events.specs.Turn.{turn}
use Rattle.events.specs.Act.{stay_call, left, acted}
use Rattle.step.specs.Aim.{aim}
use Rattle.step.specs.Step.{carried_out, step_any, step_of}
use Rattle.step.proofs.Aims.{aim_inside}
use Rattle.step.proofs.Promises.{refusal_keeps}
use Rattle.events.proofs.Refusals.{refused_not_0}
use Rattle.lines.specs.declared.BadLine.{BadLine}
use Rattle.lines.specs.declared.BadLine.TheVariants.{TooLong, WrongCount, BadNumber, BadCall}
use Rattle.lines.specs.EventLine.{read_line}
use Rattle.lines.specs.EventLine.{refusal_number as line_number}
use Rattle.lines.specs.Round.{EventInRange}
use Rattle.lent.specs.LineStep.{step_read}
use Rattle.lines.proofs.Ranged.{read_ranged}
use Rattle.image.specs.Image.{Fit, image_of, place_put, states_fit, places_sound, table_from, is_sound_image, image_octets}
use Rattle.image.specs.Round.{Octets}
use Rattle.image.proofs.Round.{test_of_image, table_back, fit_from, image_written_back}
use Rattle.image.proofs.Puts.{place_put_lem, put_fit}
use Rattle.lent.specs.Lent.{written_at, left_for, event_answer, event_image}
use Rattle.lent.specs.Kept.{answer_to_read, image_after_read, EventAnswersStep, EventLeavesStep, LineOctetByOctet, StepReadsBack}

-- the test of the octets of a table's image is the test of the table
pub tested : {t : Table} {octets : List ℕ} {sound : Bool} → sound ≡ places_sound octets → (octets ≡ image_of t) × Fit t → sound ≡ is_sound t
tested {t} e there = e ∙ ap places_sound there.0 ∙ test_of_image t there.1

-- what is left at a place has a call of 16 octets, where the event and the record have
module _ (e : Event) (i : ℕ) (r : Record) (given : length e.call ≡ 16) (held : length r.call ≡ 16) where
  left_long : (call : List ℕ) (u : Result Outcome Refusal) → length call ≡ 16 → length (left e i r call u).after.call ≡ 16
  left_long call (Err w) h = held
  left_long call (Ok (Freed first second)) h = refl
  left_long call (Ok (Becomes g n m)) h = h

  stay_long : (k : Option Rule) → length (stay_call k e r) ≡ 16
  stay_long (Some (Start d)) = given
  stay_long (Some (On s)) = held
  stay_long None = held

  pub acted_long : length (acted e i r).after.call ≡ 16
  acted_long = left_long (stay_call (rule_of e.kind) e r) (turn (rule_of e.kind) (side_at i) r e) (stay_long (rule_of e.kind))

-- ---- at the image of a table

module _ (t : Table) (f : Fit t) (sound : is_sound t ≡ true) (e : Event) (given : length e.call ≡ 16) where
  -- an accepted event's record, in its place
  place_kept : (i : ℕ) (a : Acted) → i < place_count → length a.after.call ≡ 16
      → (b : Bool) → cond b (place_put i a.after (image_of t)) (image_of t) ≡ cond b (image_of (put t i a.after)) (image_of t)
  place_kept i a inside whole true = place_put_lem t f i inside a.after whole
  place_kept i a inside whole false = refl

  by_aim : (k : Option Rule) → rule_of e.kind ≡ k → (a : Result ℕ Refusal) → aim k t e ≡ a
      → left_for (image_of t) e a ≡ cond (eqb (carried_out k t e a).answer.number 0) (image_of (carried_out k t e a).table) (image_of t)
  by_aim k rule (Err w) q = rw (ne_eqb (refusal_number w) 0 (refused_not_0 w))
  by_aim k rule (Ok i) q =
      let inside : i < place_count = aim_inside t f.size k e i q in
      let r : Record = record_at t i in
      ap (λ (u : Table). written_at (image_of t) i (acted e i (record_at u i))) (table_back t f)
      ∙ rw (← rule) (place_kept i (acted e i r) inside (acted_long e i r given (f.calls i inside)) (eqb (acted e i r).answer.number 0))

  pub answer_of : event_answer (image_of t) e ≡ (step_of t e).answer
  answer_of = rw sound (ap (λ (u : Table). (step_any u e).answer) (table_back t f))

  -- where the event is done, the image of the table after it
  pub image_of_lem : event_image (image_of t) e ≡ cond (eqb (step_of t e).answer.number 0) (image_of (step_of t e).table) (image_of t)
  image_of_lem =
      rw sound
      (ap (λ (u : Table). left_for (image_of t) e (aim (rule_of e.kind) u e)) (table_back t f)
      ∙ by_aim (rule_of e.kind) refl (aim (rule_of e.kind) t e) refl)

  -- .. and where it is refused too, since then the table stays
  pub image_after_lem : event_image (image_of t) e ≡ image_of (step_of t e).table
  image_after_lem = image_of_lem ∙ by (eqb (step_of t e).answer.number 0) refl
    where
      by : (b : Bool) → eqb (step_of t e).answer.number 0 ≡ b → cond b (image_of (step_of t e).table) (image_of t) ≡ image_of (step_of t e).table
      by true q = refl
      by false q = ap image_of (sym (refusal_keeps t e (f.size, f.wide) (eqb-false _ 0 q)))

  -- the table after it is as the types say
  fit_at : (a : Result ℕ Refusal) → aim (rule_of e.kind) t e ≡ a → Fit (carried_out (rule_of e.kind) t e a).table
  fit_at (Err w) q = f
  fit_at (Ok i) q =
      let inside : i < place_count = aim_inside t f.size (rule_of e.kind) e i q in
      put_fit t f i inside (acted e i (record_at t i)).after (acted_long e i (record_at t i) given (f.calls i inside))

  pub fit_after : Fit (step_of t e).table
  fit_after = rw sound (fit_at (aim (rule_of e.kind) t e) refl)

-- THE STEP, TAKEN AT THE IMAGE AND READ BACK
pub step_back : StepReadsBack
step_back t f sound e given =
    let there : table_from (event_image (image_of t) e) ≡ (step_of t e).table =
    ap table_from (image_after_lem t f sound e given) ∙ table_back (step_of t e).table (fit_after t f sound e given) in
    λ j. record { table = there j; answer = answer_of t f sound e given j }

-- ---- at an image that is read

module _ (image : List ℕ) (good : is_sound_image image ≡ true) where
  pub image_long : length image ≡ image_octets
  image_long = eqb-true (length image) image_octets (and_left (eqb (length image) image_octets) _ good)

  pub image_sound : is_sound (table_from image) ≡ true
  image_sound = and_right (states_fit image) _ (and_right (eqb (length image) image_octets) _ good)

  pub image_fit : Fit (table_from image)
  image_fit = fit_from image image_long

-- THE EVENT AT THE IMAGE, octet by octet
pub answer_kept : EventAnswersStep
answer_kept image octets good e given =
    ap (λ (o : List ℕ). event_answer o e) (sym (image_written_back image octets good))
    ∙ answer_of (table_from image) (image_fit image good) (image_sound image good) e given

pub image_kept : EventLeavesStep
image_kept image octets good e given =
    ap (λ (o : List ℕ). event_image o e) (sym (image_written_back image octets good))
    ∙ image_after_lem (table_from image) (image_fit image good) (image_sound image good) e given

-- a line that is refused has a number
bad_not_0 : (b : BadLine) → line_number b ≡ 0 → ⊥
bad_not_0 TooLong e = absurd (omega arith)
bad_not_0 WrongCount e = absurd (omega arith)
bad_not_0 BadNumber e = absurd (omega arith)
bad_not_0 BadCall e = absurd (omega arith)

module _ (image : List ℕ) (octets : Octets image) (good : is_sound_image image ≡ true) where
  abbrev held : Table
  held = table_from image

  -- the same, where a refused event leaves the image as it was
  image_left : (e : Event) → length e.call ≡ 16
      → event_image image e ≡ cond (eqb (step_of held e).answer.number 0) (image_of (step_of held e).table) image
  image_left e given =
      let written_back = image_written_back image octets good in
      ap (λ (o : List ℕ). event_image o e) (sym written_back)
      ∙ image_of_lem held (image_fit image good) (image_sound image good) e given
      ∙ ap (λ (o : List ℕ). cond (eqb (step_of held e).answer.number 0) (image_of (step_of held e).table) o) written_back

  -- by what the line reads as
  pub by_reading : (r : Result Event BadLine) → IfOk r EventInRange
      → (answer_to_read image r ≡ (step_read held r).answer)
      × (image_after_read image r ≡ cond (eqb (step_read held r).answer.number 0) (image_of (step_read held r).table) image)
  by_reading (Ok e) l = (answer_kept image octets good e l.call.long, image_left e l.call.long)
  by_reading (Err b) l = (refl, rw (ne_eqb (line_number b) 0 (bad_not_0 b)))

-- THE LINE AT THE IMAGE: the event that it says, or its refusal
pub line_kept : LineOctetByOctet
line_kept image octets good line = rw good (by_reading image octets good (read_line line) (read_ranged line).event)
