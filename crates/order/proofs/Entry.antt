-- The number of every answer at the C entry is that of the first row that holds. 26 and 25 are looked for first; then what the fault of the line says
-- of its length, its tabs and its fields (`fault_right`, `bad_field_stands`) is what rows 21 to 24 ask; and an event is answered by `in_order`.
use mathlib.Core.Path.{◌≡◌, refl, sym, ap, ◌∙◌}
use mathlib.Core.Bool.{Bool, true, false, cond, not, ◌&&◌, ◌||◌}
use mathlib.Core.Logic.{⊎_elim}
use mathlib.Core.List.{List, [], ◌∷◌, ◌++◌, append_assoc}
use Prim.Native.Nat.{ℕ, zero, suc, ◌+◌, ◌≤◌, ◌<◌}
use native.Mathlib.Omega.{arith}
use lib.Dec.{eqb, ltb}
use lib.ListN.{length, drop, length-append}
use lib.Seq.{sets}
use borrow.Author.Tests.{eqb-true, eq-eqb, ne_eqb, lt-ltb, le-ltb}
use Rattle.std.specs.Prelude.{Result, Ok, Err}
use Rattle.std.specs.Result.{result_err}
use Rattle.laws.proofs.Bools.{and_right, not_both, equal_or}
use Rattle.fields.specs.declared.Fault.{Fault}
use Rattle.fields.specs.declared.Fault.TheVariants.{TooLong, WrongCount, BadField}
use Rattle.fields.specs.declared.Fields.{Fields}
use Rattle.fields.specs.Parts.{tabs}
use Rattle.fields.specs.Numbers.{decimal}
use Rattle.fields.specs.Line.{line_from}
use Rattle.fields.specs.FirstBad.{Verdict, RightSize}
use Rattle.fields.proofs.FirstBad.{fault_right}
use Rattle.table.specs.declared.Table.{Table}
use Rattle.table.specs.Sound.{is_sound}
use Rattle.events.specs.declared.Event.{Event}
use Rattle.events.specs.declared.Answer.{Answer}
use Rattle.step.specs.Step.{step_of}
use Rattle.step.proofs.Small.{answers_small}
use Rattle.lent.specs.LineStep.{step_read, line_step}
use Rattle.lent.specs.Lent.{step_at, step_on}
use Rattle.entry.specs.Entry.{is_short}
use Rattle.lines.specs.declared.BadLine.{BadLine}
use Rattle.lines.specs.declared.BadLine.TheVariants.{BadNumber, BadCall}
use Rattle.lines.specs.EventLine.{event_fields, longest_event, reading, bad_line, taken, blamed, refusal_number, number_in, read_line, event_or_zeros, event_said, bad_field}
use Rattle.lines.specs.BadField.{is_good, BadFieldStands}
use Rattle.lines.specs.AnswerLine.{answer_fields, answer_values, answer_line}
use Rattle.lines.proofs.BadField.{bad_field_stands}
use Rattle.lines.proofs.Faults.{refusal_most, is_read}
use Rattle.image.specs.Image.{image_octets, image_of, states_fit, places_sound, is_sound_image, table_from}
use Rattle.image.proofs.Round.{size_from, wide_from}
use Rattle.order.specs.Order.{Row, first_of, event_rows}
use Rattle.order.specs.Entry.{first_bad_from, first_bad, line_rows, Comes, EntryInOrder, EntryAnswers, FeedIsRefused, EmptyIs22}
use Rattle.order.proofs.Order.{in_order}
use Rattle.order.proofs.Feeds.{feed_stands}
pub use Rattle.order.proofs.Feeds.{feed_is_bad}

-- ---- the first bad field

first_bad_lem : (line : List ℕ) (m : ℕ) → is_good m line ≡ false → (k i : ℕ) → ((j : ℕ) → i ≤ j → j < m → is_good j line ≡ true) → i ≤ m → m < i + k → first_bad_from i k line ≡ m
first_bad_lem line m bad zero i good low high = absurd (omega arith)
first_bad_lem line m bad (suc k) i good low high =
    ⊎_elim (λ e. ap (λ (b : Bool). cond b (first_bad_from (suc i) k line) i) (ap (λ (n : ℕ). is_good n line) e ∙ bad) ∙ e)
    (λ n. ap (λ (b : Bool). cond b (first_bad_from (suc i) k line) i) (good i (omega arith) (omega (arith, n)))
    ∙ first_bad_lem line m bad k (suc i) (λ j h. good j (omega arith)) (omega (arith, n)) (omega arith))
    (equal_or i m)

none_bad : (line : List ℕ) (k i : ℕ) → ((j : ℕ) → i ≤ j → j < i + k → is_good j line ≡ true) → first_bad_from i k line ≡ 0
none_bad line zero i good = refl
none_bad line (suc k) i good =
    ap (λ (b : Bool). cond b (first_bad_from (suc i) k line) i) (good i (omega arith) (omega arith)) ∙ none_bad line k (suc i) (λ j h l. good j (omega arith) (omega arith))

-- ---- the line

-- the number of a line: that of its refusal, or with an event the one that the rows after those of a line give
abbrev number_by : ℕ → Result Event BadLine → ℕ
number_by n (Ok e) = n
number_by n (Err b) = refusal_number b

module _ (line : List ℕ) where
  abbrev Meaning : Result Fields Fault → Type 0
  Meaning r = Verdict longest_event event_fields line (result_err r)

  meaning : Meaning (reading line)
  unfolding reading
  meaning = fault_right longest_event event_fields line

  is_taken : read_line line ≡ taken (reading line)
  unfolding read_line
  is_taken = refl

  field_is : (i : ℕ) → reading line ≡ Err (BadField i) → bad_field line ≡ i
  unfolding bad_field
  field_is i q = ap blamed q

  -- rows 21 and 22 do not hold of a line of the right size
  module _ (r : RightSize longest_event event_fields line) where
    not_long : ltb longest_event (length line) ≡ false
    not_long = le-ltb longest_event (length line) r.short

    seven : eqb (tabs line + 1) 7 ≡ true
    seven = eq-eqb (tabs line + 1) 7 r.as_many

  blames : (i : ℕ) → reading line ≡ Err (BadField i) → Meaning (Err (BadField i)) → first_bad line ≡ i
  blames i q says =
      let here : bad_field line ≡ i = field_is i q in
      let b : BadFieldStands line = bad_field_stands line in
      let from : 0 < bad_field line = omega (arith, here, says.1.counted) in
      first_bad_lem line (bad_field line) (b.bad from) 7 1 (λ j low high. b.good_before j (omega arith) high) (omega (arith, from)) (omega (arith, b.one_of_seven)) ∙ here

  blames_none : (f : Fields) → reading line ≡ Ok f → first_bad line ≡ 0
  blames_none f q =
      let none : number_in (read_line line) ≡ 0 = ap number_in (is_taken ∙ ap taken q) in
      none_bad line 7 1 (λ j low high. (bad_field_stands line).all_good none j (omega arith) (omega arith))

  -- rows 21 to 24 refuse by the number of the fault, and let a line without one through
  by_fault : (r : Result Fields Fault) → reading line ≡ r → Meaning r → (after : List Row) → first_of (line_rows line after) ≡ number_by (first_of after) (taken r)
  by_fault (Ok f) q says after = rw (not_long says.0, seven says.0, blames_none f q)
  by_fault (Err TooLong) q says after = rw (lt-ltb longest_event (length line) says)
  by_fault (Err WrongCount) q says after =
      let short : ltb longest_event (length line) ≡ false = le-ltb longest_event (length line) says.0 in
      let other : eqb (tabs line + 1) 7 ≡ false = ne_eqb (tabs line + 1) 7 (λ e. says.1 (record { short = says.0; few = omega arith; as_many = e })) in
      rw (short, other)
  by_fault (Err (BadField i)) q says after =
      let some : eqb i 0 ≡ false = ne_eqb i 0 (λ e. omega (arith, says.1.counted)) in
      rw (not_long says.0, seven says.0, blames i q says, some) (by (eqb i 2))
    where
      by : (b : Bool) → cond (true && not b) 23 (cond b 24 (first_of after)) ≡ refusal_number (cond b BadCall BadNumber)
      by true = refl
      by false = refl

  line_rows_lem : (after : List Row) → first_of (line_rows line after) ≡ number_by (first_of after) (read_line line)
  line_rows_lem after = by_fault (reading line) refl meaning after ∙ ap (number_by (first_of after)) (sym is_taken)

-- ---- the entry

module _ (image line : List ℕ) where
  abbrev table : Table
  table = table_from image

  abbrev said : Event
  said = event_said line

  -- an event that a line says, at the table of a sound image
  event_rows_lem : is_sound table ≡ true → (step_of table said).answer.number ≡ first_of (event_rows table said)
  event_rows_lem sound = in_order table said (size_from image, wide_from image) ∙ rw sound

  said_is : event_or_zeros (read_line line) ≡ said
  unfolding event_said
  said_is = refl

  -- the line at the table
  at_table : is_sound table ≡ true → (line_step table line).answer.number ≡ first_of (line_rows line (event_rows table said))
  at_table sound = by (read_line line) said_is ∙ sym (line_rows_lem line (event_rows table said))
    where
      by : (r : Result Event BadLine) → event_or_zeros r ≡ said → (step_read table r).answer.number ≡ number_by (first_of (event_rows table said)) r
      by (Ok e) q = ap (λ (x : Event). (step_of table x).answer.number) q ∙ event_rows_lem sound
      by (Err b) q = refl

  -- the line at the image
  at_image : (step_on image line).answer.number
      ≡ cond (not (eqb (length image) image_octets) || not (places_sound image)) 25 (first_of (line_rows line (event_rows table said)))
  at_image = by (eqb (length image) image_octets) (places_sound image) refl
    where
      by : (a b : Bool) → places_sound image ≡ b
          → (step_at (cond (a && b) (Ok table) (Err (record {}))) line).answer.number
          ≡ cond (not a || not b) 25 (first_of (line_rows line (event_rows table said)))
      by true true q = at_table (and_right (states_fit image) (is_sound table) q)
      by true false q = refl
      by false true q = refl
      by false false q = refl

pub entry_in_order : EntryInOrder
entry_in_order image line answer = ap (λ (n : ℕ). cond (is_short answer) 26 n) (at_image image line)

-- ---- what is written

-- the line of an answer begins with its number and a tab, and ends with the feed
abbrev after_number : Answer → List ℕ
after_number a = line_from (drop 1 answer_fields) 1 (answer_values a) a.call

number_first : (a : Answer) → answer_line a ≡ decimal a.number ++ (9 ∷ (after_number a ++ (10 ∷ [])))
unfolding answer_line line_from
number_first a = append_assoc (decimal a.number) (9 ∷ after_number a) (10 ∷ [])

some_octets : (a : Answer) → 0 < length (answer_line a)
some_octets a = rw (number_first a) (omega (arith, length-append (decimal a.number) (9 ∷ (after_number a ++ (10 ∷ [])))))

-- no answer has 26
not_26 : (image line : List ℕ) → (step_on image line).answer.number ≤ 25
not_26 image line = by (is_sound_image image)
  where
    at_line : (r : Result Event BadLine) → (step_read (table_from image) r).answer.number ≤ 25
    at_line (Ok e) = (answers_small (table_from image) e (size_from image, wide_from image)).number
    at_line (Err b) = omega (arith, refusal_most b)

    by : (b : Bool) → (step_at (cond b (Ok (table_from image)) (Err (record {}))) line).answer.number ≤ 25
    by true = at_line (read_line line)
    by false = omega arith

pub entry_answers : EntryAnswers
entry_answers image line answer count newImage newAnswer done =
    rw (← entry_in_order image line answer) (by (is_short answer) (eqb a.number 0) refl done.0 done.1 done.2)
  where
    a : Answer
    a = (step_on image line).answer

    by : (b c : Bool) → eqb a.number 0 ≡ c → count ≡ cond b 0 (length (answer_line a)) → newImage ≡ cond b image (cond c (image_of (step_on image line).table) image)
        → newAnswer ≡ cond b answer (sets answer 0 (answer_line a)) → Comes (cond b 26 a.number) image answer count newImage newAnswer
    by true c z n i w = record { nothing = λ q. (n, w); a_line = λ q. absurd (q refl); image_stays = λ q. i }
    by false c z n i w = record {
      nothing = λ q. absurd (omega (arith, q, not_26 image line));
      a_line = λ q. (after_number a, w ∙ ap (sets answer 0) (number_first a), n ∙ ap length (number_first a), rw n (some_octets a));
      image_stays = λ q. i ∙ kept c z q;
    }
      where
        kept : (c : Bool) → eqb a.number 0 ≡ c → (a.number ≡ 0 → ⊥) → cond c (image_of (step_on image line).table) image ≡ image
        kept true z q = absurd (q (eqb-true a.number 0 z))
        kept false z q = refl

-- ---- lines

feed_unread : (a b : List ℕ) → number_in (read_line (a ++ (10 ∷ b))) ≡ 0 → ⊥
feed_unread a b accepted =
    let line : List ℕ = a ++ (10 ∷ b) in
    let s = feed_stands a b in
    let size : RightSize longest_event event_fields line = by line (reading line) (meaning line) (ap number_in (sym (is_taken line)) ∙ accepted) in
    let good : is_good (suc s.index) line ≡ true = (bad_field_stands line).all_good accepted (suc s.index) (omega arith) (omega (arith, s.within, size.as_many)) in
    not_both good (feed_is_bad line (suc s.index) s.left s.right s.there)
  where
    by : (line : List ℕ) (r : Result Fields Fault) → Meaning line r → number_in (taken r) ≡ 0 → RightSize longest_event event_fields line
    by line (Ok f) says q = says.0
    by line (Err f) says q = absurd (cc ((is_read (Err (bad_line f)) q).1))

pub feed_is_refused : FeedIsRefused
feed_is_refused image answer a b = by (is_short answer) bad (at_image image line ∙ ap (λ (n : ℕ). cond bad 25 n) (line_rows_lem line rows))
  where
    line : List ℕ
    line = a ++ (10 ∷ b)

    rows : List Row
    rows = event_rows (table_from image) (event_said line)

    bad : Bool
    bad = not (eqb (length image) image_octets) || not (places_sound image)

    refused : (r : Result Event BadLine) → read_line line ≡ r → number_by (first_of rows) r ≡ 0 → ⊥
    refused (Ok e) q z = feed_unread a b (ap number_in q)
    refused (Err w) q z = feed_unread a b (ap number_in q ∙ z)

    by : (short unsound : Bool) → (step_on image line).answer.number ≡ cond unsound 25 (number_by (first_of rows) (read_line line))
        → cond short 26 (step_on image line).answer.number ≡ 0 → ⊥
    by true unsound h e = omega (arith, e)
    by false true h e = omega (arith, sym h ∙ e)
    by false false h e = refused (read_line line) refl (sym h ∙ e)

pub empty_is_22 : EmptyIs22
empty_is_22 image answer = ap (λ (n : ℕ). cond (is_short answer) 26 n) (at_image image [] ∙ by (eqb (length image) image_octets) (places_sound image))
  where
    by : (a b : Bool) → cond (not a || not b) 25 (first_of (line_rows [] (event_rows (table_from image) (event_said [])))) ≡ cond (a && b) 22 25
    by true true = refl
    by true false = refl
    by false true = refl
    by false false = refl
