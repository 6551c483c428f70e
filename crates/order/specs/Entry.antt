-- The paper's table of refusals, whole: what `park_step` answers to any image, line and answer buffer (document 01, "Refusal numbers", "Checked in this
-- order from the top"), row by row, with the sizes that document 02 gave them. Each statement is proved in `proofs/Entry.antt` under the name
-- that stands beside it.
use Rattle.std.specs.Prelude.{◌≡◌, false, cond, not, ◌&&◌, ◌||◌, List, [], ◌∷◌, ◌++◌, ℕ, zero, suc, ◌+◌, ◌<◌, eqb, ltb, length}
use Rattle.std.proofs.lemmas.List.Edits.{sets}
use Rattle.fields.specs.Parts.{field, tabs}
use Rattle.fields.specs.Numbers.{decimal}
use Rattle.lines.specs.EventLine.{longest_event, event_said}
use Rattle.lines.specs.BadField.{is_good}
use Rattle.lines.specs.AnswerLine.{answer_room}
use Rattle.image.specs.Image.{image_octets, places_sound, is_sound_image, table_from}
use Rattle.lent.specs.Lent.{step_on}
use Rattle.entry.specs.Entry.{is_short, ParkStep}
use Rattle.order.specs.Order.{Row, row, first_of, event_rows}

-- the first field that is bad, of k fields from field i on; 0 where all are good
abbrev pub first_bad_from : ℕ → ℕ → List ℕ → ℕ
first_bad_from i zero line = 0
first_bad_from i (suc k) line = cond (is_good i line) (first_bad_from (suc i) k line) i

-- of the seven
abbrev pub first_bad : List ℕ → ℕ
first_bad line = first_bad_from 1 7 line

-- the rows of a line, and those after them
abbrev pub line_rows : List ℕ → List Row → List Row
line_rows line after =
    -- line longer than 62 octets, line end not counted
    row 21 (ltb longest_event (length line))
    -- not exactly seven fields
    ∷ row 22 (not (eqb (tabs line + 1) 7))
    -- first bad field is a number; the second is the call
    ∷ row 23 (not (eqb (first_bad line) 0) && not (eqb (first_bad line) 2))
    -- first bad field is the call
    ∷ row 24 (eqb (first_bad line) 2)
    ∷ after

module _ (image line answer : List ℕ) where
  -- THE TABLE OF REFUSALS, WHOLE
  abbrev pub entry_rows : List Row
  entry_rows =
      -- answer buffer of the C entry shorter than 61 octets; Q-1: 77
      row 26 (ltb (length answer) answer_room)
      -- image not 2,016 octets; Q-4: 2,112; or table not sound
      ∷ row 25 (not (eqb (length image) image_octets) || not (places_sound image))
      -- 21 to 24, and then 1 to 12, of the event that the line says and the table that the image says
      ∷ line_rows line (event_rows (table_from image) (event_said line))

  -- the number of the answer; 26 has none
  abbrev pub number_at : ℕ
  number_at = cond (is_short answer) 26 (step_on image line).answer.number

-- `entry_in_order`: the number is that of the first row that holds, or 0
abbrev pub EntryInOrder : Type 0
EntryInOrder = (image line answer : List ℕ) → number_at image line answer ≡ first_of (entry_rows image line answer)

-- What comes of a call with this number: the image and the answer buffer before it, the count, and the two after it.
pub record Comes (number : ℕ) (image answer : List ℕ) (count : ℕ) (newImage newAnswer : List ℕ) : Type 0 where
  -- "0 only with refusal 26, which writes nothing"
  pub nothing : number ≡ 26 → (count ≡ 0) × (newAnswer ≡ answer)
  -- with any other number a line is written that begins with it, from the start of the buffer, and its octets are counted, line feed included
  pub a_line : (number ≡ 26 → ⊥)
      → (rest : List ℕ) × (newAnswer ≡ sets answer 0 (decimal number ++ (9 ∷ (rest ++ (10 ∷ []))))) × (count ≡ length (decimal number ++ (9 ∷ (rest ++ (10 ∷ []))))) × (0 < count)
  -- a refusal leaves the image
  pub image_stays : (number ≡ 0 → ⊥) → newImage ≡ image

-- `entry_answers`: of any result that meets the contract of `park_step`
abbrev pub EntryAnswers : Type 0
EntryAnswers = (image line answer : List ℕ) (count : ℕ) (newImage newAnswer : List ℕ) → ParkStep image line answer count newImage newAnswer
    → Comes (first_of (entry_rows image line answer)) image answer count newImage newAnswer

-- ---- what the paper says of lines besides

-- `feed_is_bad`: "a feed inside it makes its field bad": a field with a line feed in it is bad, whichever it is
abbrev pub FeedIsBad : Type 0
FeedIsBad = (line : List ℕ) (i : ℕ) (before after : List ℕ) → field i line ≡ before ++ (10 ∷ after) → is_good i line ≡ false

-- `feed_is_refused`: so no line with a feed in it is accepted, whatever the image and the buffer are
abbrev pub FeedIsRefused : Type 0
FeedIsRefused = (image answer before after : List ℕ) → number_at image (before ++ (10 ∷ after)) answer ≡ 0 → ⊥

-- `empty_is_22`: "An empty line is refused with 22": whatever the image and the buffer are, but where 26 or 25 comes first
abbrev pub EmptyIs22 : Type 0
EmptyIs22 = (image answer : List ℕ) → number_at image [] answer ≡ cond (is_short answer) 26 (cond (is_sound_image image) 22 25)
