-- A line at an image is the line at its table, and what the code does octet by octet is the step of the machine. Each statement is proved under the
-- name that stands beside it, the lines in `proofs/Tables.antt` and what is done octet by octet in `proofs/Kept.antt`. They speak of an image
-- that is read: octets of a sound table (`is_sound_image`).
use Rattle.std.specs.Prelude.{◌≡◌, ℕ, true, None, Result, Ok, Err, List, length}
use Rattle.table.specs.declared.Table.{Table}
use Rattle.table.specs.Places.{call_octets}
use Rattle.table.specs.Sound.{is_sound}
use Rattle.events.specs.declared.Event.{Event}
use Rattle.events.specs.declared.Answer.{Answer}
use Rattle.events.specs.Answers.{saying}
use Rattle.step.specs.declared.Step.{Step}
use Rattle.step.specs.Step.{step_of}
use Rattle.lines.specs.declared.BadLine.{BadLine}
use Rattle.lines.specs.EventLine.{refusal_number, read_line}
use Rattle.image.specs.Image.{Fit, image_of, table_from, is_sound_image, read_image}
use Rattle.image.specs.Round.{Octets}
use Rattle.lent.specs.LineStep.{line_step}
use Rattle.lent.specs.Lent.{step_on, left_on, event_answer, event_image}

-- ---- a line at an image that is read

-- `on_read`: it is the line at the table that was read, with its answer
abbrev pub LineAtTable : Type 0
LineAtTable = (image line : List ℕ) → is_sound_image image ≡ true → step_on image line ≡ line_step (table_from image) line

-- `left_read`: what is left is the image of the table after the line, whether it is accepted or refused
abbrev pub LeavesItsImage : Type 0
LeavesItsImage = (image line : List ℕ) → Octets image → is_sound_image image ≡ true → left_on image line ≡ image_of (line_step (table_from image) line).table

-- `read_after`: and that is read again, as the table after the line
abbrev pub ReadAgain : Type 0
ReadAgain = (image line : List ℕ) → Octets image → is_sound_image image ≡ true
    → read_image (left_on image line) ≡ Ok (line_step (table_from image) line).table

-- `stays_read`: so no line makes a sound image unsound
abbrev pub StaysRead : Type 0
StaysRead = (image line : List ℕ) → Octets image → is_sound_image image ≡ true → is_sound_image (left_on image line) ≡ true

-- ---- octet by octet; of an event in code its type says how long its call is

-- `answer_kept`: the answer to an event is that of the step at the table that was read
abbrev pub EventAnswersStep : Type 0
EventAnswersStep = (image : List ℕ) → Octets image → is_sound_image image ≡ true → (e : Event) → length e.call ≡ call_octets
    → event_answer image e ≡ (step_of (table_from image) e).answer

-- `image_kept`: what the event leaves is the image of the table after the step, whether it is accepted or refused
abbrev pub EventLeavesStep : Type 0
EventLeavesStep = (image : List ℕ) → Octets image → is_sound_image image ≡ true → (e : Event) → length e.call ≡ call_octets
    → event_image image e ≡ image_of (step_of (table_from image) e).table

-- what is answered, and left, to a line that was read: the event at the image, or the refusal
abbrev pub answer_to_read : List ℕ → Result Event BadLine → Answer
answer_to_read image (Ok e) = event_answer image e
answer_to_read image (Err b) = saying (refusal_number b) None

abbrev pub image_after_read : List ℕ → Result Event BadLine → List ℕ
image_after_read image (Ok e) = event_image image e
image_after_read image (Err b) = image

-- `line_kept`: the line at the image is the event that it says, octet by octet, or its refusal
abbrev pub LineOctetByOctet : Type 0
LineOctetByOctet = (image : List ℕ) → Octets image → is_sound_image image ≡ true → (line : List ℕ)
    → (answer_to_read image (read_line line) ≡ (step_on image line).answer) × (image_after_read image (read_line line) ≡ left_on image line)

-- `step_back`: of a table by value, the step taken at its image and read back is its step
abbrev pub StepReadsBack : Type 0
StepReadsBack = (t : Table) → Fit t → is_sound t ≡ true → (e : Event) → length e.call ≡ call_octets
    → ◌≡◌ {A = Step} (record { table = table_from (event_image (image_of t) e); answer = event_answer (image_of t) e }) (step_of t e)
