-- A table that is kept as its image, in octets that the caller lends: the line at an image (`step_on`, `left_on`), and what the code does
-- octet by octet, for any octets. At the image of a sound table the two agree (`specs/Kept.antt`).
use Rattle.std.specs.Prelude.{◌≡◌, ℕ, cond, None, Result, Ok, Err, List, ◌==◌}
use Rattle.table.specs.declared.Table.{Table}
use Rattle.table.specs.declared.Unsound.{Unsound}
use Rattle.table.specs.Places.{record_at, empty_table}
use Rattle.table.specs.Sound.{unsound_number}
use Rattle.events.specs.declared.Event.{Event}
use Rattle.events.specs.declared.Answer.{Answer}
use Rattle.events.specs.declared.Acted.{Acted}
use Rattle.events.specs.declared.refusal.Refusal.{Refusal}
use Rattle.events.specs.Rule.{rule_of}
use Rattle.events.specs.Answers.{saying}
use Rattle.events.specs.Act.{acted}
use Rattle.step.specs.declared.Step.{Step}
use Rattle.step.specs.Aim.{aim}
use Rattle.step.specs.Step.{carried_out, step_any}
use Rattle.lent.specs.LineStep.{line_step}
use Rattle.image.specs.Image.{image_of, place_put, table_from, read_image}

-- ---- the line at an image

-- the line at the table that was read; an image that is refused has the answer with zeros but for its number, and no table to step
abbrev pub step_at : Result Table Unsound → List ℕ → Step
step_at (Ok t) line = line_step t line
step_at (Err w) line = record { table = empty_table; answer = saying unsound_number None }

abbrev pub step_on : List ℕ → List ℕ → Step
step_on image line = step_at (read_image image) line

-- "An accepted event leaves the image of the new table." Any other leaves the image as it was.
abbrev pub left_on : List ℕ → List ℕ → List ℕ
left_on image line = cond ((step_on image line).answer.number == 0) (image_of (step_on image line).table) image

-- What a function gives and leaves that takes a line at an image.
abbrev pub AnswersLine : List ℕ → List ℕ → Answer → List ℕ → Type 0
AnswersLine image line answer after = (answer ≡ (step_on image line).answer) × (after ≡ left_on image line)

-- ---- octet by octet

-- what an event leaves at a place is put there where it is accepted
abbrev pub written_at : List ℕ → ℕ → Acted → List ℕ
written_at image i a = cond (a.answer.number == 0) (place_put i a.after image) image

abbrev pub left_for : List ℕ → Event → Result ℕ Refusal → List ℕ
left_for image e (Err w) = image
left_for image e (Ok i) = written_at image i (acted e i (record_at (table_from image) i))

-- the event at the image
abbrev pub event_answer : List ℕ → Event → Answer
event_answer image e = (step_any (table_from image) e).answer

abbrev pub event_image : List ℕ → Event → List ℕ
event_image image e = left_for image e (aim (rule_of e.kind) (table_from image) e)

-- What a function gives and leaves that carries an event out for an aim, or at a place.
abbrev pub CarriesOut : List ℕ → Event → Result ℕ Refusal → Answer → List ℕ → Type 0
CarriesOut image e a answer after = (answer ≡ (carried_out (rule_of e.kind) (table_from image) e a).answer) × (after ≡ left_for image e a)

abbrev pub ActsAt : List ℕ → Event → ℕ → Answer → List ℕ → Type 0
ActsAt image e i answer after = (answer ≡ (acted e i (record_at (table_from image) i)).answer) × (after ≡ written_at image i (acted e i (record_at (table_from image) i)))
