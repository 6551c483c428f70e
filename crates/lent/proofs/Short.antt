-- No answer to a line is longer than the longest that a step gives: that of a line which reads is one of a step, and that of any other line, or of
-- any line at a refused image, is a number and zeros.
use Rattle.std.proofs.Common.{◌≡◌, ℕ, ◌+◌, ◌<◌, ◌≤◌, Bool, true, false, Result, Ok, Err, eqb, List, length, get_or, refl, arith, lit≤, eqb-true}
use Rattle.laws.proofs.Bools.{and_left}
use Rattle.table.specs.declared.Table.{Table}
use Rattle.table.specs.Places.{place_count, record_at}
use Rattle.events.specs.declared.Event.{Event}
use Rattle.lines.specs.declared.BadLine.{BadLine}
use Rattle.lines.specs.AnswerLine.{answer_line}
use Rattle.lines.specs.EventLine.{refusal_number, read_line}
use Rattle.lines.proofs.Ranged.{Ranged, read_ranged}
use Rattle.room.specs.Room.{TypedTable, longest}
use Rattle.room.proofs.Room.{none_longer, number_short}
use Rattle.image.specs.Image.{connection_offset, place_start, image_octets, record_from, table_from, is_sound_image}
use Rattle.image.proofs.Round.{fit_from, record_at_lem}
use Rattle.lent.specs.LineStep.{step_read, line_step}
use Rattle.lent.specs.Lent.{step_on}

-- A LINE AT A TABLE
pub line_short : (t : Table) (line : List ℕ) → TypedTable t → length (answer_line (line_step t line).answer) ≤ longest
line_short t line typed = by (read_line line) (read_ranged line)
  where
    by : (r : Result Event BadLine) → Ranged r → length (answer_line (step_read t r).answer) ≤ longest
    by (Ok e) x = none_longer t e typed (record { call = x.event.call.long; connection = x.event.connection })
    by (Err b) x = number_short (refusal_number b) (omega (arith, x.number))

-- two octets are a number of 16 bits
connection_from : (s : List ℕ) → ((k : ℕ) → get_or s k 0 < 256) → (i : ℕ) → i < place_count → (record_at (table_from s) i).connection.0 ≤ 65535
unfolding record_from
connection_from s octets i h =
    rw (record_at_lem s i h) (omega (arith, octets (place_start i + connection_offset), octets (place_start i + connection_offset + 1)))

typed_from : (image : List ℕ) → ((k : ℕ) → get_or image k 0 < 256) → length image ≡ image_octets → TypedTable (table_from image)
typed_from image octets long =
    let fit = fit_from image long in
    record { size = (fit.size, fit.wide); call = fit.calls; connection = connection_from image octets }

-- A LINE AT AN IMAGE
pub on_short : (image line : List ℕ) → ((k : ℕ) → get_or image k 0 < 256) → length (answer_line (step_on image line).answer) ≤ longest
on_short image line octets = by (is_sound_image image) refl
  where
    by : (b : Bool) → is_sound_image image ≡ b → length (answer_line (step_on image line).answer) ≤ longest
    by true q = rw q (line_short (table_from image) line (typed_from image octets (eqb-true (length image) image_octets (and_left (eqb (length image) image_octets) _ q))))
    by false q = rw q (number_short 25 (lit≤ tt))
