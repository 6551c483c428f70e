-- Of every public function: two results that meet its contract are equal; of a buffer that is written, also what stands in it at the end. Each
-- contract is an equation with a definition.
use mathlib.Core.Path.{sym, ◌∙◌}
use Rattle.laws.specs.Decides.{Decides, DecidesMemory}
use Rattle.lines.proofs.BadLineFromFault.from.Reads as bad-line
use Rattle.lines.proofs.U8FromBadLine.from.Reads as refusal-number
use Rattle.lines.proofs.read_event.Reads as read-event
use Rattle.lines.proofs.event_said.Reads as event-said
use Rattle.lines.proofs.bad_field.Reads as bad-field
use Rattle.lines.proofs.read_answer.Reads as read_answer
use Rattle.lines.proofs.answer_said.Reads as answer-said
use Rattle.lines.proofs.event_length.Reads as event-length
use Rattle.lines.proofs.write_event.Reads as write-event
use Rattle.lines.proofs.answer_length.Reads as answer-length
use Rattle.lines.proofs.write_answer.Reads as write-answer

pub bad_line_decided : Decides bad-line.Post
bad_line_decided κ a x y d e p q = p ∙ sym q

pub refusal_number_decided : Decides refusal-number.Post
refusal_number_decided κ a x y d e p q = p ∙ sym q

pub read_event_decided : Decides read-event.Post
read_event_decided κ a x y d e p q = p ∙ sym q

pub event_said_decided : Decides event-said.Post
event_said_decided κ a x y d e p q = p ∙ sym q

pub bad_field_decided : Decides bad-field.Post
bad_field_decided κ a x y d e p q = p ∙ sym q

pub read_answer_decided : Decides read_answer.Post
read_answer_decided κ a x y d e p q = p ∙ sym q

pub answer_said_decided : Decides answer-said.Post
answer_said_decided κ a x y d e p q = p ∙ sym q

pub event_length_decided : Decides event-length.Post
event_length_decided κ a x y d e p q = p ∙ sym q

pub write_event_decided : DecidesMemory write-event.Post (λ κ d. d.1.0.now)
write_event_decided κ a x y d e p q = (p.0 ∙ sym q.0, p.1 ∙ sym q.1)

pub answer_length_decided : Decides answer-length.Post
answer_length_decided κ a x y d e p q = p ∙ sym q

pub write_answer_decided : DecidesMemory write-answer.Post (λ κ d. d.1.0.now)
write_answer_decided κ a x y d e p q = (p.0 ∙ sym q.0, p.1 ∙ sym q.1)
