-- Of every public function: two runs that meet its contract give the same answer and leave the same image. Each contract has an equation
-- with a definition for either.
use Rattle.std.proofs.Common.{sym, ◌∙◌}
use Rattle.laws.specs.Decides.{Decides, DecidesMemory}
use Rattle.lent.proofs.single_step.Reads as single_step
use Rattle.lent.proofs.session.Session.start.Reads as start
use Rattle.lent.proofs.session.feed.Reads as feed
use Rattle.lent.proofs.session.finish.Reads as finish
use Rattle.lent.proofs.status.status_of.Reads as status-of
use Rattle.lent.proofs.status.status_said.Reads as status-said
use Rattle.lent.proofs.places.read_image.Reads as read-image
use Rattle.lent.proofs.places.table_said.Reads as table-said
use Rattle.lent.proofs.places.write_image.Reads as write-image
use Rattle.lent.proofs.answer_line.Reads as answer-line

pub single_step_decided : Decides single_step.Post
single_step_decided κ a x y d e p q = p ∙ sym q

pub status_of_decided : Decides status-of.Post
status_of_decided κ a x y d e p q = p ∙ sym q

pub status_said_decided : Decides status-said.Post
status_said_decided κ a x y d e p q = p ∙ sym q

pub read_image_decided : Decides read-image.Post
read_image_decided κ a x y d e p q = p ∙ sym q

pub table_said_decided : Decides table-said.Post
table_said_decided κ a x y d e p q = p ∙ sym q

-- the buffer is the second parameter
pub write_image_decided : DecidesMemory write-image.Post (λ κ d. d.1.0.now)
write_image_decided κ a x y d e p q = (p.0 ∙ sym q.0, p.1 ∙ sym q.1)

-- the image is the first parameter
pub answer_line_decided : DecidesMemory answer-line.Post (λ κ d. d.0.now)
answer_line_decided κ a x y d e p q = (p.0 ∙ sym q.0, p.1 ∙ sym q.1)

pub start_decided : Decides start.Post
start_decided κ a x y d e p q = p ∙ sym q

-- the buffer is the third parameter, and the second
pub feed_decided : DecidesMemory feed.Post (λ κ d. d.1.1.0.now)
feed_decided κ a x y d e p q = (p.0 ∙ sym q.0, p.1 ∙ sym q.1)

pub finish_decided : DecidesMemory finish.Post (λ κ d. d.1.0.now)
finish_decided κ a x y d e p q = (p.0 ∙ sym q.0, p.1 ∙ sym q.1)
