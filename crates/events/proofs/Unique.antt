-- Of every public function: two results that meet its contract are equal, since each contract is an equation with a definition.
use Rattle.std.proofs.Common.{sym, ◌∙◌}
use Rattle.laws.specs.Decides.{Decides}
use Rattle.events.proofs.act.Reads as act
use Rattle.events.proofs.refusal.U8FromRefusal.from.Reads as refusal-number
use Rattle.events.proofs.message.U8FromErrorValue.from.Reads as error-number
use Rattle.events.proofs.message.SentFromOptionMessage.from.Reads as sent
use Rattle.events.proofs.sought.sought_of.Reads as sought-of
use Rattle.events.proofs.answers.decline.Reads as decline
use Rattle.events.proofs.answers.only_number.Reads as only-number

pub act_decided : Decides act.Post
act_decided κ a x y d e p q = p ∙ sym q

pub sought_of_decided : Decides sought-of.Post
sought_of_decided κ a x y d e p q = p ∙ sym q

pub decline_decided : Decides decline.Post
decline_decided κ a x y d e p q = p ∙ sym q

pub only_number_decided : Decides only-number.Post
only_number_decided κ a x y d e p q = p ∙ sym q

pub refusal_number_decided : Decides refusal-number.Post
refusal_number_decided κ a x y d e p q = p ∙ sym q

pub error_number_decided : Decides error-number.Post
error_number_decided κ a x y d e p q = p ∙ sym q

pub sent_decided : Decides sent.Post
sent_decided κ a x y d e p q = p ∙ sym q
