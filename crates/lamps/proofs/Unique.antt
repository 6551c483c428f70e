-- Of every public function: two results that meet its contract are equal, since each contract is an equation with a definition.
use Rattle.std.proofs.Common.{sym, ◌∙◌}
use Rattle.laws.specs.Decides.{Decides}
use Rattle.lamps.proofs.members.U8FromTimer.from.Reads as timer-number
use Rattle.lamps.proofs.members.Gp.timer.Reads as timer
use Rattle.lamps.proofs.members.Lamps.empty.Reads as lamps-empty
use Rattle.lamps.proofs.members.gp_at.Reads as gp-at
use Rattle.lamps.proofs.reply.U8FromReplyRefusal.from.Reads as refusal-number
use Rattle.lamps.proofs.reply.settle.Reads as settle
use Rattle.lamps.proofs.Endpoint.empty.Reads as endpoint-empty
use Rattle.lamps.proofs.tell.Reads as tell

pub record Decided : Type 0 where
  pub timer_number_decided : Decides timer-number.Post
  pub timer_decided : Decides timer.Post
  pub lamps_empty_decided : Decides lamps-empty.Post
  pub gp_at_decided : Decides gp-at.Post
  pub refusal_number_decided : Decides refusal-number.Post
  pub settle_decided : Decides settle.Post
  pub endpoint_empty_decided : Decides endpoint-empty.Post
  pub tell_decided : Decides tell.Post

pub decided : Decided
decided = record {
  timer_number_decided = λ κ a x y d e p q. p ∙ sym q;
  timer_decided = λ κ a x y d e p q. p ∙ sym q;
  lamps_empty_decided = λ κ a x y d e p q. p ∙ sym q;
  gp_at_decided = λ κ a x y d e p q. p ∙ sym q;
  refusal_number_decided = λ κ a x y d e p q. p ∙ sym q;
  settle_decided = λ κ a x y d e p q. p ∙ sym q;
  endpoint_empty_decided = λ κ a x y d e p q. p ∙ sym q;
  tell_decided = λ κ a x y d e p q. p ∙ sym q;
}
