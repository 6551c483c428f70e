-- Of every public function: two results that meet its contract are equal, since each contract is an equation with a definition.
use mathlib.Core.Path.{sym, ◌∙◌}
use Rattle.laws.specs.Decides.{Decides}
use Rattle.table.proofs.U8FromState.from.Reads as state-number
use Rattle.table.proofs.U8FromUnsound.from.Reads as unsound-number
use Rattle.table.proofs.State.is_free.Reads as is_free
use Rattle.table.proofs.Side.index.Reads as index
use Rattle.table.proofs.Side.waiting.Reads as waiting
use Rattle.table.proofs.Side.at.Reads as side-at
use Rattle.table.proofs.Place.is_on.Reads as is-on
use Rattle.table.proofs.Place.side.Reads as side
use Rattle.table.proofs.Place.at.Reads as place_at
use Rattle.table.proofs.Record.free.Reads as free
use Rattle.table.proofs.Table.empty.Reads as empty
use Rattle.table.proofs.timers.timer_set.Reads as timer-set
use Rattle.table.proofs.timers.started.Reads as started
use Rattle.table.proofs.search.same_call.Reads as same_call_lem
use Rattle.table.proofs.State.of.Reads as state-of
use Rattle.table.proofs.Side.first.Reads as side_first
use Rattle.table.proofs.Side.end.Reads as side-end
use Rattle.table.proofs.Side.missing.Reads as missing
use Rattle.table.proofs.SidePartialEq.eq.Reads as same

pub record Decided : Type 0 where
  pub number_decided : Decides state-number.Post
  pub unsound_decided : Decides unsound-number.Post
  pub is_free_decided : Decides is_free.Post
  pub index_decided : Decides index.Post
  pub waiting_decided : Decides waiting.Post
  pub side_at_decided : Decides side-at.Post
  pub is_of_decided : Decides is-on.Post
  pub side_decided : Decides side.Post
  pub place_at_decided : Decides place_at.Post
  pub free_decided : Decides free.Post
  pub empty_decided : Decides empty.Post
  pub timer_set_decided : Decides timer-set.Post
  pub started_decided : Decides started.Post
  pub same_call_decided : Decides same_call_lem.Post
  pub of_decided : Decides state-of.Post
  pub first_decided : Decides side_first.Post
  pub end_decided : Decides side-end.Post
  pub missing_decided : Decides missing.Post
  pub same_decided : Decides same.Post

pub decided : Decided
decided = record {
  number_decided = λ κ a x y d e p q. p ∙ sym q;
  unsound_decided = λ κ a x y d e p q. p ∙ sym q;
  is_free_decided = λ κ a x y d e p q. p ∙ sym q;
  index_decided = λ κ a x y d e p q. p ∙ sym q;
  waiting_decided = λ κ a x y d e p q. p ∙ sym q;
  side_at_decided = λ κ a x y d e p q. p ∙ sym q;
  is_of_decided = λ κ a x y d e p q. p ∙ sym q;
  side_decided = λ κ a x y d e p q. p ∙ sym q;
  place_at_decided = λ κ a x y d e p q. p ∙ sym q;
  free_decided = λ κ a x y d e p q. p ∙ sym q;
  empty_decided = λ κ a x y d e p q. p ∙ sym q;
  timer_set_decided = λ κ a x y d e p q. p ∙ sym q;
  started_decided = λ κ a x y d e p q. p ∙ sym q;
  same_call_decided = λ κ a x y d e p q. p ∙ sym q;
  of_decided = λ κ a x y d e p q. p ∙ sym q;
  first_decided = λ κ a x y d e p q. p ∙ sym q;
  end_decided = λ κ a x y d e p q. p ∙ sym q;
  missing_decided = λ κ a x y d e p q. p ∙ sym q;
  same_decided = λ κ a x y d e p q. p ∙ sym q;
}
