-- Who is told how a pickrequ came out (document 02, Q-1): messages 5 and 6, pickrequ Return Result and pickrequ Return Error, reply to it,
-- and no other message does.
use Rattle.std.specs.Prelude.{◌≡◌, ℕ, ◌+◌, Bool, true, cond, ◌||◌, ◌==◌}
use Rattle.table.specs.declared.Connection.{Connection}
use Rattle.events.specs.declared.message.Sent.{Sent}

abbrev pub is_reply : Sent → Bool
is_reply x = x.message == 5 || x.message == 6

-- how many of an answer's two messages reply
abbrev pub replies : Sent → Sent → ℕ
replies first second = cond (is_reply first) 1 0 + cond (is_reply second) 1 0

-- just one of the two replies, and it goes to the picker on this connection
pub record RepliesOnce (c : Connection) (first second : Sent) : Type 0 where
  pub once : replies first second ≡ 1
  pub first_there : is_reply first ≡ true → first.connection ≡ c
  pub second_there : is_reply second ≡ true → second.connection ≡ c
