-- Taking the octets of a line into a buffer of 63, up to the line feed or the end of the piece.
use Rattle.std.specs.Prelude.{ℕ, suc, ◌+◌, cond, List, [], ◌∷◌, ◌==◌, nat_lt, slice_set}

-- the buffer after the octets before the first feed, each kept as long as there is room
abbrev pub kept_from : List ℕ → ℕ → List ℕ → List ℕ
kept_from kept len [] = kept
kept_from kept len (o ∷ os) = cond (o == 10) kept (cond (nat_lt len 63) (kept_from (slice_set kept len o) (len + 1) os) (kept_from kept len os))

-- how much of the buffer is in use then
abbrev pub len_from : ℕ → List ℕ → ℕ
len_from len [] = len
len_from len (o ∷ os) = cond (o == 10) len (cond (nat_lt len 63) (len_from (len + 1) os) (len_from len os))

-- how many octets there are before the first feed
abbrev pub until_feed : List ℕ → ℕ
until_feed [] = 0
until_feed (o ∷ os) = cond (o == 10) 0 (suc (until_feed os))
