-- Marks, by which one pass over the places tells whether two of a side have the same rank. For speed only: no statement of the table depends on them.
use Rattle.std.specs.Prelude.{◌≡◌, Bool, true, cond, List, ℕ, ◌+◌, ◌*◌, ◌<◌, eqb, length, get_or, set}
use Rattle.laws.specs.Lists.{below}
use Rattle.table.specs.declared.Side.{Side}
use Rattle.table.specs.declared.Side.TheVariants.{Position, Line}
use Rattle.table.specs.declared.Table.{Table}
use Rattle.table.specs.Places.{side_index, side_at, rank_at}
use Rattle.table.specs.Ranks.{rank_sound}

-- of two numbers, one for each side, that of a side
abbrev pub of_side : Side → ℕ → ℕ → ℕ
of_side Position positions lines = positions
of_side Line positions lines = lines

-- where a rank of a side is marked
abbrev pub slot_of : Side → ℕ → ℕ
slot_of a rank = side_index a * 256 + rank

-- a rank that is not marked yet; 0, the rank of a free place, never is
abbrev pub is_fresh : List ℕ → Side → ℕ → Bool
is_fresh marks a rank = cond (eqb rank 0) true (eqb (get_or marks (slot_of a rank) 0) 0)

abbrev pub with_mark : List ℕ → Side → ℕ → List ℕ
with_mark marks a rank = cond (eqb rank 0) marks (set marks (slot_of a rank) 1)

-- index k of a table has a rank, and it is marked here
pub record MarkedAt (t : Table) (s k : ℕ) : Type 0 where
  pub ranked : rank_at t k ≡ 0 → ⊥
  pub there : slot_of (side_at k) (rank_at t k) ≡ s

-- The ranks of the places below n, and no others, are marked.
pub record Marked (t : Table) (n : ℕ) (marks : List ℕ) : Type 0 where
  pub size : length marks ≡ 512
  pub small : (k : ℕ) → k < n → rank_at t k < 256
  pub seen : (k : ℕ) → k < n → (rank_at t k ≡ 0 → ⊥) → get_or marks (slot_of (side_at k) (rank_at t k)) 0 ≡ 1
  pub only : (s : ℕ) → (get_or marks s 0 ≡ 0 → ⊥) → (k : ℕ) × (k < n) × MarkedAt t s k

-- The ranks of the places below n are as a sound table has them, and they are marked.
abbrev pub Entering : Table → ℕ → List ℕ → Type 0
Entering t n marks = (below (rank_sound t) n ≡ true) × Marked t n marks
