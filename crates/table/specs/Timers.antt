-- Timers by side and state (document 01, "Timers by state"): a constant table of tables, and what two of its entries differ by.
use Rattle.std.specs.Prelude.{List, [], ◌∷◌, ℕ, ◌-◌, get_or}
use Rattle.std.specs.Int.Bits.{bit_and}
use Rattle.table.specs.declared.State.{State}
use Rattle.table.specs.declared.Side.{Side}
use Rattle.table.specs.Places.{state_number, side_index}

-- "bit 1 for T3, 2 for T6, 4 for T9": positions first, then lines; states 0 to 5. A position is never in state 2, nor a line
-- in state 1: the paper has a dash there, and nothing runs.
abbrev pub timer_table : List (List ℕ)
timer_table = (0 ∷ 1 ∷ 0 ∷ 3 ∷ 5 ∷ 1 ∷ []) ∷ (0 ∷ 0 ∷ 0 ∷ 2 ∷ 4 ∷ 0 ∷ []) ∷ []

abbrev pub timer_set : Side → State → ℕ
timer_set a s = get_or (get_or timer_table (side_index a) []) (state_number s) 0

-- the bits of the first set that are not in the second
abbrev pub without : ℕ → ℕ → ℕ
without a b = a - bit_and a b

-- "An answer's started set is the bits in the place's set after the event and not before; the stopped set is the reverse."
abbrev pub started_set : Side → State → State → ℕ
started_set a before after = without (timer_set a after) (timer_set a before)

abbrev pub stopped_set : Side → State → State → ℕ
stopped_set a before after = started_set a after before
