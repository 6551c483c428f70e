-- Looking through the records of a table: which place holds a call, the lowest place that passes a test, and sums.
use Rattle.std.specs.Prelude.{Bool, true, false, cond, not, ◌&&◌, Option, Some, None, List, [], ◌∷◌, ℕ, ◌+◌, eqb}
use Rattle.laws.specs.Lists.{folded}
use Rattle.table.specs.declared.State.{State}
use Rattle.table.specs.declared.Side.{Side}
use Rattle.table.specs.declared.Record.{Record}
use Rattle.table.specs.declared.Table.{Table}
use Rattle.table.specs.Places.{is_free, same_state, same_side, side_at}

-- the two calls have the same octets
abbrev pub same_call : List ℕ → List ℕ → Bool
same_call [] [] = true
same_call [] (y ∷ ys) = false
same_call (x ∷ xs) [] = false
same_call (x ∷ xs) (y ∷ ys) = eqb x y && same_call xs ys

-- an occupied record that holds the call
abbrev pub holds : List ℕ → Record → Bool
holds call r = not (is_free r.state) && same_call r.call call

-- the record at index i is on this side and in this state
abbrev pub is_at : Side → State → ℕ → Record → Bool
is_at a s i r = same_side (side_at i) a && same_state r.state s

-- the lowest index, counted from i, at which a list of anything passes the test
abbrev pub lowest : {A : Type 0} → (ℕ → A → Bool) → ℕ → List A → Option ℕ
lowest p = folded (λ i x later. cond (p i x) (Some i) later) None

-- where a call is held
abbrev pub find_call : Table → List ℕ → Option ℕ
find_call t call = lowest (λ i. holds call) 0 t.places

-- the lowest index of a side in a state
abbrev pub lowest_in : Table → Side → State → Option ℕ
lowest_in t a s = lowest (is_at a s) 0 t.places

-- the sum of a number of each record, which is given its index and itself
abbrev pub total : (ℕ → Record → ℕ) → ℕ → List Record → ℕ
total f = folded (λ i r later. f i r + later) 0
