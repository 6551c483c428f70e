-- What several crates say of lists and indexes: a fold that is told the index, a list changed by index, a test of every index below a bound, a list by
-- its indexes.
use Rattle.std.specs.Prelude.{Bool, true, ◌&&◌, List, [], ◌∷◌, ℕ, zero, suc, ◌+◌}

-- a fold over a list from its end, which is told the index of each element, counted from i
abbrev pub folded : {A B : Type 0} → (ℕ → A → B → B) → B → ℕ → List A → B
folded f end i [] = end
folded f end i (x ∷ xs) = f i x (folded f end (i + 1) xs)

-- what a function gives of each element of a list and of its index, counted from i
abbrev pub mapped : {A B : Type 0} → (ℕ → A → B) → ℕ → List A → List B
mapped f = folded (λ i x later. f i x ∷ later) []

-- every index below n passes the test
unfoldable pub below : (ℕ → Bool) → ℕ → Bool
below p zero = true
below p (suc n) = p n && below p n

-- what a function gives of i, of i + 1 and so on, n times
unfoldable pub listed : {A : Type 0} → (ℕ → A) → ℕ → ℕ → List A
listed f i zero = []
listed f i (suc n) = f i ∷ listed f (i + 1) n
