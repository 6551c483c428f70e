-- Decimal numbers (document 01, refusal 23: "empty, not decimal, leading zero on a longer number, out of range"): reading one up to a
-- largest value, and writing one.
use Rattle.std.specs.Prelude.{cond, List, [], ◌∷◌, ◌++◌, ℕ, zero, suc, ◌+◌, ◌-◌, ◌*◌, ◌/◌, ◌%◌, ltb, leb, eqb, Option, Some, None}

-- the number whose digits so far make v, read on through s: none at an octet that is no digit, or at a value above most
abbrev pub digits_from : ℕ → ℕ → List ℕ → Option ℕ
digits_from most v [] = Some v
digits_from most v (x ∷ s) =
    cond (ltb x 48) None
    (cond (ltb 57 x) None
    (cond (leb (v * 10 + (x - 48)) most) (digits_from most (v * 10 + (x - 48)) s) None))

-- empty: none; a zero before another octet: none; else the digits
abbrev pub number_of : List ℕ → ℕ → Option ℕ
number_of [] most = None
number_of (x ∷ []) most = digits_from most 0 (x ∷ [])
number_of (x ∷ y ∷ s) most = cond (eqb x 48) None (digits_from most 0 (x ∷ y ∷ s))

-- the decimal digits of n, with k + 1 digits at most
abbrev pub digits_of : ℕ → ℕ → List ℕ
digits_of zero n = (48 + n) ∷ []
digits_of (suc k) n = cond (ltb n 10) ((48 + n) ∷ []) (digits_of k (n / 10) ++ ((48 + n % 10) ∷ []))

-- decimal notation without leading zeros, of numbers of 64 bits
unfoldable pub decimal : ℕ → List ℕ
decimal n = digits_of 19 n
