-- Calls in hexadecimal (document 01, refusal 24: "not 32 lowercase hex digits"): reading and writing sixteen octets.
use Rattle.std.specs.Prelude.{cond, List, [], ◌∷◌, ◌++◌, ℕ, ◌+◌, ◌-◌, ◌*◌, ◌/◌, ◌%◌, ltb, eqb, length, Option, Some, None}

-- the value of a lowercase digit, 16 for an octet that is none
abbrev pub nibble_of : ℕ → ℕ
nibble_of x = cond (ltb x 48) 16 (cond (ltb x 58) (x - 48) (cond (ltb x 97) 16 (cond (ltb x 103) (x - 87) 16)))

-- the octets so far, and on through the digits two by two
abbrev pub call_from : List ℕ → List ℕ → Option (List ℕ)
call_from acc [] = Some acc
call_from acc (x ∷ []) = None
call_from acc (x ∷ y ∷ s) =
    cond (ltb 15 (nibble_of x)) None (cond (ltb 15 (nibble_of y)) None (call_from (acc ++ ((nibble_of x * 16 + nibble_of y) ∷ [])) s))

abbrev pub call_of : List ℕ → Option (List ℕ)
call_of s = cond (eqb (length s) 32) (call_from [] s) None

-- the digit of a value below 16
abbrev pub digit_of : ℕ → ℕ
digit_of n = cond (ltb n 10) (48 + n) (87 + n)

-- two digits for each octet
abbrev pub hex_of : List ℕ → List ℕ
hex_of [] = []
hex_of (b ∷ s) = digit_of (b / 16) ∷ digit_of (b % 16) ∷ hex_of s
