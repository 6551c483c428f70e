-- Hexadecimal notation: reading what was written, and writing what was read. Both go octet by octet, from the front; a digit and its value
-- are each the other's.
use mathlib.Core.Path.{◌≡◌, refl, sym, ap, ap₂, ◌∙◌}
use mathlib.Core.List.{List, [], ◌∷◌, ◌++◌, append_assoc, append-nil}
use mathlib.Core.Bool.{Bool, true, false, cond}
use Prim.Native.Nat.{ℕ, suc, ◌+◌, ◌-◌, ◌*◌, ◌/◌, ◌%◌, ◌≤◌, ◌<◌}
use native.Mathlib.Numerals.{add-one}
use native.Mathlib.Omega.{arith}
use lib.Dec.{ltb, eqb}
use lib.ListN.{length, take, get_or}
use lib.Seq.{take-suc}
use borrow.Author.Tests.{ltb-true, ltb-false, lt-ltb, le-ltb, eq-eqb, ne_eqb}
use Rattle.fields.specs.Parts.{tabs}
use Rattle.std.specs.Prelude.{Some, None}
use Rattle.std.proofs.lemmas.Option.{none-some, same_Some}
use Rattle.fields.specs.Calls.{nibble_of, digit_of, hex_of, call_from, call_of}
use Rattle.fields.proofs.Passed.{cond_past}

nibble_digit : (n : ℕ) → n < 16 → nibble_of (digit_of n) ≡ n
nibble_digit n h = go (ltb n 10) refl
  where
    go : (b : Bool) → ltb n 10 ≡ b → nibble_of (cond b (48 + n) (87 + n)) ≡ n
    go true e =
        let l = ltb-true n 10 e in
        rw (le-ltb (48 + n) 48 (omega arith), lt-ltb (48 + n) 58 (omega arith)) (omega arith)
    go false e =
        let l = ltb-false n 10 e in
        rw (le-ltb (87 + n) 48 (omega arith), le-ltb (87 + n) 58 (omega arith), le-ltb (87 + n) 97 (omega arith), lt-ltb (87 + n) 103 (omega arith))
        (omega arith)

digit_nibble : (x : ℕ) → nibble_of x ≤ 15 → digit_of (nibble_of x) ≡ x
digit_nibble x h = go (ltb x 48) refl (ltb x 58) refl (ltb x 97) refl (ltb x 103) refl h
  where
    go : (a : Bool) → ltb x 48 ≡ a → (b : Bool) → ltb x 58 ≡ b → (c : Bool) → ltb x 97 ≡ c → (d : Bool) → ltb x 103 ≡ d
        → cond a 16 (cond b (x - 48) (cond c 16 (cond d (x - 87) 16))) ≤ 15
        → digit_of (cond a 16 (cond b (x - 48) (cond c 16 (cond d (x - 87) 16)))) ≡ x
    go true ea b eb c ec d ed h = absurd (omega arith)
    go false ea true eb c ec d ed h =
        let l = ltb-false x 48 ea in
        let m = ltb-true x 58 eb in
        rw (lt-ltb (x - 48) 10 (omega arith)) (omega arith)
    go false ea false eb true ec d ed h = absurd (omega arith)
    go false ea false eb false ec true ed h =
        let l = ltb-false x 97 ec in
        rw (le-ltb (x - 87) 10 (omega arith)) (omega arith)
    go false ea false eb false ec false ed h = absurd (omega arith)

-- reading what was written
hex_back : (s acc : List ℕ) → ((i : ℕ) → get_or s i 0 < 256) → call_from acc (hex_of s) ≡ Some (acc ++ s)
hex_back [] acc h = ap Some (sym (append-nil acc))
hex_back (b ∷ s) acc h =
    let hb : b < 256 = h 0 in
    let e : b / 16 * 16 + b % 16 ≡ b = omega arith in
    rw (nibble_digit (b / 16) (omega arith), le-ltb 15 (b / 16) (omega arith), nibble_digit (b % 16) (omega arith), le-ltb 15 (b % 16) (omega arith), e)
    (hex_back s (acc ++ (b ∷ [])) (λ i. h (suc i)) ∙ ap Some (append_assoc acc (b ∷ []) s))

pub length_hex : (s : List ℕ) → length (hex_of s) ≡ length s * 2
length_hex [] = omega arith
length_hex (b ∷ s) = omega (arith, length_hex s)

pub call_written : (s : List ℕ) → length s ≡ 16 → ((i : ℕ) → get_or s i 0 < 256) → call_of (hex_of s) ≡ Some s
call_written s l h = rw (eq-eqb (length (hex_of s)) 32 (omega (arith, length_hex s))) (hex_back s [] h)

digit_tab : (n : ℕ) (s : List ℕ) → tabs (digit_of n ∷ s) ≡ tabs s
digit_tab n s = go (ltb n 10)
  where
    go : (b : Bool) → tabs (cond b (48 + n) (87 + n) ∷ s) ≡ tabs s
    go true = rw (ne_eqb (48 + n) 9 (omega arith))
    go false = rw (ne_eqb (87 + n) 9 (omega arith))

pub hex_tabs : (s : List ℕ) → tabs (hex_of s) ≡ 0
hex_tabs [] = refl
hex_tabs (b ∷ s) = digit_tab (b / 16) (digit_of (b % 16) ∷ hex_of s) ∙ digit_tab (b % 16) (hex_of s) ∙ hex_tabs s

-- writing what was read
hex_append : (a b : List ℕ) → hex_of (a ++ b) ≡ hex_of a ++ hex_of b
hex_append [] b = refl
hex_append (x ∷ a) b = ap (λ (l : List ℕ). digit_of (x / 16) ∷ digit_of (x % 16) ∷ l) (hex_append a b)

hex_two : (x y : ℕ) → nibble_of x ≤ 15 → nibble_of y ≤ 15 → hex_of ((nibble_of x * 16 + nibble_of y) ∷ []) ≡ x ∷ y ∷ []
hex_two x y hx hy =
    let q : (nibble_of x * 16 + nibble_of y) / 16 ≡ nibble_of x = omega arith in
    let m : (nibble_of x * 16 + nibble_of y) % 16 ≡ nibble_of y = omega arith in
    ap₂ (λ (a b : ℕ). digit_of a ∷ digit_of b ∷ []) q m ∙ ap₂ (λ (a b : ℕ). a ∷ b ∷ []) (digit_nibble x hx) (digit_nibble y hy)

hex_read : (s acc c : List ℕ) → call_from acc s ≡ Some c → hex_of c ≡ hex_of acc ++ s
hex_read [] acc c e = ap hex_of (sym (same_Some acc c e)) ∙ sym (append-nil (hex_of acc))
hex_read (x ∷ []) acc c e = absurd (none-some c e)
hex_read (x ∷ y ∷ s) acc c e =
    let p = cond_past (ltb 15 (nibble_of x)) None _ (Some c) (none-some c) e in
    let q = cond_past (ltb 15 (nibble_of y)) None _ (Some c) (none-some c) p.1 in
    let n = (nibble_of x * 16 + nibble_of y) in
    hex_read s (acc ++ (n ∷ [])) c q.1
    ∙ ap (λ (l : List ℕ). l ++ s) (hex_append acc (n ∷ []) ∙ ap (λ (l : List ℕ). hex_of acc ++ l) (hex_two x y (ltb-false 15 _ p.0) (ltb-false 15 _ q.0)))
    ∙ append_assoc (hex_of acc) (x ∷ y ∷ []) s

pub call_read : (s c : List ℕ) → call_of s ≡ Some c → hex_of c ≡ s
call_read s c e = go (eqb (length s) 32) e
  where
    go : (b : Bool) → cond b (call_from [] s) None ≡ Some c → hex_of c ≡ s
    go true e = hex_read s [] c e
    go false e = absurd (none-some c e)

-- the digits of one octet more
pub hex_more : (s : List ℕ) (i : ℕ) → i < length s
    → hex_of (take (i + 1) s) ≡ hex_of (take i s) ++ (digit_of (get_or s i 0 / 16) ∷ digit_of (get_or s i 0 % 16) ∷ [])
hex_more s i h = rw (add-one, take-suc s i 0 h) (hex_append (take i s) (get_or s i 0 ∷ []))
