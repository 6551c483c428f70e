-- The number reader: where it comes to the digits, one turn of its loop as `digits_from` sees it, and what a number that was read says of them: each test of the definition is passed in turn
-- (`cond_past`, `cond_into`).
use mathlib.Core.Path.{◌≡◌, refl}
use mathlib.Core.List.{List, [], ◌∷◌}
use Prim.Native.Nat.{ℕ, ◌+◌, ◌-◌, ◌*◌, ◌≤◌, ◌<◌}
use native.Mathlib.Omega.{arith}
use lib.ListN.{length, drop, get_or}
use borrow.Author.Tests.{lt-ltb, le-ltb, le-leb, lt-leb, ne_eqb, eq-eqb, ltb-false, leb-true, eqb-false}
use Rattle.laws.proofs.Runs.{at_step}
use Rattle.std.specs.Prelude.{Some, None}
use Rattle.std.proofs.lemmas.Option.{none-some, same_Some}
use Rattle.fields.specs.Numbers.{digits_from, number_of}
use Rattle.fields.proofs.Passed.{cond_past, cond_into}

pub number_empty : (s : List ℕ) (most : ℕ) → length s ≡ 0 → None ≡ number_of s most
number_empty [] most h = refl
number_empty (x ∷ s) most h = absurd (omega arith)

pub number_zero : (s : List ℕ) (most : ℕ) → 1 < length s → get_or s 0 0 ≡ 48 → None ≡ number_of s most
number_zero [] most h e = refl
number_zero (x ∷ []) most h e = absurd (omega arith)
number_zero (x ∷ y ∷ s) most h e = rw (eq-eqb x 48 e)

pub number_short : (s : List ℕ) (most : ℕ) → (length s ≡ 0 → ⊥) → length s ≤ 1 → digits_from most 0 s ≡ number_of s most
number_short [] most h k = absurd (h refl)
number_short (x ∷ []) most h k = refl
number_short (x ∷ y ∷ s) most h k = absurd (omega arith)

pub number_long : (s : List ℕ) (most : ℕ) → 1 < length s → (get_or s 0 0 ≡ 48 → ⊥) → digits_from most 0 s ≡ number_of s most
number_long [] most h k = absurd (omega arith)
number_long (x ∷ []) most h k = absurd (omega arith)
number_long (x ∷ y ∷ s) most h k = rw (ne_eqb x 48 k)

module _ (s : List ℕ) (i x v most : ℕ) (h : i < length s) (e : x ≡ get_or s i 0) where
  pub digit_low : x < 48 → digits_from most v (drop i s) ≡ None
  digit_low l = rw (at_step s i h, ← e, lt-ltb x 48 l)

  pub digit_high : 48 ≤ x → 57 < x → digits_from most v (drop i s) ≡ None
  digit_high l m = rw (at_step s i h, ← e, le-ltb x 48 l, lt-ltb 57 x m)

  pub digit_big : 48 ≤ x → x ≤ 57 → most < v * 10 + (x - 48) → digits_from most v (drop i s) ≡ None
  digit_big l m b = rw (at_step s i h, ← e, le-ltb x 48 l, le-ltb 57 x m, lt-leb (v * 10 + (x - 48)) most b)

  pub digit_on : 48 ≤ x → x ≤ 57 → v * 10 + (x - 48) ≤ most
      → digits_from most v (drop i s) ≡ digits_from most (v * 10 + (x - 48)) (drop (i + 1) s)
  digit_on l m b = rw (at_step s i h, ← e, le-ltb x 48 l, le-ltb 57 x m, le-leb (v * 10 + (x - 48)) most b)

-- what a number that was read says
pub record Digit (most a x : ℕ) (s : List ℕ) (v : ℕ) : Type 0 where
  pub low : 48 ≤ x
  pub high : x ≤ 57
  pub small : a * 10 + (x - 48) ≤ most
  pub on : digits_from most (a * 10 + (x - 48)) s ≡ Some v

pub digit_inv : (most a x : ℕ) (s : List ℕ) (v : ℕ) → digits_from most a (x ∷ s) ≡ Some v → Digit most a x s v
digit_inv most a x s v e =
    let p = cond_past _ None _ (Some v) (none-some v) e in
    let q = cond_past _ None _ (Some v) (none-some v) p.1 in
    let r = cond_into _ _ None (Some v) (none-some v) q.1 in
    record { low = ltb-false x 48 p.0; high = ltb-false 57 x q.0; small = leb-true _ _ r.0; on = r.1 }

digits_most : (most a : ℕ) (s : List ℕ) (v : ℕ) → a ≤ most → digits_from most a s ≡ Some v → v ≤ most
digits_most most a [] v h e = omega (arith, same_Some a v e)
digits_most most a (x ∷ s) v h e =
    let d = digit_inv most a x s v e in
    digits_most most (a * 10 + (x - 48)) s v d.small d.on

-- a number that was read: its digits read from 0, and no zero before another digit
pub record Whole (most x : ℕ) (s : List ℕ) (v : ℕ) : Type 0 where
  pub digits : digits_from most 0 (x ∷ s) ≡ Some v
  pub alone : (x ≡ 48) → s ≡ []

pub number_inv : (x : ℕ) (s : List ℕ) (most v : ℕ) → number_of (x ∷ s) most ≡ Some v → Whole most x s v
number_inv x [] most v e = record { digits = e; alone = λ _. refl }
number_inv x (y ∷ s) most v e =
    let p = cond_past _ None _ (Some v) (none-some v) e in
    record { digits = p.1; alone = λ h. absurd (eqb-false x 48 p.0 h) }

pub number_most : (s : List ℕ) (most v : ℕ) → number_of s most ≡ Some v → v ≤ most
number_most [] most v e = absurd (none-some v e)
number_most (x ∷ s) most v e = digits_most most 0 (x ∷ s) v (omega arith) (number_inv x s most v e).digits
