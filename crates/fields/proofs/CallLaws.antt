-- The call reader's two loops. The first stores the value of each digit and keeps the largest: an octet that is no digit makes a bad call
-- wherever it stands. A turn of the second, as `call_from` sees it: two digits are two steps of the slice.
use mathlib.Core.Path.{◌≡◌, refl, ap, ◌∙◌}
use mathlib.Core.Bool.{Bool, true, false, cond}
use mathlib.Core.List.{List, [], ◌∷◌, ◌++◌}
use Prim.Native.Nat.{ℕ, zero, suc, ◌+◌, ◌*◌, ◌≤◌, ◌<◌}
use native.Mathlib.Omega.{arith}
use lib.Dec.{eqb, ltb}
use lib.ListN.{length, drop, get_or, set}
use lib.Seq.{get_or-set_same, get_or-set_other}
use borrow.Author.Count.{below_more}
use borrow.Author.Tests.{le-ltb, ltb-true, ltb-false}
use Rattle.laws.proofs.Runs.{at_step}
use Rattle.std.specs.Prelude.{None, max}
use Rattle.fields.specs.Calls.{nibble_of, call_from, call_of}

two_steps : (s : List ℕ) (i : ℕ) → i * 2 + 1 < length s
    → drop (i * 2) s ≡ get_or s (i * 2) 0 ∷ get_or s (i * 2 + 1) 0 ∷ drop ((i + 1) * 2) s
two_steps s i h =
    let e : i * 2 + 1 + 1 ≡ (i + 1) * 2 = omega arith in
    at_step s (i * 2) (omega arith)
    ∙ ap (λ (l : List ℕ). get_or s (i * 2) 0 ∷ l)
    (at_step s (i * 2 + 1) h ∙ ap (λ (n : ℕ). get_or s (i * 2 + 1) 0 ∷ drop n s) e)

-- the octets so far, and the one of two digits
abbrev with_two : List ℕ → ℕ → ℕ → List ℕ
with_two acc x y = acc ++ ((nibble_of x * 16 + nibble_of y) ∷ [])

-- two octets, of which one may be no digit
bad_two : (x y : ℕ) (acc s : List ℕ) → (nibble_of x ≤ 15 → nibble_of y ≤ 15 → call_from (with_two acc x y) s ≡ None)
    → call_from acc (x ∷ y ∷ s) ≡ None
bad_two x y acc s k = by (ltb 15 (nibble_of x)) (ltb 15 (nibble_of y)) refl refl
  where
    by : (a b : Bool) → ltb 15 (nibble_of x) ≡ a → ltb 15 (nibble_of y) ≡ b
        → cond a None (cond b None (call_from (with_two acc x y) s)) ≡ None
    by true b p q = refl
    by false true p q = refl
    by false false p q = k (ltb-false 15 (nibble_of x) p) (ltb-false 15 (nibble_of y) q)

bad_from : (s acc : List ℕ) (i : ℕ) → i < length s → 15 < nibble_of (get_or s i 0) → call_from acc s ≡ None
bad_from [] acc i h b = absurd (omega arith)
bad_from (x ∷ []) acc i h b = refl
bad_from (x ∷ y ∷ s) acc zero h b = bad_two x y acc s λ p q. absurd (omega arith)
bad_from (x ∷ y ∷ s) acc (suc zero) h b = bad_two x y acc s λ p q. absurd (omega arith)
bad_from (x ∷ y ∷ s) acc (suc (suc i)) h b = bad_two x y acc s λ p q. bad_from s (with_two acc x y) i (omega arith) b

pub bad_digit : (s : List ℕ) (i : ℕ) → i < length s → 15 < nibble_of (get_or s i 0) → call_of s ≡ None
bad_digit s i h b = by (eqb (length s) 32) (bad_from s [] i h b)
  where
    by : (t : Bool) → call_from [] s ≡ None → cond t (call_from [] s) None ≡ None
    by true e = e
    by false e = refl

-- where the largest value is no digit's, the largest so far or the one more is none
pub bad_largest : (s : List ℕ) (most v top : ℕ) → top ≡ max most v → (15 < most → call_of s ≡ None) → (15 < v → call_of s ≡ None) → 15 < top → call_of s ≡ None
bad_largest s most v top e old new h = by (ltb 15 most) refl
  where
    by : (b : Bool) → ltb 15 most ≡ b → call_of s ≡ None
    by true q = old (ltb-true 15 most q)
    by false q = new (omega (arith, ltb-false 15 most q))

-- the value of the octet at n is stored, and is at most the largest
abbrev pub Stored : List ℕ → List ℕ → ℕ → ℕ → Type 0
Stored s values most n = (get_or values n 0 ≡ nibble_of (get_or s n 0)) × (get_or values n 0 ≤ most)

pub stored_more : (s values : List ℕ) (most i v top : ℕ) → i < length values → v ≡ nibble_of (get_or s i 0) → most ≤ top → v ≤ top
    → ((n : ℕ) → n < i → Stored s values most n) → (n : ℕ) → n < i + 1 → Stored s (set values i v) top n
stored_more s values most i v top room e a b all =
    below_more (Stored s (set values i v) top) i
    (λ n l.
    let f : get_or (set values i v) n 0 ≡ get_or values n 0 = get_or-set_other values i n v 0 (λ q. omega arith) in
    (f ∙ (all n l).0, omega (arith, (all n l).1)))
    (let f : get_or (set values i v) i 0 ≡ v = get_or-set_same values i v 0 room in (f ∙ e, omega arith))

pub call_on : (s acc : List ℕ) (i h l : ℕ) → i * 2 + 1 < length s
    → h ≡ nibble_of (get_or s (i * 2) 0) → l ≡ nibble_of (get_or s (i * 2 + 1) 0) → h ≤ 15 → l ≤ 15
    → call_from acc (drop (i * 2) s) ≡ call_from (acc ++ ((h * 16 + l) ∷ [])) (drop ((i + 1) * 2) s)
call_on s acc i h l fits eh el a b = rw (two_steps s i fits, ← eh, le-ltb 15 h a, ← el, le-ltb 15 l b)
