-- Octets as one number: a run of them is its first half and its second, and a list of octets is decided by its number, by the base 256.
-- So two calls are equal where their two words are.
use mathlib.Core.Path.{◌≡◌, refl, sym, ap, ap₂, ◌∙◌}
use mathlib.Core.Bool.{Bool, true, false, ◌&&◌}
use mathlib.Core.List.{List, [], ◌∷◌, ◌++◌}
use Prim.Native.Nat.{ℕ, zero, suc, ◌+◌, ◌*◌, ◌^◌, ◌<◌, ◌≤◌}
use native.Mathlib.Nat.{pow-suc, mul_assoc, zero-add, suc-add}
use native.Mathlib.Omega.{arith}
use lib.Dec.{eqb}
use lib.ListN.{length, take, drop, get_or, length-drop, take-append-drop, get_or-replicate}
use lib.Seq.{length-take-le, get_or-take, get_or-drop, take-take, take-add, drop-drop, take-nil}
use borrow.Author.Tests.{eqb-true, eqb-false}
use Rattle.table.specs.Places.{no_call}
use Rattle.table.specs.Search.{same_call}
use Rattle.table.proofs.Calls.{same_is, same_self}
use Rattle.laws.proofs.Runs.{at_step}
use Rattle.image.specs.Image.{pair_at}
use Rattle.image.specs.Quick.{low_first, run_at}
use Rattle.image.specs.Round.{Octets}

-- ---- the number of a list

number_append : (l m : List ℕ) → low_first (l ++ m) ≡ low_first l + low_first m * 256 ^ length l
unfolding low_first
number_append [] m = omega arith
number_append (x ∷ l) m =
    let more : low_first m * 256 ^ suc (length l) ≡ low_first m * 256 ^ length l * 256 =
    ap (λ (k : ℕ). low_first m * k) (pow-suc 256 (length l)) ∙ sym (mul_assoc (low_first m) (256 ^ length l) 256) in
    omega (arith, number_append l m, more)

number_decides : (l m : List ℕ) → length l ≡ length m → Octets l → Octets m → low_first l ≡ low_first m → l ≡ m
unfolding low_first
number_decides [] [] n ol om e = refl
number_decides [] (y ∷ m) n ol om e = absurd (omega arith)
number_decides (x ∷ l) [] n ol om e = absurd (omega arith)
number_decides (x ∷ l) (y ∷ m) n ol om e =
    let first : x ≡ y = omega (arith, ol 0 (omega arith), om 0 (omega arith)) in
    let rest : low_first l ≡ low_first m = omega (arith, ol 0 (omega arith), om 0 (omega arith)) in
    ap₂ (λ (z : ℕ) (r : List ℕ). z ∷ r) first
    (number_decides l m (omega arith) (λ k h. ol (suc k) (omega arith)) (λ k h. om (suc k) (omega arith)) rest)

-- ---- runs of octets

pub run_two : (s : List ℕ) (i : ℕ) → i + 2 ≤ length s → run_at 2 s i ≡ get_or s i 0 + get_or s (i + 1) 0 * 256
unfolding low_first
run_two s i h =
    let octets = at_step s i (omega arith) ∙ ap (λ (l : List ℕ). get_or s i 0 ∷ l) (at_step s (i + 1) (omega arith)) in
    ap (λ (l : List ℕ). low_first (take 2 l)) octets
    ∙ omega arith

pub run_double : (n : ℕ) (s : List ℕ) (i : ℕ) → i + n ≤ length s → run_at (n + n) s i ≡ run_at n s i + run_at n s (i + n) * 256 ^ n
run_double n s i h =
    let long : length (take n (drop i s)) ≡ n = length-take-le n (drop i s) (omega (arith, length-drop i s)) in
    ap low_first (take-add n n (drop i s))
    ∙ number_append (take n (drop i s)) (take n (drop n (drop i s)))
    ∙ ap₂ (λ (l : List ℕ) (k : ℕ). run_at n s i + low_first (take n l) * 256 ^ k) (drop-drop n i s) long

-- connection and count, four octets in one
pub run_four_zero : (s : List ℕ) (i : ℕ) → i + 4 ≤ length s → eqb (run_at 4 s i) 0 ≡ (eqb (pair_at s i) 0 && eqb (pair_at s (i + 2)) 0)
run_four_zero s i h = by (eqb (run_at 4 s i) 0) (eqb (pair_at s i) 0) (eqb (pair_at s (i + 2)) 0) refl refl refl
  where
    four : run_at 4 s i ≡ get_or s i 0 + get_or s (i + 1) 0 * 256 + (get_or s (i + 2) 0 + get_or s (i + 2 + 1) 0 * 256) * 65536
    four = omega (arith, run_double 2 s i (omega arith), run_two s i (omega arith), run_two s (i + 2) (omega arith))

    by : (q x y : Bool) → eqb (run_at 4 s i) 0 ≡ q → eqb (pair_at s i) 0 ≡ x → eqb (pair_at s (i + 2)) 0 ≡ y → q ≡ (x && y)
    by true true true eq ex ey = refl
    by true true false eq ex ey = absurd (eqb-false (pair_at s (i + 2)) 0 ey (omega (arith, four, eqb-true (run_at 4 s i) 0 eq)))
    by true false y eq ex ey = absurd (eqb-false (pair_at s i) 0 ex (omega (arith, four, eqb-true (run_at 4 s i) 0 eq)))
    by false true true eq ex ey =
        absurd (eqb-false (run_at 4 s i) 0 eq (omega (arith, four, eqb-true (pair_at s i) 0 ex, eqb-true (pair_at s (i + 2)) 0 ey)))
    by false true false eq ex ey = refl
    by false false y eq ex ey = refl

-- ---- the two words of a call

drop_take : (m n : ℕ) (l : List ℕ) → drop m (take (m + n) l) ≡ take n (drop m l)
drop_take zero n l = rw (zero-add n)
drop_take (suc m) n [] = rw (take-nil {A = ℕ} (suc m + n), take-nil {A = ℕ} n)
drop_take (suc m) n (x ∷ l) = rw (suc-add m n) (drop_take m n l)

module _ (s : List ℕ) (i : ℕ) where
  pub first_word : run_at 8 s i ≡ low_first (take 8 (take 16 (drop i s)))
  first_word = sym (ap low_first (take-take 8 16 (drop i s) (omega arith)))

  pub second_word : run_at 8 s (i + 8) ≡ low_first (drop 8 (take 16 (drop i s)))
  second_word = ap low_first (ap (take 8) (sym (drop-drop 8 i s)) ∙ sym (drop_take 8 8 (drop i s)))

  pub long_call : i + 16 ≤ length s → length (take 16 (drop i s)) ≡ 16
  long_call h = length-take-le 16 (drop i s) (omega (arith, length-drop i s))

  pub call_octets_lem : i + 16 ≤ length s → Octets s → Octets (take 16 (drop i s))
  call_octets_lem h o k l =
      let short : k < 16 = omega (arith, long_call h) in
      rw (get_or-take 16 (drop i s) k 0 short, get_or-drop i s k 0) (o (i + k) (omega arith))

module _ (c d : List ℕ) where
  -- two calls that are not equal are not the same by the test
  other_call : (c ≡ d → ⊥) → same_call c d ≡ false
  other_call n = by (same_call c d) refl
    where
      by : (t : Bool) → same_call c d ≡ t → t ≡ false
      by true q = absurd (n (same_is c d q))
      by false q = refl

  -- THE TEST OF TWO CALLS BY THEIR WORDS
  pub first_differs : (low_first (take 8 c) ≡ low_first (take 8 d) → ⊥) → same_call c d ≡ false
  first_differs n = other_call (λ e. n (ap (λ (l : List ℕ). low_first (take 8 l)) e))

  pub second_decides : length c ≡ 16 → length d ≡ 16 → Octets c → Octets d → low_first (take 8 c) ≡ low_first (take 8 d)
      → eqb (low_first (drop 8 c)) (low_first (drop 8 d)) ≡ same_call c d
  second_decides lc ld oc od first = by (eqb (low_first (drop 8 c)) (low_first (drop 8 d))) refl
    where
      front : (l : List ℕ) → length l ≡ 16 → Octets l → Octets (take 8 l)
      front l n o k h =
          let short : length (take 8 l) ≡ 8 = length-take-le 8 l (omega arith) in
          rw (get_or-take 8 l k 0 (omega arith)) (o k (omega arith))

      back : (l : List ℕ) → Octets l → Octets (drop 8 l)
      back l o k h = rw (get_or-drop 8 l k 0) (o (8 + k) (omega (arith, length-drop 8 l)))

      by : (t : Bool) → eqb (low_first (drop 8 c)) (low_first (drop 8 d)) ≡ t → t ≡ same_call c d
      by true q =
          let second = eqb-true (low_first (drop 8 c)) (low_first (drop 8 d)) q in
          let long : length (take 8 c) ≡ length (take 8 d) = length-take-le 8 c (omega arith) ∙ sym (length-take-le 8 d (omega arith)) in
          let low = number_decides (take 8 c) (take 8 d) long (front c lc oc) (front d ld od) first in
          let rest : length (drop 8 c) ≡ length (drop 8 d) = omega (arith, length-drop 8 c, length-drop 8 d) in
          let high = number_decides (drop 8 c) (drop 8 d) rest (back c oc) (back d od) second in
          let same : c ≡ d = sym (take-append-drop 8 c) ∙ ap₂ (λ (a b : List ℕ). a ++ b) low high ∙ take-append-drop 8 d in
          sym (ap (λ (l : List ℕ). same_call l d) same ∙ same_self d)
      by false q =
          let differ = eqb-false (low_first (drop 8 c)) (low_first (drop 8 d)) q in
          sym (other_call (λ e. differ (ap (λ (l : List ℕ). low_first (drop 8 l)) e)))

-- ---- sixteen zeros

pub zero_octets : Octets no_call
zero_octets k h = omega (arith, get_or-replicate {A = ℕ} 16 k 0 0 h)

pub first_zero : low_first (take 8 no_call) ≡ 0
unfolding low_first
first_zero = refl

pub second_zero : low_first (drop 8 no_call) ≡ 0
unfolding low_first
second_zero = refl
