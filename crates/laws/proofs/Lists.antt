-- Laws of `Lists`: one step of a fold and its end; a list changed by index, by index; a test of every index below a bound, by index; a list by its
-- indexes, by index.
use mathlib.Core.Path.{◌≡◌, refl, ap, ◌∙◌}
use mathlib.Core.Bool.{Bool, true, false}
use mathlib.Core.List.{List, [], ◌∷◌}
use mathlib.Core.Logic.{⊎_elim}
use Prim.Native.Nat.{ℕ, zero, suc, ◌+◌, ◌-◌, ◌<◌, ◌≤◌}
use native.Mathlib.Nat.{add-zero, not-suc-le-zero, le_of_suc-le-suc}
use native.Mathlib.Numerals.{add-one}
use native.Mathlib.Omega.{arith}
use lib.ListN.{length, drop, get_or, drop_of_length-le}
use lib.Seq.{drop-cons}
use Rattle.laws.specs.Lists.{folded, mapped, below, listed}
use Rattle.laws.proofs.Bools.{and_left, and_right, and_both, not_both, equal_or}

-- ---- a fold at index i of a list, and past it; d is what a read past the list gives

module _ {A B : Type 0} (f : ℕ → A → B → B) (end : B) (l : List A) (i : ℕ) where
  pub fold_at : (d : A) → i < length l → folded f end i (drop i l) ≡ f i (get_or l i d) (folded f end (i + 1) (drop (i + 1) l))
  fold_at d h = rw (drop-cons l i d, add-one i)

  pub fold_end : length l ≤ i → folded f end i (drop i l) ≡ end
  fold_end h = rw (drop_of_length-le l h)

-- elements that change nothing: those before i, and those from i on
module _ {A B : Type 0} (f : ℕ → A → B → B) (end : B) (d : A) (l : List A) where
  pub fold_skip : (i : ℕ) → i ≤ length l → ((j : ℕ) → j < i → (b : B) → f j (get_or l j d) b ≡ b) → folded f end 0 l ≡ folded f end i (drop i l)
  fold_skip zero h idle = refl
  fold_skip (suc i) h idle =
      fold_skip i (omega arith) (λ j less. idle j (omega arith))
      ∙ fold_at f end l i d (omega arith)
      ∙ idle i (omega arith) (folded f end (i + 1) (drop (i + 1) l))
      ∙ ap (λ (n : ℕ). folded f end n (drop n l)) (add-one i)

  rest : (n i : ℕ) → i + n ≡ length l → ((j : ℕ) → i ≤ j → j < length l → (b : B) → f j (get_or l j d) b ≡ b) → folded f end i (drop i l) ≡ end
  rest zero i h idle = fold_end f end l i (omega arith)
  rest (suc n) i h idle =
      fold_at f end l i d (omega arith)
      ∙ idle i (omega arith) (omega arith) (folded f end (i + 1) (drop (i + 1) l))
      ∙ rest n (i + 1) (omega arith) (λ j low less. idle j (omega arith) less)

  pub fold_rest : (i : ℕ) → i ≤ length l → ((j : ℕ) → i ≤ j → j < length l → (b : B) → f j (get_or l j d) b ≡ b) → folded f end i (drop i l) ≡ end
  fold_rest i h idle = rest (length l - i) i (omega arith) idle

-- ---- a list changed by index

module _ {A B : Type 0} (f : ℕ → A → B) where
  pub mapped_size : (i : ℕ) (l : List A) → length (mapped f i l) ≡ length l
  mapped_size i [] = refl
  mapped_size i (x ∷ xs) = ap suc (mapped_size (i + 1) xs)

  pub mapped_at : (d : A) (e : B) (i : ℕ) (l : List A) (k : ℕ) → k < length l → get_or (mapped f i l) k e ≡ f (i + k) (get_or l k d)
  mapped_at d e i [] k h = absurd (not-suc-le-zero h)
  mapped_at d e i (x ∷ xs) zero h = rw (add-zero i)
  mapped_at d e i (x ∷ xs) (suc k) h =
      let at : i + 1 + k ≡ i + suc k = omega arith in mapped_at d e (i + 1) xs k (le_of_suc-le-suc h) ∙ ap (λ (n : ℕ). f n (get_or xs k d)) at

-- ---- every index below a bound

pub below_get : (p : ℕ → Bool) (n : ℕ) → below p n ≡ true → (i : ℕ) → i < n → p i ≡ true
unfolding below
below_get p zero e i h = absurd (not-suc-le-zero h)
below_get p (suc n) e i h =
    ⊎_elim (λ same. rw same (and_left (p n) (below p n) e)) (λ other. below_get p n (and_right (p n) (below p n) e) i (omega arith)) (equal_or i n)

pub below_make : (p : ℕ → Bool) (n : ℕ) → ((i : ℕ) → i < n → p i ≡ true) → below p n ≡ true
unfolding below
below_make p zero f = refl
below_make p (suc n) f = and_both (f n (omega arith)) (below_make p n (λ i h. f i (omega arith)))

pub below_not : (p : ℕ → Bool) (n i : ℕ) → i < n → p i ≡ false → below p n ≡ false
below_not p n i h e = by (below p n) refl
  where
    by : (b : Bool) → below p n ≡ b → b ≡ false
    by false q = refl
    by true q = absurd (not_both (below_get p n q i h) e)

pub below_none : (p : ℕ → Bool) → below p 0 ≡ true
unfolding below
below_none p = refl

pub below_more : (p : ℕ → Bool) (n : ℕ) → below p n ≡ true → p n ≡ true → below p (n + 1) ≡ true
unfolding below
below_more p n rest here = rw add-one (and_both here rest)

-- ---- a list by its indexes

module _ {A : Type 0} (f : ℕ → A) where
  pub listed_size : (i n : ℕ) → length (listed f i n) ≡ n
  unfolding listed
  listed_size i zero = refl
  listed_size i (suc n) = ap suc (listed_size (i + 1) n)

  pub listed_at : (d : A) (i n k : ℕ) → k < n → get_or (listed f i n) k d ≡ f (i + k)
  unfolding listed
  listed_at d i zero k h = absurd (not-suc-le-zero h)
  listed_at d i (suc n) zero h = rw (add-zero i)
  listed_at d i (suc n) (suc k) h = let at : i + 1 + k ≡ i + suc k = omega arith in listed_at d (i + 1) n k (le_of_suc-le-suc h) ∙ ap f at
