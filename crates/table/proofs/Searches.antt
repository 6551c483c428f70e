-- What a search says of a list: the index that it finds is the first that passes the test; where it finds none, nothing passes. One step of a search
-- and of a sum, as the loops take it, is one step of their fold.
use mathlib.Core.Path.{◌≡◌, refl, sym, ◌∙◌, subst}
use mathlib.Core.Bool.{Bool, true, false, cond}
use mathlib.Core.List.{List, [], ◌∷◌}
use Prim.Native.Nat.{ℕ, zero, suc, ◌+◌, ◌<◌, ◌≤◌}
use native.Mathlib.Nat.{add-zero, zero-add, not-suc-le-zero, le_of_suc-le-suc}
use native.Mathlib.Omega.{arith}
use lib.ListN.{length, drop, get_or}
use Rattle.laws.proofs.Lists.{fold_at, fold_end}
use Rattle.table.specs.declared.State.{State}
use Rattle.table.specs.declared.Side.{Side}
use Rattle.table.specs.declared.Record.{Record}
use Rattle.table.specs.declared.Table.{Table}
use Rattle.std.specs.Prelude.{Option, Some, None}
use Rattle.laws.proofs.Bools.{impossible, not_both}
use Rattle.table.specs.Places.{blank, record_at, place_count}
use Rattle.table.specs.Search.{is_at, lowest, lowest_in, total}

module _ (f : ℕ → Record → ℕ) (l : List Record) (i : ℕ) where
  pub total_at : i < length l → total f i (drop i l) ≡ f i (get_or l i blank) + total f (i + 1) (drop (i + 1) l)
  total_at h = fold_at (λ i r later. f i r + later) 0 l i blank h

  pub total_end : length l ≤ i → total f i (drop i l) ≡ 0
  total_end h = fold_end (λ i r later. f i r + later) 0 l i h

-- the first index of a list of anything, counted from i, that passes a test; d is what a read past its end gives
module _ {A : Type 0} (p : ℕ → A → Bool) (d : A) where
  -- one step of the search, at index i of a list, and its end past the list
  pub lowest_at : (l : List A) (i : ℕ) → i < length l → lowest p i (drop i l) ≡ cond (p i (get_or l i d)) (Some i) (lowest p (i + 1) (drop (i + 1) l))
  lowest_at l i h = fold_at (λ i x later. cond (p i x) (Some i) later) None l i d h

  pub lowest_end : (l : List A) (i : ℕ) → length l ≤ i → lowest p i (drop i l) ≡ None
  lowest_end l i h = fold_end (λ i x later. cond (p i x) (Some i) later) None l i h

  -- the k-th element is the one found: it passes, and none before it does
  pub record Hit (i : ℕ) (l : List A) (j : ℕ) : Type 0 where
    pub k : ℕ
    pub at : j ≡ i + k
    pub inside : k < length l
    pub passes : p (i + k) (get_or l k d) ≡ true
    pub first : (m : ℕ) → m < k → p (i + m) (get_or l m d) ≡ false

  pub lowest_hit : (i : ℕ) (l : List A) (j : ℕ) → lowest p i l ≡ Some j → Hit i l j
  lowest_hit i [] j e = impossible cc
  lowest_hit i (x ∷ xs) j e = by (p i x) refl e (λ g. lowest_hit (i + 1) xs j g)
    where
      by : (b : Bool) → p i x ≡ b → cond b (Some i) (lowest p (i + 1) xs) ≡ Some j → (lowest p (i + 1) xs ≡ Some j → Hit (i + 1) xs j) → Hit i (x ∷ xs) j
      by true q g later =
          let same : i ≡ j = cc in
          record { k = 0; at = omega arith; inside = omega arith; passes = rw (add-zero i) q; first = λ m h. absurd (not-suc-le-zero h) }
      by false q g later =
          let h = later g in
          let at : i + 1 + h.k ≡ i + suc h.k = omega arith in
          record { k = suc h.k; at = h.at ∙ at; inside = omega (arith, h.inside); passes = rw at at h.passes; first = before h.k h.first }
        where
          before : (k : ℕ) → ((m : ℕ) → m < k → p (i + 1 + m) (get_or xs m d) ≡ false) → (m : ℕ) → m < suc k → p (i + m) (get_or (x ∷ xs) m d) ≡ false
          before k f zero h = rw (add-zero i) q
          before k f (suc m) h = let at : i + 1 + m ≡ i + suc m = omega arith in rw at at (f m (le_of_suc-le-suc h))

  pub lowest_none : (i : ℕ) (l : List A) → lowest p i l ≡ None → (k : ℕ) → k < length l → p (i + k) (get_or l k d) ≡ false
  lowest_none i [] e k h = absurd (not-suc-le-zero h)
  lowest_none i (x ∷ xs) e k h = by (p i x) refl e (λ g m w. lowest_none (i + 1) xs g m w) k h
    where
      by : (b : Bool) → p i x ≡ b → cond b (Some i) (lowest p (i + 1) xs) ≡ None
          → (lowest p (i + 1) xs ≡ None → (m : ℕ) → m < length xs → p (i + 1 + m) (get_or xs m d) ≡ false)
          → (k : ℕ) → k < length (x ∷ xs) → p (i + k) (get_or (x ∷ xs) k d) ≡ false
      by true q g later k h = impossible cc
      by false q g later zero h = rw (add-zero i) q
      by false q g later (suc k) h = let at : i + 1 + k ≡ i + suc k = omega arith in rw at at (later g k (le_of_suc-le-suc h))

  -- the same of a whole list
  pub first_passing : (l : List A) (j : ℕ) → lowest p 0 l ≡ Some j
      → (j < length l) × (p j (get_or l j d) ≡ true) × ((m : ℕ) → m < j → p m (get_or l m d) ≡ false)
  first_passing l j e =
      let h = lowest_hit 0 l j e in
      let here : h.k ≡ j = sym (h.at ∙ zero-add h.k) in (
        omega (arith, h.inside),
        subst (λ (n : ℕ). p n (get_or l n d) ≡ true) here (rw (zero-add h.k) at h.passes),
        λ m w. rw (zero-add m) at (h.first m (omega arith)),
      )

  pub none_passing : (l : List A) → lowest p 0 l ≡ None → (j : ℕ) → j < length l → p j (get_or l j d) ≡ false
  none_passing l e j h = rw (zero-add j) at (lowest_none 0 l e j h)

-- .. and of a table
module _ (t : Table) (size : length t.places ≡ place_count) (p : ℕ → Record → Bool) where
  pub found_passes : (j : ℕ) → lowest p 0 t.places ≡ Some j → (j < place_count) × (p j (record_at t j) ≡ true)
  found_passes j e = let h = first_passing p blank t.places j e in (omega (arith, h.0), h.1)

  pub none_passes : lowest p 0 t.places ≡ None → (j : ℕ) → j < place_count → p j (record_at t j) ≡ false
  none_passes e j h = none_passing p blank t.places e j (omega arith)

  pub none_found : ((j : ℕ) → j < place_count → p j (record_at t j) ≡ false) → lowest p 0 t.places ≡ None
  none_found fails = by (lowest p 0 t.places) refl
    where
      by : (x : Option ℕ) → lowest p 0 t.places ≡ x → x ≡ None
      by None e = refl
      by (Some j) e = let h = found_passes j e in absurd (not_both h.1 (fails j h.0))

-- the lowest place of a side in a state is one
pub lowest_passes : (t : Table) → length t.places ≡ place_count → (a : Side) (s : State) (i : ℕ) → lowest_in t a s ≡ Some i → (i < place_count) × (is_at a s i (record_at t i) ≡ true)
lowest_passes t size a s i e = found_passes t size (is_at a s) i e
