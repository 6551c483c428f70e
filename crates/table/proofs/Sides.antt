-- Sides and places: which indexes are a side's, and how the number of a place and its index tell each other. Whoever needs the side of a place cites
-- these laws, so that the capacities stand in no other proof.
use mathlib.Core.Path.{◌≡◌, refl, sym, ap, ◌∙◌}
use mathlib.Core.Bool.{Bool, true, false}
use mathlib.Core.Logic.{◌⊎◌, inl, inr, ⊎_elim}
use Prim.Native.Nat.{ℕ, zero, suc, ◌+◌, ◌-◌, ◌<◌, ◌≤◌}
use native.Mathlib.Omega.{arith}
use borrow.Author.Tests.{lt-ltb, le-ltb, le-leb, lt-leb}
use Rattle.laws.proofs.Bools.{never, not_both, less_or}
use Rattle.table.specs.declared.Side.{Side}
use Rattle.table.specs.declared.Side.TheVariants.{Position, Line}
use Rattle.std.specs.Prelude.{Some, None}
use Rattle.table.specs.Places.{same_side, position_count, place_count, side_of, is_of, place_at, side_at, index_of, first_index, end_index}

-- ---- two sides

pub side_is : (a b : Side) → same_side a b ≡ true → a ≡ b
side_is Position Position h = refl
side_is Position Line h = never h
side_is Line Position h = never h
side_is Line Line h = refl

pub same_side_lem : (a b : Side) → a ≡ b → same_side a b ≡ true
same_side_lem Position b e = rw (← e)
same_side_lem Line b e = rw (← e)

pub other_side : (a b : Side) → (a ≡ b → ⊥) → same_side a b ≡ false
other_side a b n = by (same_side a b) refl
  where
    by : (x : Bool) → same_side a b ≡ x → x ≡ false
    by false q = refl
    by true q = absurd (n (side_is a b q))

pub side_or_lem : (a b : Side) → (a ≡ b) ⊎ (a ≡ b → ⊥)
side_or_lem a b = by (same_side a b) refl
  where
    by : (x : Bool) → same_side a b ≡ x → (a ≡ b) ⊎ (a ≡ b → ⊥)
    by true q = inl (side_is a b q)
    by false q = inr (λ e. not_both (same_side_lem a b e) q)

-- ---- the number of a place and its index

pub place_of : (i : ℕ) → i < place_count → place_at i ≡ record { 0 = i + 1 }
place_of i h = rw (lt-ltb i place_count h)

pub place_number : (i : ℕ) → i < place_count → (place_at i).0 ≡ i + 1
place_number i h = ap (λ p. p.0) (place_of i h)

pub place_index : (i : ℕ) → i < place_count → index_of (place_at i).0 ≡ i
place_index i h = let at : (place_at i).0 ≡ suc i = omega (arith, place_number i h) in rw at

pub same_index : (i j : ℕ) → i < place_count → j < place_count → place_at i ≡ place_at j → i ≡ j
same_index i j hi hj q = omega (arith, place_number i hi, place_number j hj, ap (λ p. p.0) q)

pub less_one : (n : ℕ) → 1 ≤ n → n - 1 ≡ index_of n
less_one zero h = absurd (omega arith)
less_one (suc k) h = omega arith

-- ---- the places of a side

module _ (n : ℕ) (from : 1 ≤ n) where
  first_range : n ≤ position_count → side_of (record { 0 = n }) ≡ Some Position
  first_range h = rw (le-ltb n 1 from, le-leb n position_count h)

  second_range : position_count < n → n ≤ place_count → side_of (record { 0 = n }) ≡ Some Line
  second_range h l = rw (le-ltb n 1 from, lt-leb n position_count h, le-leb n place_count l)

  no_range : place_count < n → side_of (record { 0 = n }) ≡ None
  no_range h = rw (le-ltb n 1 from, lt-leb n position_count (omega arith), lt-leb n place_count h)

pub end_inside : (a : Side) → (first_index a ≤ end_index a) × (end_index a ≤ place_count)
end_inside Position = (omega arith, omega arith)
end_inside Line = (omega arith, omega arith)

pub side_inside : (a : Side) (j : ℕ) → first_index a ≤ j → j < end_index a → side_at j ≡ a
side_inside Position j low high = rw (lt-ltb j place_count (omega arith), first_range (j + 1) (omega arith) (omega arith))
side_inside Line j low high = rw (lt-ltb j place_count high, second_range (j + 1) (omega arith) (omega arith) (omega arith))

-- an index of the table is one of its side
pub inside_side : (j : ℕ) → j < place_count → (first_index (side_at j) ≤ j) × (j < end_index (side_at j))
inside_side j h =
    ⊎_elim
    (λ low. rw (side_inside Position j (omega arith) low) (omega arith, low))
    (λ high. rw (side_inside Line j high h) (high, h))
    (less_or j position_count)

pub side_outside : (a : Side) (j : ℕ) → j < place_count → (j < first_index a) ⊎ (end_index a ≤ j) → side_at j ≡ a → ⊥
side_outside a j h out e =
    let in_a = rw e at (inside_side j h) in
    ⊎_elim (λ low. omega (arith, low, in_a.0)) (λ high. omega (arith, high, in_a.1)) out

-- the first place of a side is one of it
pub side_first : (a : Side) → side_at (first_index a) ≡ a
side_first Position = side_inside Position (first_index Position) (omega arith) (omega arith)
side_first Line = side_inside Line (first_index Line) (omega arith) (omega arith)

-- a place of the table has a side, and a number with a side is one of the table
pub side_of_number : (n : ℕ) → 1 ≤ n → n ≤ place_count → side_of (record { 0 = n }) ≡ Some (side_at (index_of n))
side_of_number zero from h = absurd (omega arith)
side_of_number (suc k) from h =
    ⊎_elim
    (λ low. first_range (suc k) from (omega arith) ∙ ap Some (sym (side_inside Position k (omega arith) low)))
    (λ high. second_range (suc k) from (omega arith) h ∙ ap Some (sym (side_inside Line k high (omega arith))))
    (less_or k position_count)

pub number_of_side : (d : Side) (n : ℕ) → is_of d (side_of (record { 0 = n })) ≡ true → (1 ≤ n) × (n ≤ place_count)
number_of_side d zero h = never h
number_of_side d (suc k) h =
    (omega arith, ⊎_elim (λ out. never (rw (no_range (suc k) (omega arith) out) at h)) (λ inside. inside) (less_or place_count (suc k)))

-- its index is of that side
pub proposed_side : (d : Side) (n : ℕ) → is_of d (side_of (record { 0 = n })) ≡ true → (index_of n < place_count) × (side_at (index_of n) ≡ d)
proposed_side d n h =
    let in_table = number_of_side d n h in
    (omega (arith, less_one n in_table.0, in_table), side_is (side_at (index_of n)) d (rw (side_of_number n in_table.0 in_table.1) at h))

pub place_side : (i : ℕ) → i < place_count → is_of (side_at i) (side_of (place_at i)) ≡ true
place_side i h =
    let index : index_of (i + 1) ≡ i = let at : i + 1 ≡ suc i = omega arith in rw at in
    let side : side_of (place_at i) ≡ Some (side_at i) =
    ap side_of (place_of i h) ∙ side_of_number (i + 1) (omega arith) (omega arith) ∙ ap (λ (k : ℕ). Some (side_at k)) index in
    ap (is_of (side_at i)) side ∙ same_side_lem (side_at i) (side_at i) refl
