-- Looking through the places of an image, one after the other: what the places from i on say, by place i and those after it.
use mathlib.Core.Path.{◌≡◌, ap, ◌∙◌}
use mathlib.Core.Bool.{Bool, true, false, cond, not, ◌&&◌}
use mathlib.Core.List.{List}
use Rattle.std.proofs.Math.Bool.{and-true, and-false}
use mathlib.Core.Logic.{inl, inr}
use Prim.Native.Nat.{ℕ, ◌+◌, ◌<◌, ◌≤◌}
use native.Mathlib.Nat.{zero-add}
use native.Mathlib.Omega.{arith}
use lib.Dec.{eqb}
use lib.ListN.{length, get_or, take, drop}
use lib.Seq.{take_all}
use Rattle.std.specs.Prelude.{Option, Some, None}
use Rattle.laws.proofs.Lists.{fold_skip, fold_rest}
use Rattle.table.specs.declared.State.{State}
use Rattle.table.specs.declared.Side.{Side}
use Rattle.table.specs.declared.Record.{Record}
use Rattle.table.specs.Places.{place_count, side_at, first_index, end_index, call_octets, blank}
use Rattle.table.specs.Search.{same_call, holds, is_at, lowest, total}
use Rattle.table.specs.Ranks.{held_on, calls_on}
use Rattle.table.proofs.Sides.{other_side, end_inside, side_outside}
use Rattle.table.proofs.Searches.{lowest_at, lowest_end, total_at, total_end}
use Rattle.image.specs.Image.{place_start, record_from, state_octet, record_in, table_from}
use Rattle.image.specs.Quick.{call_at}
use Rattle.image.proofs.Round.{size_from, record_at_lem}
use Rattle.image.proofs.PlaceLaws.{free_octet}

module _ (s : List ℕ) (i : ℕ) where
  -- the records from place i on
  abbrev pub from_place : List Record
  from_place = drop i (table_from s).places

  module _ (p : ℕ → Record → Bool) where
    pub lowest_place : i < place_count → lowest p i from_place ≡ cond (p i (record_in s i)) (Some i) (lowest p (i + 1) (drop (i + 1) (table_from s).places))
    lowest_place h =
        lowest_at p blank (table_from s).places i (omega (arith, size_from s))
        ∙ ap (λ (r : Record). cond (p i r) (Some i) (lowest p (i + 1) (drop (i + 1) (table_from s).places))) (record_at_lem s i h)

    pub lowest_past : place_count ≤ i → lowest p i from_place ≡ None
    lowest_past h = lowest_end p blank (table_from s).places i (omega (arith, size_from s))

  module _ (f : ℕ → Record → ℕ) where
    pub total_place : i < place_count → total f i from_place ≡ f i (record_in s i) + total f (i + 1) (drop (i + 1) (table_from s).places)
    total_place h =
        total_at f (table_from s).places i (omega (arith, size_from s))
        ∙ ap (λ (r : Record). f i r + total f (i + 1) (drop (i + 1) (table_from s).places)) (record_at_lem s i h)

    pub total_past : place_count ≤ i → total f i from_place ≡ 0
    total_past h = total_end f (table_from s).places i (omega (arith, size_from s))

-- ---- the places of a side: what only they can change goes from its first place to its last

module _ (s : List ℕ) (a : Side) where
  abbrev records : List Record
  records = (table_from s).places

  side_room : end_index a ≤ length records
  side_room = omega (arith, size_from s, (end_inside a).1)

  first_room : first_index a ≤ length records
  first_room = omega (arith, side_room, (end_inside a).0)

  -- another side's place, before the first or after the last
  before_first : (j : ℕ) → j < first_index a → side_at j ≡ a → ⊥
  before_first j h = side_outside a j (omega (arith, h, end_inside a)) (inl h)

  after_last : (j : ℕ) → end_index a ≤ j → j < length records → side_at j ≡ a → ⊥
  after_last j low h = side_outside a j (omega (arith, h, size_from s)) (inr low)

  module _ (u : State) where
    not_at : (j : ℕ) → (side_at j ≡ a → ⊥) → (b : Option ℕ) → cond (is_at a u j (get_or records j blank)) (Some j) b ≡ b
    not_at j other b = rw (other_side (side_at j) a other)

    pub lowest_first : lowest (is_at a u) 0 records ≡ lowest (is_at a u) (first_index a) (drop (first_index a) records)
    lowest_first = fold_skip (λ i r later. cond (is_at a u i r) (Some i) later) None blank records (first_index a) first_room (λ j h. not_at j (before_first j h))

    pub lowest_last : lowest (is_at a u) (end_index a) (drop (end_index a) records) ≡ None
    lowest_last = fold_rest (λ i r later. cond (is_at a u i r) (Some i) later) None blank records (end_index a) side_room (λ j low h. not_at j (after_last j low h))

  not_held : (j : ℕ) → (side_at j ≡ a → ⊥) → (b : ℕ) → held_on a j (get_or records j blank) + b ≡ b
  not_held j other b = rw (other_side (side_at j) a other) (zero-add b)

  pub calls_first : calls_on (table_from s) a ≡ total (held_on a) (first_index a) (drop (first_index a) records)
  calls_first = fold_skip (λ i r later. held_on a i r + later) 0 blank records (first_index a) first_room (λ j h. not_held j (before_first j h))

  pub calls_last : total (held_on a) (end_index a) (drop (end_index a) records) ≡ 0
  calls_last = fold_rest (λ i r later. held_on a i r + later) 0 blank records (end_index a) side_room (λ j low h. not_held j (after_last j low h))

-- ---- a place holds a call by its octets: the call first, and then the state

module _ (s : List ℕ) (i : ℕ) (call : List ℕ) where
  by_octets : holds call (record_in s i) ≡ (not (eqb (state_octet s i) 0) && same_call (call_at s i) call)
  unfolding record_from
  by_octets = rw (free_octet s (place_start i))

  pub holds_same : same_call (call_at s i) call ≡ true → holds call (record_in s i) ≡ not (eqb (state_octet s i) 0)
  holds_same h = by_octets ∙ rw h (and-true (not (eqb (state_octet s i) 0)))

  pub holds_other : same_call (call_at s i) call ≡ false → holds call (record_in s i) ≡ false
  holds_other h = by_octets ∙ rw h (and-false (not (eqb (state_octet s i) 0)))

-- a call is all of its octets
pub whole_call : (call : List ℕ) → length call ≡ call_octets → take call_octets (drop 0 call) ≡ call
whole_call call h = take_all call_octets call (omega arith)
