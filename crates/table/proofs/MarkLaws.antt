-- Marks: the ranks below an index are marked, so a rank that is not marked is new on its side, and one that is stands below it.
use mathlib.Core.Path.{◌≡◌, refl, sym, ap, subst, ◌∙◌}
use mathlib.Core.Bool.{Bool, true, false, cond, ◌&&◌}
use mathlib.Core.Logic.{⊎_elim}
use mathlib.Core.List.{List}
use Prim.Native.Nat.{ℕ, suc, ◌+◌, ◌<◌}
use native.Mathlib.Nat.{not-suc-le-zero}
use native.Mathlib.Numerals.{add-one}
use native.Mathlib.Omega.{arith}
use lib.Dec.{eqb}
use borrow.Author.Tests.{eqb-true, eqb-false}
use lib.ListN.{length, get_or, set, replicate, length-set, length-replicate}
use lib.Seq.{get_or-set_same, get_or-set_other}
use Rattle.laws.proofs.Bools.{impossible, and_left, and_right, and_both, not_both, equal_or}
use Rattle.table.specs.declared.Side.{Side}
use Rattle.table.specs.declared.Side.TheVariants.{Position, Line}
use Rattle.table.specs.declared.Table.{Table}
use Rattle.table.specs.Places.{is_free, side_at, record_at, rank_at, place_count}
use Rattle.laws.specs.Lists.{below}
use Rattle.table.specs.Ranks.{calls_on, rank_fits, ranks_differ, rank_sound}
use Rattle.table.specs.Marks.{of_side, slot_of, is_fresh, with_mark, Marked, Entering}
use Rattle.table.proofs.Laws.{side_below}
use Rattle.table.proofs.RankLaws.{calls_few, alike, differ}
use Rattle.laws.proofs.Lists.{below_none, below_make, below_not}
use Rattle.laws.proofs.Runs.{zeros_get}
use Rattle.table.proofs.Facts.{rank_low}

-- a slot is of one rank of one side
one_slot : (a b : Side) (m n : ℕ) → m < 256 → n < 256 → slot_of a m ≡ slot_of b n → (a ≡ b) × (m ≡ n)
one_slot Position Position m n hm hn e = (refl, omega arith)
one_slot Position Line m n hm hn e = absurd (omega arith)
one_slot Line Position m n hm hn e = absurd (omega arith)
one_slot Line Line m n hm hn e = (refl, omega arith)

pub no_marks : (t : Table) (marks : List ℕ) → length marks ≡ 512 → ((s : ℕ) → get_or marks s 0 ≡ 0) → Marked t 0 marks
no_marks t marks n z = record {
  size = n;
  small = λ k h. absurd (not-suc-le-zero h);
  seen = λ k h r. absurd (not-suc-le-zero h);
  only = λ s h. absurd (h (z s));
}

module _ (t : Table) (n : ℕ) (marks : List ℕ) (M : Marked t n marks) (low : rank_at t n < 256) where
  abbrev side : Side
  side = side_at n

  abbrev rank : ℕ
  rank = rank_at t n

  -- a rank that is marked stands below
  marked_below : (rank ≡ 0 → ⊥) → eqb (get_or marks (slot_of side rank) 0) 0 ≡ false → below (ranks_differ t n) n ≡ false
  marked_below ranked e =
      let w = M.only (slot_of side rank) (eqb-false (get_or marks (slot_of side rank) 0) 0 e) in
      let k : ℕ = w.0 in
      let same = one_slot (side_at k) side (rank_at t k) rank (M.small k w.1) low w.2.there in
      below_not (ranks_differ t n) n k w.1 (alike t n k (sym same.0) ranked (sym same.1))

  -- one that is not does not
  new_below : (rank ≡ 0 → ⊥) → get_or marks (slot_of side rank) 0 ≡ 0 → (k : ℕ) → k < n → ranks_differ t n k ≡ true
  new_below ranked e k h =
      differ t n k (λ sides _ ranks.
      let one : get_or marks (slot_of (side_at k) (rank_at t k)) 0 ≡ 1 = M.seen k h (λ z. ranked (ranks ∙ z)) in
      let there : slot_of side rank ≡ slot_of (side_at k) (rank_at t k) = rw (← sides, ← ranks) in
      impossible (sym e ∙ ap (λ (s : ℕ). get_or marks s 0) there ∙ one))

  -- 0 is no rank
  none_below : rank ≡ 0 → (k : ℕ) → ranks_differ t n k ≡ true
  none_below z k = differ t n k (λ sides ranked ranks. ranked z)

  -- one place more
  small_more : (k : ℕ) → k < suc n → rank_at t k < 256
  small_more k h = ⊎_elim (λ same. rw same low) (λ other. M.small k (omega arith)) (equal_or k n)

  unranked : rank ≡ 0 → Marked t (suc n) marks
  unranked z = record {
    size = M.size;
    small = small_more;
    seen = λ k h r. ⊎_elim (λ same. absurd (r (rw same z))) (λ other. M.seen k (omega arith) r) (equal_or k n);
    only = λ s h. let w = M.only s h in (w.0, omega (arith, w.1), w.2);
  }

  module _ (ranked : rank ≡ 0 → ⊥) where
    room : slot_of side rank < length marks
    room = omega (arith, side_below side, low, M.size)

    here : get_or (set marks (slot_of side rank) 1) (slot_of side rank) 0 ≡ 1
    here = get_or-set_same marks (slot_of side rank) 1 0 room

    there : (s : ℕ) → (s ≡ slot_of side rank → ⊥) → get_or (set marks (slot_of side rank) 1) s 0 ≡ get_or marks s 0
    there s other = get_or-set_other marks (slot_of side rank) s 1 0 other

    still : (s : ℕ) → get_or marks s 0 ≡ 1 → get_or (set marks (slot_of side rank) 1) s 0 ≡ 1
    still s e = ⊎_elim (λ same. rw same here) (λ other. there s other ∙ e) (equal_or s (slot_of side rank))

    now_marked : Marked t (suc n) (set marks (slot_of side rank) 1)
    now_marked = record {
      size = length-set marks (slot_of side rank) 1 ∙ M.size;
      small = small_more;
      seen = λ k h r. ⊎_elim (λ same. rw same here) (λ other. still (slot_of (side_at k) (rank_at t k)) (M.seen k (omega arith) r)) (equal_or k n);
      only = λ s h.
          ⊎_elim
          (λ same. (n, omega arith, record { ranked = ranked; there = sym same }))
          (λ other. let w = M.only s (λ z. h (there s other ∙ z)) in (w.0, omega (arith, w.1), w.2))
          (equal_or s (slot_of side rank));
    }

  -- the two ends of one place
  pub enter_fresh : is_fresh marks side rank ≡ true → (below (ranks_differ t n) n ≡ true) × Marked t (suc n) (with_mark marks side rank)
  enter_fresh e = by (eqb rank 0) refl e
    where
      by : (b : Bool) → eqb rank 0 ≡ b → cond b true (eqb (get_or marks (slot_of side rank) 0) 0) ≡ true
          → (below (ranks_differ t n) n ≡ true) × Marked t (suc n) (cond b marks (set marks (slot_of side rank) 1))
      by true z q = let zero = eqb-true rank 0 z in (below_make (ranks_differ t n) n (λ k h. none_below zero k), unranked zero)
      by false z q =
          let ranked = eqb-false rank 0 z in
          (below_make (ranks_differ t n) n (new_below ranked (eqb-true (get_or marks (slot_of side rank) 0) 0 q)), now_marked ranked)

  pub enter_stale : is_fresh marks side rank ≡ false → below (ranks_differ t n) n ≡ false
  enter_stale e = by (eqb rank 0) refl e
    where
      by : (b : Bool) → eqb rank 0 ≡ b → cond b true (eqb (get_or marks (slot_of side rank) 0) 0) ≡ false → below (ranks_differ t n) n ≡ false
      by true z q = absurd (not_both refl q)
      by false z q = marked_below (eqb-false rank 0 z) q

-- ---- a place, entered after those below it

-- the calls of either side, by the side
pub side_calls : (t : Table) (a : Side) → of_side a (calls_on t Position) (calls_on t Line) ≡ calls_on t a
side_calls t Position = refl
side_calls t Line = refl

module _ (t : Table) (size : length t.places ≡ place_count) (n : ℕ) (marks : List ℕ) (M : Marked t n marks) where
  low_rank : rank_fits t n ≡ true → rank_at t n < 256
  low_rank fits = omega (arith, rank_low (is_free (record_at t n).state) (calls_on t (side_at n)) (rank_at t n) fits, calls_few t (side_at n))

  abbrev after : List ℕ
  after = cond (rank_fits t n) (with_mark marks (side_at n) (rank_at t n)) marks

  pub entered : (rank_fits t n && is_fresh marks (side_at n) (rank_at t n)) ≡ true → (rank_sound t n ≡ true) × Marked t (n + 1) after
  entered e =
      let fits = and_left (rank_fits t n) _ e in
      let more = enter_fresh t n marks M (low_rank fits) (and_right (rank_fits t n) _ e) in
      let marked = subst (λ (m : ℕ). Marked t m (with_mark marks (side_at n) (rank_at t n))) (sym (add-one n)) more.1 in
      (and_both fits more.0, subst (λ (b : Bool). Marked t (n + 1) (cond b (with_mark marks (side_at n) (rank_at t n)) marks)) (sym fits) marked)

  pub left_out : (rank_fits t n && is_fresh marks (side_at n) (rank_at t n)) ≡ false → rank_sound t n ≡ false
  left_out e = by (rank_fits t n) refl e
    where
      by : (b : Bool) → rank_fits t n ≡ b → (b && is_fresh marks (side_at n) (rank_at t n)) ≡ false → (b && below (ranks_differ t n) n) ≡ false
      by false fits q = refl
      by true fits q = enter_stale t n marks M (low_rank fits) q

-- ---- all places

pub entering_none : (t : Table) (marks : List ℕ) → marks ≡ replicate 512 0 → Entering t 0 marks
entering_none t marks e = (
  below_none (rank_sound t),
  no_marks t marks (ap length e ∙ length-replicate {A = ℕ} 512 0) (λ s. ap (λ (l : List ℕ). get_or l s 0) e ∙ zeros_get 512 s),
)
