-- Laws of ranks: the calls of a side after a record is put anew, what becomes of each rank, and who is served next.
use mathlib.Core.Path.{◌≡◌, refl, sym, ap, subst, ◌∙◌}
use mathlib.Core.Bool.{Bool, true, false, cond, not, ◌&&◌}
use mathlib.Core.List.{List, [], ◌∷◌}
use mathlib.Core.Logic.{⊎_elim}
use Prim.Native.Nat.{ℕ, zero, suc, ◌+◌, ◌-◌, ◌<◌, ◌≤◌}
use native.Mathlib.Nat.{zero-add, add-zero, not-suc-le-zero, le_of_suc-le-suc}
use native.Mathlib.Numerals.{add-one}
use native.Mathlib.Omega.{arith}
use lib.Dec.{eqb}
use borrow.Author.Tests.{eqb-true, eqb-false, eq-eqb, ne_eqb, lt-ltb, le-ltb}
use lib.ListN.{length, get_or, set}
use Rattle.laws.proofs.Bools.{impossible, not_both, equal_or, less_or}
use Rattle.laws.proofs.Lists.{mapped_size, mapped_at}
use Rattle.table.specs.declared.Side.{Side}
use Rattle.table.specs.declared.Record.{Record}
use Rattle.table.specs.declared.Table.{Table}
use Rattle.std.specs.Prelude.{Option, Some, None}
use Rattle.table.specs.Places.{is_free, same_side, waiting_on, side_at, blank, record_at, rank_at}
use Rattle.table.specs.Search.{is_at, total}
use Rattle.table.specs.Ranks.{earlier, earliest, held_on, calls_on, ranks_differ, moved_up, lowered, closed_up}
use Rattle.table.proofs.Laws.{one_or_none}
use Rattle.table.proofs.Sides.{same_side_lem, other_side, side_is, side_or_lem}

-- ---- two ranks

-- two places of a side with one rank
pub alike : (t : Table) (i j : ℕ) → side_at i ≡ side_at j → (rank_at t i ≡ 0 → ⊥) → rank_at t i ≡ rank_at t j → ranks_differ t i j ≡ false
alike t i j side ranked same =
    let x : same_side (side_at i) (side_at j) ≡ true = same_side_lem (side_at i) (side_at j) side in
    let y : eqb (rank_at t i) 0 ≡ false = ne_eqb (rank_at t i) 0 ranked in
    let z : eqb (rank_at t i) (rank_at t j) ≡ true = eq-eqb (rank_at t i) (rank_at t j) same in
    rw (x, y, z)

-- two places that are not so
pub differ : (t : Table) (i j : ℕ) → (side_at i ≡ side_at j → (rank_at t i ≡ 0 → ⊥) → rank_at t i ≡ rank_at t j → ⊥) → ranks_differ t i j ≡ true
differ t i j unlike = by (same_side (side_at i) (side_at j)) refl (eqb (rank_at t i) 0) refl (eqb (rank_at t i) (rank_at t j)) refl
  where
    by : (x : Bool) → same_side (side_at i) (side_at j) ≡ x → (y : Bool) → eqb (rank_at t i) 0 ≡ y → (z : Bool) → eqb (rank_at t i) (rank_at t j) ≡ z
        → not (x && (not y && z)) ≡ true
    by false p y q z r = refl
    by true p true q z r = refl
    by true p false q false r = refl
    by true p false q true r =
        absurd (unlike (side_is (side_at i) (side_at j) p) (eqb-false (rank_at t i) 0 q) (eqb-true (rank_at t i) (rank_at t j) r))

-- ---- the calls of a side

pub total_set : (f : ℕ → Record → ℕ) (i : ℕ) (l : List Record) (k : ℕ) (r : Record) → k < length l
    → total f i (set l k r) + f (i + k) (get_or l k blank) ≡ total f i l + f (i + k) r
total_set f i [] k r h = absurd (not-suc-le-zero h)
total_set f i (x ∷ xs) zero r h = rw (add-zero i) (omega arith)
total_set f i (x ∷ xs) (suc k) r h =
    let at : i + 1 + k ≡ i + suc k = omega arith in
    let rest = rw at at (total_set f (i + 1) xs k r (le_of_suc-le-suc h)) in
    omega (arith, rest)

total_few : (f : ℕ → Record → ℕ) → ((i : ℕ) (r : Record) → f i r ≤ 1) → (i : ℕ) (l : List Record) → total f i l ≤ length l
total_few f one i [] = omega arith
total_few f one i (r ∷ rs) = omega (arith, one i r, total_few f one (i + 1) rs)

pub calls_few : (t : Table) (a : Side) → calls_on t a ≤ length t.places
calls_few t a = total_few (held_on a) (λ i r. one_or_none (same_side (side_at i) a && not (is_free r.state))) 0 t.places

-- ---- what becomes of a rank

-- the three things that can become of a rank
pub data Drops (a : Side) (k j r : ℕ) : ℕ → Type 0 where
  drops : side_at j ≡ a → k < r → Drops a k j r (r - 1)
  keeps : side_at j ≡ a → r ≤ k → Drops a k j r r
  aside : (side_at j ≡ a → ⊥) → Drops a k j r r

module _ (a : Side) (k j r : ℕ) where
  pub lowered_beside : side_at j ≡ a → lowered a k j r ≡ moved_up k r
  lowered_beside side = rw (same_side_lem (side_at j) a side)

  lowered_above : side_at j ≡ a → k < r → lowered a k j r ≡ r - 1
  lowered_above side lt = lowered_beside side ∙ rw (lt-ltb k r lt)

  lowered_below : side_at j ≡ a → r ≤ k → lowered a k j r ≡ r
  lowered_below side le = lowered_beside side ∙ rw (le-ltb k r le)

  pub lowered_aside : (side_at j ≡ a → ⊥) → lowered a k j r ≡ r
  lowered_aside other = rw (other_side (side_at j) a other)

  pub drops_view : Drops a k j r (lowered a k j r)
  drops_view =
      ⊎_elim
      (λ side. ⊎_elim
      (λ lt. subst (Drops a k j r) (sym (lowered_above side lt)) (drops side lt))
      (λ le. subst (Drops a k j r) (sym (lowered_below side le)) (keeps side le))
      (less_or k r))
      (λ other. subst (Drops a k j r) (sym (lowered_aside other)) (aside other))
      (side_or_lem (side_at j) a)

-- ---- ranks that close up

module _ (a : Side) (k : ℕ) (l : List ℕ) where
  pub closed_size : length (closed_up a k l) ≡ length l
  unfolding closed_up
  closed_size = mapped_size (lowered a k) 0 l

  pub closed_at : (j : ℕ) → j < length l → get_or (closed_up a k l) j 0 ≡ lowered a k j (get_or l j 0)
  unfolding closed_up
  closed_at j h = mapped_at (lowered a k) 0 0 0 l j h ∙ ap (λ (n : ℕ). lowered a k n (get_or l j 0)) (zero-add j)

-- ---- the waiting call that came first

-- what is found below n waits on the side, and no other that waits there has a lower rank; where nothing is found none waits
pub data First (t : Table) (a : Side) (n : ℕ) : Option ℕ → Type 0 where
  first : (i : ℕ) → i < n → is_at a (waiting_on a) i (record_at t i) ≡ true
      → ((j : ℕ) → j < n → is_at a (waiting_on a) j (record_at t j) ≡ true → rank_at t i ≤ rank_at t j) → First t a n (Some i)
  none : ((j : ℕ) → j < n → is_at a (waiting_on a) j (record_at t j) ≡ false) → First t a n None

module _ (t : Table) (a : Side) where
  abbrev waits : ℕ → Bool
  waits i = is_at a (waiting_on a) i (record_at t i)

  -- the same for one place more
  extend : {A : ℕ → Type 0} (n : ℕ) → A n → ((j : ℕ) → j < n → A j) → (j : ℕ) → j < suc n → A j
  extend {A} n last f j h = ⊎_elim (λ same. rw same last) (λ other. f j (omega arith)) (equal_or j n)

  skipped : (n : ℕ) (f : Option ℕ) → First t a n f → waits n ≡ false → First t a (suc n) f
  skipped n f (first i h w least) q =
      first i (omega arith) w (extend {A = λ j. waits j ≡ true → rank_at t i ≤ rank_at t j} n (λ y. absurd (not_both y q)) least)
  skipped n f (none idle) q = none (extend {A = λ j. waits j ≡ false} n q idle)

  -- of two the one with the lower rank
  earlier_new : (n i : ℕ) → rank_at t n < rank_at t i → earlier t n (Some i) ≡ Some n
  earlier_new n i lt = rw (lt-ltb (rank_at t n) (rank_at t i) lt)

  earlier_old : (n i : ℕ) → rank_at t i ≤ rank_at t n → earlier t n (Some i) ≡ Some i
  earlier_old n i le = rw (le-ltb (rank_at t n) (rank_at t i) le)

  taken : (n : ℕ) (f : Option ℕ) → First t a n f → waits n ≡ true → First t a (suc n) (earlier t n f)
  taken n f (none idle) q =
      first n (omega arith) q (extend {A = λ j. waits j ≡ true → rank_at t n ≤ rank_at t j} n (λ y. omega arith) (λ j h y. absurd (not_both y (idle j h))))
  taken n f (first i h w least) q =
      ⊎_elim
      (λ lt. subst (First t a (suc n)) (sym (earlier_new n i lt))
      (first n (omega arith) q (extend {A = λ j. waits j ≡ true → rank_at t n ≤ rank_at t j} n (λ y. omega arith) (λ j g y. omega (arith, least j g y, lt)))))
      (λ le. subst (First t a (suc n)) (sym (earlier_old n i le))
      (first i (omega arith) w (extend {A = λ j. waits j ≡ true → rank_at t i ≤ rank_at t j} n (λ y. le) least)))
      (less_or (rank_at t n) (rank_at t i))

  earliest_first : (n : ℕ) → First t a n (earliest t a n)
  unfolding earliest
  earliest_first zero = none (λ j h. absurd (not-suc-le-zero h))
  earliest_first (suc n) = by (waits n) refl (earliest_first n)
    where
      by : (b : Bool) → waits n ≡ b → First t a n (earliest t a n) → First t a (suc n) (cond b (earlier t n (earliest t a n)) (earliest t a n))
      by true q f = taken n (earliest t a n) f q
      by false q f = skipped n (earliest t a n) f q

  -- what is found below n waits there, and none that waits there came before it
  pub found_leads : (n i : ℕ) → earliest t a n ≡ Some i → (i < n) × (waits i ≡ true) × ((j : ℕ) → j < n → waits j ≡ true → rank_at t i ≤ rank_at t j)
  found_leads n i e = by (earliest t a n) (earliest_first n) e
    where
      by : (f : Option ℕ) → First t a n f → f ≡ Some i → (i < n) × (waits i ≡ true) × ((j : ℕ) → j < n → waits j ≡ true → rank_at t i ≤ rank_at t j)
      by f (first j h w least) q = let same : j ≡ i = cc q in subst (λ (m : ℕ). (m < n) × (waits m ≡ true) × ((k : ℕ) → k < n → waits k ≡ true → rank_at t m ≤ rank_at t k)) same (h, w, least)
      by f (none idle) q = impossible (cc q)

  pub found_below : (n i : ℕ) → earliest t a n ≡ Some i → i < n
  found_below n i e = (found_leads n i e).0

pub earliest_none : (t : Table) (a : Side) → earliest t a 0 ≡ None
unfolding earliest
earliest_none t a = refl

-- places that do not wait add nothing
pub earliest_rest : (t : Table) (a : Side) (n m : ℕ) → n ≤ m → ((j : ℕ) → n ≤ j → j < m → is_at a (waiting_on a) j (record_at t j) ≡ false) → earliest t a m ≡ earliest t a n
unfolding earliest
earliest_rest t a n zero h idle = let none : n ≡ 0 = omega arith in rw none
earliest_rest t a n (suc m) h idle =
    ⊎_elim
    (λ past. rw past)
    (λ more. rw (idle m (omega arith) (omega arith)) (earliest_rest t a n m (omega arith) (λ j low high. idle j low (omega arith))))
    (equal_or n (suc m))

pub earliest_more : (t : Table) (a : Side) (n : ℕ)
    → earliest t a (n + 1) ≡ cond (is_at a (waiting_on a) n (record_at t n)) (earlier t n (earliest t a n)) (earliest t a n)
unfolding earliest
earliest_more t a n = ap (earliest t a) (add-one n)
