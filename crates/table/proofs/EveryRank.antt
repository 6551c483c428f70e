-- The ranks of a side with n calls are exactly 1 to n: they are from 1 to n and differ, so none of the n numbers is missing. Of the ranks up to m
-- there are at most m, and fewer where one is missing; of those up to n there are n.
use mathlib.Core.Path.{◌≡◌, refl, sym, ap, ◌∙◌}
use mathlib.Core.Bool.{Bool, true, false, cond, not, ◌&&◌}
use mathlib.Core.List.{List, [], ◌∷◌}
use Prim.Native.Nat.{ℕ, zero, suc, ◌+◌, ◌-◌, ◌<◌, ◌≤◌}
use native.Mathlib.Nat.{add-zero, zero-add}
use native.Mathlib.Omega.{arith}
use lib.Dec.{eqb, leb}
use borrow.Author.Tests.{eqb-true, eqb-false, leb-true, leb-false, le-leb, not-true, not-false}
use lib.ListN.{length, get_or}
use Rattle.laws.proofs.Bools.{never, and_left, and_right}
use Rattle.table.specs.declared.Side.{Side}
use Rattle.table.specs.declared.Record.{Record}
use Rattle.table.specs.declared.Table.{Table}
use Rattle.table.specs.Places.{is_free, same_side, side_at, blank, record_at, rank_at, place_count}
use Rattle.laws.specs.Lists.{below}
use Rattle.table.specs.Search.{total}
use Rattle.table.specs.Ranks.{held_on, calls_on}
use Rattle.table.specs.Sound.{Sound, EveryRank}
use Rattle.table.proofs.Sides.{side_is}
use Rattle.laws.proofs.Lists.{below_get}
use Rattle.table.proofs.Facts.{facts_of_test}

-- ---- sums of one for each index that passes a test

abbrev one : Bool → ℕ
one b = cond b 1 0

abbrev many : (ℕ → Bool) → ℕ → List Record → ℕ
many p i l = total (λ j r. one (p j)) i l

-- what holds of each index of a list, counted from i, holds of each index of its rest
rest : (P : ℕ → Record → Type 0) (i : ℕ) (r : Record) (rs : List Record) → ((k : ℕ) → k < length (r ∷ rs) → P (i + k) (get_or (r ∷ rs) k blank))
    → (k : ℕ) → k < length rs → P (i + 1 + k) (get_or rs k blank)
rest P i r rs f k h = let at : i + 1 + k ≡ i + suc k = omega arith in rw at (f (suc k) (omega arith))

total_le : (f g : ℕ → Record → ℕ) (i : ℕ) (l : List Record) → ((k : ℕ) → k < length l → f (i + k) (get_or l k blank) ≤ g (i + k) (get_or l k blank)) → total f i l ≤ total g i l
total_le f g i [] h = omega arith
total_le f g i (r ∷ rs) h =
    let here : f i r ≤ g i r = rw (add-zero i) at (h 0 (omega arith)) in
    omega (arith, here, total_le f g (i + 1) rs (rest (λ n x. f n x ≤ g n x) i r rs h))

many_split : (p q s : ℕ → Bool) → ((j : ℕ) → one (p j) ≤ one (q j) + one (s j)) → (i : ℕ) (l : List Record) → many p i l ≤ many q i l + many s i l
many_split p q s h i [] = omega arith
many_split p q s h i (r ∷ rs) = omega (arith, h i, many_split p q s h (i + 1) rs)

many_none : (p : ℕ → Bool) (i : ℕ) (l : List Record) → ((k : ℕ) → k < length l → p (i + k) ≡ false) → many p i l ≡ 0
many_none p i [] h = refl
many_none p i (r ∷ rs) h =
    let here : p i ≡ false = rw (add-zero i) at (h 0 (omega arith)) in
    omega (arith, ap one here, many_none p (i + 1) rs (rest (λ n x. p n ≡ false) i r rs h))

-- at most one index passes
many_one : (p : ℕ → Bool) (i : ℕ) (l : List Record) → ((j k : ℕ) → j < length l → k < length l → p (i + j) ≡ true → p (i + k) ≡ true → j ≡ k) → many p i l ≤ 1
many_one p i [] h = omega arith
many_one p i (r ∷ rs) h = by (p i) refl (many_one p (i + 1) rs later)
  where
    later : (j k : ℕ) → j < length rs → k < length rs → p (i + 1 + j) ≡ true → p (i + 1 + k) ≡ true → j ≡ k
    later j k hj hk pj pk =
        let aj : i + 1 + j ≡ i + suc j = omega arith in
        let ak : i + 1 + k ≡ i + suc k = omega arith in
        let same : suc j ≡ suc k = h (suc j) (suc k) (omega arith) (omega arith) (rw aj at pj) (rw ak at pk) in
        omega arith

    alone : p i ≡ true → (k : ℕ) → k < length rs → p (i + 1 + k) ≡ false
    alone q k hk = test (p (i + 1 + k)) refl
      where
        test : (b : Bool) → p (i + 1 + k) ≡ b → b ≡ false
        test false e = refl
        test true e =
            let at : i + 1 + k ≡ i + suc k = omega arith in
            let same : 0 ≡ suc k = h 0 (suc k) (omega arith) (omega arith) (rw (add-zero i) q) (rw at at e) in
            absurd (omega arith)

    by : (b : Bool) → p i ≡ b → many p (i + 1) rs ≤ 1 → one b + many p (i + 1) rs ≤ 1
    by true q few = omega (arith, many_none p (i + 1) rs (alone q))
    by false q few = omega (arith, few)

-- a test that not every index passes fails somewhere
below_fails : (p : ℕ → Bool) (n : ℕ) → below p n ≡ false → (i : ℕ) × (i < n) × (p i ≡ false)
unfolding below
below_fails p zero e = never (sym e)
below_fails p (suc n) e = by (p n) refl e (below_fails p n)
  where
    by : (b : Bool) → p n ≡ b → (b && below p n) ≡ false → (below p n ≡ false → (i : ℕ) × (i < n) × (p i ≡ false)) → (i : ℕ) × (i < suc n) × (p i ≡ false)
    by false q h rec = (n, omega arith, q)
    by true q h rec = let w = rec h in (w.0, omega (arith, w.1), w.2)

module _ (t : Table) (size : length t.places ≡ place_count) (S : Sound t) (a : Side) where
  abbrev on : ℕ → Bool
  on j = same_side (side_at j) a

  -- a rank of the side up to m, and just this one
  abbrev up_to : ℕ → ℕ → Bool
  up_to m j = on j && (not (eqb (rank_at t j) 0) && leb (rank_at t j) m)

  abbrev is : ℕ → ℕ → Bool
  is k j = on j && eqb (rank_at t j) k

  -- one number more, one rank more at most
  step : (m j : ℕ) → one (up_to (suc m) j) ≤ one (up_to m j) + one (is (suc m) j)
  step m j = by (on j) (eqb (rank_at t j) 0) (leb (rank_at t j) m) refl (leb (rank_at t j) (suc m)) refl (eqb (rank_at t j) (suc m)) refl
    where
      by : (x z y : Bool) → leb (rank_at t j) m ≡ y → (w : Bool) → leb (rank_at t j) (suc m) ≡ w → (v : Bool) → eqb (rank_at t j) (suc m) ≡ v
          → one (x && (not z && w)) ≤ one (x && (not z && y)) + one (x && v)
      by false z y p w q v r = omega arith
      by true true y p w q v r = omega arith
      by true false true p w q v r = by_any w v
        where
          by_any : (w v : Bool) → one w ≤ 1 + one v
          by_any true v = omega arith
          by_any false v = omega arith
      by true false false p false q v r = omega arith
      by true false false p true q true r = omega arith
      by true false false p true q false r =
          absurd (eqb-false (rank_at t j) (suc m) r (omega (arith, leb-false (rank_at t j) m p, leb-true (rank_at t j) (suc m) q)))

  alone : (k : ℕ) → (k ≡ 0 → ⊥) → many (is k) 0 t.places ≤ 1
  alone k n = many_one (is k) 0 t.places (λ i j hi hj pi pj.
      let si = side_is (side_at i) a (and_left (on i) _ (rw (zero-add i) at pi)) in
      let sj = side_is (side_at j) a (and_left (on j) _ (rw (zero-add j) at pj)) in
      let ri = eqb-true (rank_at t i) k (and_right (on i) _ (rw (zero-add i) at pi)) in
      let rj = eqb-true (rank_at t j) k (and_right (on j) _ (rw (zero-add j) at pj)) in
      S.one_rank i j (omega (arith, hi, size)) (omega (arith, hj, size)) (si ∙ sym sj) (λ z. n (sym ri ∙ z)) (ri ∙ sym rj))

  few : (m : ℕ) → many (up_to m) 0 t.places ≤ m
  few zero = omega (arith, many_none (up_to 0) 0 t.places (λ j h. none (0 + j)))
    where
      none : (j : ℕ) → up_to 0 j ≡ false
      none j = by (on j) (eqb (rank_at t j) 0) refl (leb (rank_at t j) 0) refl
        where
          by : (x z : Bool) → eqb (rank_at t j) 0 ≡ z → (w : Bool) → leb (rank_at t j) 0 ≡ w → (x && (not z && w)) ≡ false
          by false z q w r = refl
          by true true q w r = refl
          by true false q false r = refl
          by true false q true r = absurd (eqb-false (rank_at t j) 0 q (omega (arith, leb-true (rank_at t j) 0 r)))
  few (suc m) = omega (arith, few m, many_split (up_to (suc m)) (up_to m) (is (suc m)) (step m) 0 t.places, alone (suc m) (λ z. absurd (omega (arith, z))))

  module _ (k : ℕ) (missing : (j : ℕ) → j < place_count → is (suc k) j ≡ false) where
    fewer : (d : ℕ) → many (up_to (suc k + d)) 0 t.places < suc k + d
    fewer zero =
        let at : suc k + 0 ≡ suc k = omega arith in
        let gone : many (is (suc k)) 0 t.places ≡ 0 = many_none (is (suc k)) 0 t.places (λ j h. rw (zero-add j) (missing j (omega (arith, h, size)))) in
        rw at (omega (arith, few k, many_split (up_to (suc k)) (up_to k) (is (suc k)) (step k) 0 t.places, gone))
    fewer (suc d) =
        let at : suc k + suc d ≡ suc (suc k + d) = omega arith in
        rw at (omega (arith, fewer d, many_split (up_to (suc (suc k + d))) (up_to (suc k + d)) (is (suc (suc k + d))) (step (suc k + d)) 0 t.places, alone (suc (suc k + d)) (λ z. absurd (omega (arith, z)))))

  -- every call of the side has a rank up to n
  all_ranked : calls_on t a ≤ many (up_to (calls_on t a)) 0 t.places
  all_ranked = total_le (held_on a) (λ j r. one (up_to (calls_on t a) j)) 0 t.places (λ i h. rw (zero-add i) (here i (omega (arith, h, size))))
    where
      here : (i : ℕ) → i < place_count → held_on a i (record_at t i) ≤ one (up_to (calls_on t a) i)
      here i h = by (on i) refl (is_free (record_at t i).state) refl
        where
          by : (x : Bool) → on i ≡ x → (f : Bool) → is_free (record_at t i).state ≡ f → one (x && not f) ≤ one (x && (not (eqb (rank_at t i) 0) && leb (rank_at t i) (calls_on t a)))
          by false q f r = omega arith
          by true q true r = omega arith
          by true q false r =
              let nonzero : eqb (rank_at t i) 0 ≡ false = sym (S.ranked_if_held i h) ∙ r in
              let side : side_at i ≡ a = side_is (side_at i) a q in
              let low : leb (rank_at t i) (calls_on t a) ≡ true = le-leb (rank_at t i) (calls_on t a) (rw side at (S.rank_to_n i h)) in
              rw (nonzero, low) (omega arith)

  there : (k : ℕ) → suc k ≤ calls_on t a → (i : ℕ) × (i < place_count) × (side_at i ≡ a) × (rank_at t i ≡ suc k)
  there k h = by (below (λ j. not (is (suc k) j)) place_count) refl
    where
      by : (b : Bool) → below (λ j. not (is (suc k) j)) place_count ≡ b → (i : ℕ) × (i < place_count) × (side_at i ≡ a) × (rank_at t i ≡ suc k)
      by true q =
          let none : (j : ℕ) → j < place_count → is (suc k) j ≡ false = λ j hj. not-true (is (suc k) j) (below_get (λ j. not (is (suc k) j)) place_count q j hj) in
          let d = calls_on t a - suc k in
          let at : suc k + d ≡ calls_on t a = omega arith in
          let short : many (up_to (calls_on t a)) 0 t.places < calls_on t a = rw at at (fewer k none d) in
          absurd (omega (arith, short, all_ranked))
      by false q =
          let w = below_fails (λ j. not (is (suc k) j)) place_count q in
          let yes_there : is (suc k) w.0 ≡ true = not-false (is (suc k) w.0) w.2 in
          (w.0, w.1, side_is (side_at w.0) a (and_left (on w.0) _ yes_there), eqb-true (rank_at t w.0) (suc k) (and_right (on w.0) _ yes_there))

pub every_rank : EveryRank
every_rank t a k size sound from to = by k from to
  where
    by : (k : ℕ) → 1 ≤ k → k ≤ calls_on t a → (i : ℕ) × (i < place_count) × (side_at i ≡ a) × (rank_at t i ≡ k)
    by zero from to = absurd (omega arith)
    by (suc k) from to = there t size (facts_of_test t sound) a k to
