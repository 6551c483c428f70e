-- Ranks, read off the order in which the stays began: a start gives the next rank of its side; an end lowers the higher ranks of its side by one;
-- of two places of one side the one that began first has the lower rank. Here `same j q` says that q is on the side of j.
use mathlib.Core.Path.{◌≡◌, refl, sym, ◌∙◌, ap}
use mathlib.Core.Logic.{◌≢◌, inl, inr}
use mathlib.Core.Bool.{Bool, true, false}
use mathlib.Core.List.{List, [], ◌∷◌, ◌++◌}
use Prim.Native.Nat.{ℕ, ◌<◌, suc, ◌≤◌, ◌+◌}
use native.Mathlib.Decide.{ℕ_discrete}
use native.Mathlib.Omega.{arith}
use Rattle.stays.specs.Stays.{whether, one_if, count, In, Before, first, later}
use Rattle.stays.proofs.Lists.{whether_yes, whether_no}
use Rattle.stays.proofs.Places.{dec_in, Distinct, without, without_not}

-- the rank of `j` in the order `o`, where `n` calls of its side came before: 0 where it is not there
abbrev pub rank : (ℕ → ℕ → Bool) → ℕ → List ℕ → ℕ → ℕ
rank same n [] j = 0
rank same n (q ∷ qs) j = whether (ℕ_discrete j q) (suc n) (rank same (n + one_if (same j q)) qs j)

module _ (same : ℕ → ℕ → Bool) where
  rank_skip : (n : ℕ) (j q : ℕ) (qs : List ℕ) → j ≢ q → rank same n (q ∷ qs) j ≡ rank same (n + one_if (same j q)) qs j
  rank_skip n j q qs h = whether_no (ℕ_discrete j q) (suc n) (rank same (n + one_if (same j q)) qs j) h

  rank_head : (n : ℕ) (j q : ℕ) (qs : List ℕ) → j ≡ q → rank same n (q ∷ qs) j ≡ suc n
  rank_head n j q qs h = whether_yes (ℕ_discrete j q) (suc n) (rank same (n + one_if (same j q)) qs j) h

  -- a place that is not there has rank 0
  pub rank_out : (n j : ℕ) (o : List ℕ) → ¬ In j o → rank same n o j ≡ 0
  rank_out n j [] h = refl
  rank_out n j (q ∷ qs) h = rank_skip n j q qs (λ e. h (inl e)) ∙ rank_out (n + one_if (same j q)) j qs (λ i. h (inr i))

  -- a place that is there comes after those before it
  pub rank_above : (n j : ℕ) (o : List ℕ) → In j o → n < rank same n o j
  rank_above n j [] b = absurd b
  rank_above n j (q ∷ qs) i = by (ℕ_discrete j q) i (rank_above (n + one_if (same j q)) j qs)
    where
      by : Dec (j ≡ q) → In j (q ∷ qs) → (In j qs → n + one_if (same j q) < rank same (n + one_if (same j q)) qs j) → n < rank same n (q ∷ qs) j
      by (yes e) h rec = omega (arith, rank_head n j q qs e)
      by (no k) (inl e) rec = absurd (k e)
      by (no k) (inr h) rec = omega (arith, rank_skip n j q qs k, rec h)

  -- one more before it
  pub rank_more : (n j : ℕ) (o : List ℕ) → In j o → rank same (n + 1) o j ≡ rank same n o j + 1
  rank_more n j [] b = absurd b
  rank_more n j (q ∷ qs) i = by (ℕ_discrete j q) i (rank_more (n + one_if (same j q)) j qs)
    where
      by : Dec (j ≡ q) → In j (q ∷ qs) → (In j qs → rank same (n + one_if (same j q) + 1) qs j ≡ rank same (n + one_if (same j q)) qs j + 1)
          → rank same (n + 1) (q ∷ qs) j ≡ rank same n (q ∷ qs) j + 1
      by (yes e) h rec = omega (arith, rank_head n j q qs e, rank_head (n + 1) j q qs e)
      by (no k) (inl e) rec = absurd (k e)
      by (no k) (inr h) rec =
          let swap : n + 1 + one_if (same j q) ≡ n + one_if (same j q) + 1 = omega arith in
          rank_skip (n + 1) j q qs k ∙ (rw swap (rec h) ∙ ap (λ z. z + 1) (sym (rank_skip n j q qs k)))

  -- a start: the others keep their rank
  pub start_other : (n j p : ℕ) (o : List ℕ) → j ≢ p → rank same n (o ++ (p ∷ [])) j ≡ rank same n o j
  start_other n j p [] h = rank_skip n j p [] h
  start_other n j p (q ∷ qs) h = by (ℕ_discrete j q) (start_other (n + one_if (same j q)) j p qs h)
    where
      by : Dec (j ≡ q) → rank same (n + one_if (same j q)) (qs ++ (p ∷ [])) j ≡ rank same (n + one_if (same j q)) qs j → rank same n (q ∷ (qs ++ (p ∷ []))) j ≡ rank same n (q ∷ qs) j
      by (yes e) rec = rank_head n j q (qs ++ (p ∷ [])) e ∙ sym (rank_head n j q qs e)
      by (no k) rec = rank_skip n j q (qs ++ (p ∷ [])) k ∙ (rec ∙ sym (rank_skip n j q qs k))

  -- a start: the new one is next of its side
  pub start_new : (n p : ℕ) (o : List ℕ) → ¬ In p o → rank same n (o ++ (p ∷ [])) p ≡ suc (n + count (same p) o)
  start_new n p [] h = omega (arith, rank_head n p p [] refl)
  start_new n p (q ∷ qs) h = omega (arith, rank_skip n p q (qs ++ (p ∷ [])) (λ e. h (inl e)), start_new (n + one_if (same p q)) p qs (λ i. h (inr i)))

  -- an end: the other side keeps its ranks
  pub end_aside : (n j p : ℕ) (o : List ℕ) → j ≢ p → same j p ≡ false → rank same n (without p o) j ≡ rank same n o j
  end_aside n j p [] a h = refl
  end_aside n j p (q ∷ qs) a h = by (ℕ_discrete p q) (ℕ_discrete j q) (λ k. end_aside k j p qs a h)
    where
      by : (d : Dec (p ≡ q)) → Dec (j ≡ q) → ((k : ℕ) → rank same k (without p qs) j ≡ rank same k qs j)
          → rank same n (whether d (without p qs) (q ∷ without p qs)) j ≡ rank same n (q ∷ qs) j
      by (yes e) c rec =
          let none : n + one_if (same j q) ≡ n = rw (← e, h) (omega arith) in
          rec n ∙ sym (rank_skip n j q qs (λ f. a (f ∙ sym e)) ∙ rw none)
      by (no d) (yes f) rec = rank_head n j q (without p qs) f ∙ sym (rank_head n j q qs f)
      by (no d) (no c) rec = rank_skip n j q (without p qs) c ∙ (rec (n + one_if (same j q)) ∙ sym (rank_skip n j q qs c))

  -- an end: on its own side the higher ranks drop by one, and the lower stay
  abbrev pub Dropped : ℕ → ℕ → ℕ → Type 0
  Dropped before there after = (there < before → after + 1 ≡ before) × (before ≤ there → after ≡ before)

  pub end_beside : (j p : ℕ) → j ≢ p → same j p ≡ true → ((q : ℕ) → same j q ≡ same p q) → (n : ℕ) (o : List ℕ) → Distinct o → In p o
      → Dropped (rank same n o j) (rank same n o p) (rank same n (without p o) j)
  end_beside j p a h alike n [] d b = absurd b
  end_beside j p a h alike n (q ∷ qs) d i = by (ℕ_discrete p q) (ℕ_discrete j q) i (λ k. end_beside j p a h alike k qs d.1)
    where
      first : p ≡ q → Dec (In j qs) → Dropped (rank same n (q ∷ qs) j) (rank same n (q ∷ qs) p) (rank same n (without p qs) j)
      first e (yes f) =
          let one : n + one_if (same j q) ≡ n + 1 = rw (← e, h) in
          let s = rank_skip n j q qs (λ g. a (g ∙ sym e)) in
          let r : rank same n (without p qs) j ≡ rank same n qs j = rw (without_not p qs (rw e d.0)) in
          let s' : rank same n (q ∷ qs) j ≡ rank same n qs j + 1 = s ∙ (rw one (rank_more n j qs f)) in
          omega (arith, rank_head n p q qs e, rank_above n j qs f)
      first e (no f) =
          let s : rank same n (q ∷ qs) j ≡ 0 = rank_skip n j q qs (λ g. a (g ∙ sym e)) ∙ rank_out (n + one_if (same j q)) j qs f in
          let r : rank same n (without p qs) j ≡ 0 = rw (without_not p qs (rw e d.0)) (rank_out n j qs f) in
          omega (arith, rank_head n p q qs e)

      later : (x : Dec (j ≡ q)) → p ≢ q → In p qs → ((k : ℕ) → In p qs → Dropped (rank same k qs j) (rank same k qs p) (rank same k (without p qs) j))
          → Dropped (rank same n (q ∷ qs) j) (rank same n (q ∷ qs) p) (rank same n (q ∷ without p qs) j)
      later (yes f) k g rec = omega (arith, rank_head n j q qs f, rank_head n j q (without p qs) f, rank_skip n p q qs k, rank_above (n + one_if (same p q)) p qs g)
      later (no f) k g rec = rw (rank_skip n j q qs f, rank_skip n p q qs k, rank_skip n j q (without p qs) f, alike q) (rec (n + one_if (same p q)) g)

      by : (x : Dec (p ≡ q)) → Dec (j ≡ q) → In p (q ∷ qs) → ((k : ℕ) → In p qs → Dropped (rank same k qs j) (rank same k qs p) (rank same k (without p qs) j))
          → Dropped (rank same n (q ∷ qs) j) (rank same n (q ∷ qs) p) (rank same n (whether x (without p qs) (q ∷ without p qs)) j)
      by (yes e) c g rec = first e (dec_in j qs)
      by (no k) c (inl e) rec = absurd (k e)
      by (no k) c (inr g) rec = later c k g rec

  -- ---- who came first

  pub before_in : (i j : ℕ) (o : List ℕ) → Before i j o → In j o
  before_in i j [] x = elim x [ ]
  before_in i j (q ∷ qs) (first e h) = inr h
  before_in i j (q ∷ qs) (later b) = inr (before_in i j qs b)

  -- of two places of one side the one that began first has the lower rank
  pub rank_before : (i j : ℕ) → same j i ≡ true → ((q : ℕ) → same i q ≡ same j q) → (n : ℕ) (o : List ℕ) → Distinct o → Before i j o
      → rank same n o i < rank same n o j
  rank_before i j h alike n [] d x = elim x [ ]
  rank_before i j h alike n (q ∷ qs) d (first e there) =
      let other : j ≢ q = λ f. d.0 (rw f at there) in
      let one : n + one_if (same j q) ≡ n + 1 = rw (← e, h) in
      let above : n + 1 < rank same (n + 1) qs j = rank_above (n + 1) j qs there in
      let skip : rank same n (q ∷ qs) j ≡ rank same (n + 1) qs j = rank_skip n j q qs other ∙ ap (λ k. rank same k qs j) one in
      omega (arith, rank_head n i q qs e, skip, above)
  rank_before i j h alike n (q ∷ qs) d (later b) =
      let oj : j ≢ q = λ f. d.0 (rw f at (before_in i j qs b)) in
      by (ℕ_discrete i q) (rank_before i j h alike (n + one_if (same j q)) qs d.1 b) oj
    where
      by : Dec (i ≡ q) → rank same (n + one_if (same j q)) qs i < rank same (n + one_if (same j q)) qs j → j ≢ q → rank same n (q ∷ qs) i < rank same n (q ∷ qs) j
      by (yes e) rec oj =
          let one : n + one_if (same j q) ≡ n + 1 = rw (← e, h) in
          omega (arith, rank_head n i q qs e, rank_skip n j q qs oj, rank_above (n + one_if (same j q)) j qs (before_in i j qs b), one)
      by (no k) rec oj = rw (rank_skip n i q qs k, rank_skip n j q qs oj, alike q) rec
