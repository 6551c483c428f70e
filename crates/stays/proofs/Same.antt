-- The same events, none lost and none doubled: two lists that have the same events at each place, in the same order, have as many of whatever is
-- counted. The first event of the one is taken out of the other, where it is the first of its place, and so on.
use mathlib.Core.Path.{◌≡◌, refl, sym, ap, ◌∙◌}
use mathlib.Core.Bool.{Bool, true, false, cond}
use mathlib.Core.List.{List, [], ◌∷◌, nil≢cons, head-eq_of_cons-eq, tail-eq_of_cons-eq}
use Prim.Native.Nat.{ℕ, ◌+◌}
use native.Mathlib.Omega.{arith}
use lib.Dec.{eqb}
use borrow.Author.Tests.{eqb-true, eqb-false, eq-eqb}
use Rattle.stays.specs.Stays.{one_if, count}
use Rattle.stays.specs.Arranged.{Numbered, acts, at}

module _ {X : Type 0} (place : X → ℕ) (f : X → Bool) where
  -- a list without one event, which comes before all others of its place
  record TakenOut (x : Numbered X) (ys : List (Numbered X)) : Type 0 where
    rest : List (Numbered X)
    counted : count f (acts ys) ≡ one_if (f x.act) + count f (acts rest)
    same : (p : ℕ) → at place p ys ≡ at place p (x ∷ rest)

  -- two events at different places are in either order
  swapped : (x y : Numbered X) (a b : Bool) (l : List (Numbered X)) → (a ≡ true → b ≡ true → ⊥)
      → cond b (y ∷ cond a (x ∷ l) l) (cond a (x ∷ l) l) ≡ cond a (x ∷ cond b (y ∷ l) l) (cond b (y ∷ l) l)
  swapped x y true true l n = absurd (n refl refl)
  swapped x y true false l n = refl
  swapped x y false true l n = refl
  swapped x y false false l n = refl

  taken_out : (x : Numbered X) (l ys : List (Numbered X)) → at place (place x.act) ys ≡ x ∷ l → TakenOut x ys
  taken_out x l [] e = absurd (nil≢cons e)
  taken_out x l (y ∷ ys) e = by (eqb (place y.act) (place x.act)) refl e (taken_out x l ys)
    where
      q : ℕ
      q = place x.act

      by : (b : Bool) → eqb (place y.act) q ≡ b → cond b (y ∷ at place q ys) (at place q ys) ≡ x ∷ l → (at place q ys ≡ x ∷ l → TakenOut x ys) → TakenOut x (y ∷ ys)
      by true t h rec =
          let here : y ≡ x = head-eq_of_cons-eq h in
          record { rest = ys; counted = ap (λ (z : Numbered X). one_if (f z.act) + count f (acts ys)) here; same = λ p. ap (λ (z : Numbered X). at place p (z ∷ ys)) here }
      by false t h rec =
          let w = rec h in
          let apart : (p : ℕ) → eqb q p ≡ true → eqb (place y.act) p ≡ true → ⊥ = λ p a b. eqb-false (place y.act) q t (eqb-true (place y.act) p b ∙ sym (eqb-true q p a)) in
          record {
            rest = y ∷ w.rest;
            counted = omega (arith, w.counted);
            same = λ p.
                ap (λ (m : List (Numbered X)). cond (eqb (place y.act) p) (y ∷ m) m) (w.same p)
                ∙ swapped x y (eqb q p) (eqb (place y.act) p) (at place p w.rest) (apart p);
          }

  -- an event that both begin with, taken from both
  both : (x : Numbered X) (b : Bool) (l m : List (Numbered X)) → cond b (x ∷ l) l ≡ cond b (x ∷ m) m → l ≡ m
  both x true l m e = tail-eq_of_cons-eq e
  both x false l m e = e

  at_own : (x : Numbered X) (xs : List (Numbered X)) → at place (place x.act) (x ∷ xs) ≡ x ∷ at place (place x.act) xs
  at_own x xs = ap (λ (b : Bool). cond b (x ∷ at place (place x.act) xs) (at place (place x.act) xs)) (eq-eqb (place x.act) (place x.act) refl)

  pub same_count : (xs ys : List (Numbered X)) → ((p : ℕ) → at place p xs ≡ at place p ys) → count f (acts xs) ≡ count f (acts ys)
  same_count [] [] e = refl
  same_count [] (y ∷ ys) e = absurd (nil≢cons (e (place y.act) ∙ at_own y ys))
  same_count (x ∷ xs) ys e =
      let w = taken_out x (at place (place x.act) xs) ys (sym (e (place x.act)) ∙ at_own x xs) in
      let rec = same_count xs w.rest (λ p. both x (eqb (place x.act) p) (at place p xs) (at place p w.rest) (e p ∙ w.same p)) in
      omega (arith, rec, w.counted)
