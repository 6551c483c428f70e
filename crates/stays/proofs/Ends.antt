-- The ended stays of the fold come in the order of their ends: the numbers of their last events rise, since a stay that ends comes last.
use mathlib.Core.Path.{◌≡◌, refl, sym, ap, subst, ◌∙◌}
use mathlib.Core.List.{List, [], ◌∷◌, ◌++◌, map}
use Prim.Native.Nat.{ℕ, suc, ◌<◌}
use Rattle.stays.specs.Stays.{Mark, starts, goes_on, ends, Stays, Every, events_at, add}
use Rattle.stays.specs.Arranged.{Numbered, Rising, last_after, last_number}
use Rattle.stays.proofs.Lists.{map_snoc}
use Rattle.stays.proofs.Rising.{below_more, rising_snoc, below_snoc}

module _ {X : Type 0} where
  last_snoc : (n : ℕ) (ys : List (Numbered X)) (y : Numbered X) → last_after n (ys ++ (y ∷ [])) ≡ y.number
  last_snoc n [] y = refl
  last_snoc n (z ∷ ys) y = last_snoc z.number ys y

  -- stays in the order of their ends, the last of which has a number below n
  pub record Over (n : ℕ) (ss : List (List (Numbered X))) : Type 0 where
    pub rise : Rising (map last_number ss)
    below : Every (λ k. k < n) (map last_number ss)

  pub over_none : (n : ℕ) → Over n []
  over_none n = record { rise = tt; below = tt }

  module _ (n q : ℕ) (y : Numbered X) (next : y.number ≡ n) (s : Stays (Numbered X)) (o : Over n s.ended) where
    pub over_added : (k : Mark) → Over (suc n) (add k q y s).ended
    over_added starts = record { rise = o.rise; below = below_more n (map last_number s.ended) o.below }
    over_added goes_on = record { rise = o.rise; below = below_more n (map last_number s.ended) o.below }
    over_added ends =
        let over : List (Numbered X) = events_at q s.running ++ (y ∷ []) in
        let last : map last_number (s.ended ++ (over ∷ [])) ≡ map last_number s.ended ++ (n ∷ []) =
        map_snoc last_number s.ended over ∙ ap (λ k. map last_number s.ended ++ (k ∷ [])) (last_snoc 0 (events_at q s.running) y ∙ next) in
        record {
          rise = subst Rising (sym last) (rising_snoc n (map last_number s.ended) o.rise o.below);
          below = subst (Every (λ k. k < suc n)) (sym last) (below_snoc n (map last_number s.ended) o.below);
        }
