-- The running stays of the fold come in the order of their starts: the numbers of their first events rise. A new one comes last, a longer one has
-- the first event that it had, and the others stay in their order when one is taken out.
use mathlib.Core.Path.{◌≡◌, refl, sym, ap, ap₂, subst, ◌∙◌}
use mathlib.Core.List.{List, [], ◌∷◌, ◌++◌, map}
use Prim.Native.Nat.{ℕ, suc, ◌<◌}
use native.Mathlib.Decide.{ℕ_discrete}
use Rattle.stays.specs.Stays.{Mark, starts, goes_on, ends, Stay, Stays, Every, longer, others, add, each}
use Rattle.stays.specs.Arranged.{Numbered, Rising, first_number}
use Rattle.stays.proofs.Lists.{every_append, map_snoc}
use Rattle.stays.proofs.Rising.{below_more, rising_snoc, below_snoc}
use Rattle.stays.proofs.Places.{longer_here, longer_there, others_here, others_there}

module _ {X : Type 0} where
  -- there is a first event
  abbrev Begun : List (Numbered X) → Type 0
  Begun [] = ⊥
  Begun (y ∷ ys) = Unit {0}

  begun_snoc : (ys : List (Numbered X)) (y : Numbered X) → Begun (ys ++ (y ∷ []))
  begun_snoc [] y = tt
  begun_snoc (z ∷ ys) y = tt

  first_snoc : (ys : List (Numbered X)) (y : Numbered X) → Begun ys → first_number (ys ++ (y ∷ [])) ≡ first_number ys
  first_snoc [] y b = absurd b
  first_snoc (z ∷ ys) y b = refl

  abbrev pub firsts : List (Stay (Numbered X)) → List ℕ
  firsts ss = map first_number (each ss)

  -- stays that have begun, in the order of their starts, the last of which has a number below n
  pub record Started (n : ℕ) (ss : List (Stay (Numbered X))) : Type 0 where
    pub rise : Rising (firsts ss)
    below : Every (λ k. k < n) (firsts ss)
    begun : Every (λ r. Begun r.events) ss

  firsts_snoc : (ss : List (Stay (Numbered X))) (r : Stay (Numbered X)) → firsts (ss ++ (r ∷ [])) ≡ firsts ss ++ (first_number r.events ∷ [])
  firsts_snoc ss r = ap (map first_number) (map_snoc (λ (s : Stay (Numbered X)). s.events) ss r) ∙ map_snoc first_number (each ss) r.events

  -- ---- one stay is longer

  module _ (q : ℕ) (y : Numbered X) where
    firsts_longer : (ss : List (Stay (Numbered X))) → Every (λ r. Begun r.events) ss → firsts (map (longer q y) ss) ≡ firsts ss
    firsts_longer [] h = refl
    firsts_longer (s ∷ ss) h = ap₂ (λ (k : ℕ) (ks : List ℕ). k ∷ ks) (by (ℕ_discrete q s.at)) (firsts_longer ss h.1)
      where
        by : Dec (q ≡ s.at) → first_number (longer q y s).events ≡ first_number s.events
        by (yes e) = ap (λ (r : Stay (Numbered X)). first_number r.events) (longer_here q y s e) ∙ first_snoc s.events y h.0
        by (no n) = ap (λ (r : Stay (Numbered X)). first_number r.events) (longer_there q y s n)

    begun_longer : (ss : List (Stay (Numbered X))) → Every (λ r. Begun r.events) ss → Every (λ r. Begun r.events) (map (longer q y) ss)
    begun_longer [] h = tt
    begun_longer (s ∷ ss) h = (by (ℕ_discrete q s.at), begun_longer ss h.1)
      where
        by : Dec (q ≡ s.at) → Begun (longer q y s).events
        by (yes e) = subst (λ (r : Stay (Numbered X)). Begun r.events) (sym (longer_here q y s e)) (begun_snoc s.events y)
        by (no n) = subst (λ (r : Stay (Numbered X)). Begun r.events) (sym (longer_there q y s n)) h.0

  -- ---- one stay is taken out

  pub every_others : (P : Stay (Numbered X) → Type 0) (q : ℕ) (ss : List (Stay (Numbered X))) → Every P ss → Every P (others q ss)
  every_others P q [] h = tt
  every_others P q (s ∷ ss) h = by (ℕ_discrete q s.at) (every_others P q ss h.1)
    where
      by : Dec (q ≡ s.at) → Every P (others q ss) → Every P (others q (s ∷ ss))
      by (yes e) rec = subst (Every P) (sym (others_here q s ss e)) rec
      by (no n) rec = subst (Every P) (sym (others_there q s ss n)) (h.0, rec)

  firsts_others : (P : ℕ → Type 0) (q : ℕ) (ss : List (Stay (Numbered X))) → Every P (firsts ss) → Every P (firsts (others q ss))
  firsts_others P q [] h = tt
  firsts_others P q (s ∷ ss) h = by (ℕ_discrete q s.at) (firsts_others P q ss h.1)
    where
      by : Dec (q ≡ s.at) → Every P (firsts (others q ss)) → Every P (firsts (others q (s ∷ ss)))
      by (yes e) rec = subst (λ rs. Every P (firsts rs)) (sym (others_here q s ss e)) rec
      by (no n) rec = subst (λ rs. Every P (firsts rs)) (sym (others_there q s ss n)) (h.0, rec)

  rising_others : (q : ℕ) (ss : List (Stay (Numbered X))) → Rising (firsts ss) → Rising (firsts (others q ss))
  rising_others q [] h = tt
  rising_others q (s ∷ ss) h = by (ℕ_discrete q s.at) (rising_others q ss h.1)
    where
      by : Dec (q ≡ s.at) → Rising (firsts (others q ss)) → Rising (firsts (others q (s ∷ ss)))
      by (yes e) rec = subst (λ rs. Rising (firsts rs)) (sym (others_here q s ss e)) rec
      by (no n) rec = subst (λ rs. Rising (firsts rs)) (sym (others_there q s ss n)) (firsts_others _ q ss h.0, rec)

  -- ---- one event more

  pub started_none : (n : ℕ) → Started n []
  started_none n = record { rise = tt; below = tt; begun = tt }

  module _ (n q : ℕ) (y : Numbered X) (next : y.number ≡ n) (s : Stays (Numbered X)) (o : Started n s.running) where
    pub started_added : (k : Mark) → Started (suc n) (add k q y s).running
    started_added starts =
        let new : Stay (Numbered X) = record { at = q; events = y ∷ [] } in
        let last : firsts (s.running ++ (new ∷ [])) ≡ firsts s.running ++ (n ∷ []) = firsts_snoc s.running new ∙ ap (λ k. firsts s.running ++ (k ∷ [])) next in
        record {
          rise = subst Rising (sym last) (rising_snoc n (firsts s.running) o.rise o.below);
          below = subst (Every (λ k. k < suc n)) (sym last) (below_snoc n (firsts s.running) o.below);
          begun = every_append _ s.running (new ∷ []) o.begun (tt, tt);
        }
    started_added goes_on =
        let same : firsts (map (longer q y) s.running) ≡ firsts s.running = firsts_longer q y s.running o.begun in
        record {
          rise = subst Rising (sym same) o.rise;
          below = subst (Every (λ k. k < suc n)) (sym same) (below_more n (firsts s.running) o.below);
          begun = begun_longer q y s.running o.begun;
        }
    started_added ends = record {
      rise = rising_others q s.running o.rise;
      below = firsts_others _ q s.running (below_more n (firsts s.running) o.below);
      begun = every_others _ q s.running o.begun;
    }
