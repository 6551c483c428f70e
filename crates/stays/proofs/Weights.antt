-- A number of each stay, added up over the ended and the running ones, and what one event changes of the sum: one that starts a stay adds the number
-- of the new one; any other puts that of the longer stay in place of that of the stay so far, whether it goes on with it or ends it. The places of
-- the running stays are distinct, so that one stay alone is longer.
use mathlib.Core.Path.{◌≡◌, refl, ap, ◌∙◌}
use mathlib.Core.Logic.{inl, inr}
use mathlib.Core.List.{List, [], ◌∷◌, ◌++◌, map}
use Prim.Native.Nat.{ℕ, ◌+◌}
use native.Mathlib.Decide.{ℕ_discrete}
use native.Mathlib.Omega.{arith}
use Rattle.stays.specs.Stays.{In, places_of, starts, goes_on, ends, Stay, Stays, whether, longer, others, events_at, add}
use Rattle.stays.proofs.Lists.{whether_no}
use Rattle.stays.proofs.Places.{Distinct, none_longer}

module _ {X : Type 0} (g : List X → ℕ) where
  abbrev pub ended_weight : List (List X) → ℕ
  ended_weight [] = 0
  ended_weight (xs ∷ xss) = g xs + ended_weight xss

  abbrev pub running_weight : List (Stay X) → ℕ
  running_weight [] = 0
  running_weight (s ∷ ss) = g s.events + running_weight ss

  abbrev pub weight : Stays X → ℕ
  weight s = ended_weight s.ended + running_weight s.running

  pub ended_snoc : (xss : List (List X)) (xs : List X) → ended_weight (xss ++ (xs ∷ [])) ≡ ended_weight xss + g xs
  ended_snoc [] xs = omega arith
  ended_snoc (ys ∷ xss) xs = omega (arith, ended_snoc xss xs)

  running_snoc : (ss : List (Stay X)) (s : Stay X) → running_weight (ss ++ (s ∷ [])) ≡ running_weight ss + g s.events
  running_snoc [] s = omega arith
  running_snoc (r ∷ ss) s = omega (arith, running_snoc ss s)

  longer_not : (p : ℕ) (x : X) (ss : List (Stay X)) → ¬ In p (places_of ss) → running_weight (map (longer p x) ss) ≡ running_weight ss
  longer_not p x ss n = ap running_weight (none_longer p x ss n)

  longer_in : (p : ℕ) (x : X) (ss : List (Stay X)) → Distinct (places_of ss) → In p (places_of ss)
      → running_weight (map (longer p x) ss) + g (events_at p ss) ≡ running_weight ss + g (events_at p ss ++ (x ∷ []))
  longer_in p x [] d b = absurd b
  longer_in p x (s ∷ ss) d i = by (ℕ_discrete p s.at) i (longer_in p x ss d.1)
    where
      by : (c : Dec (p ≡ s.at)) → In p (places_of (s ∷ ss))
          → (In p (places_of ss) → running_weight (map (longer p x) ss) + g (events_at p ss) ≡ running_weight ss + g (events_at p ss ++ (x ∷ [])))
          → g (whether c (record { at = s.at; events = s.events ++ (x ∷ []) }) s).events + running_weight (map (longer p x) ss) + g (whether c s.events (events_at p ss))
          ≡ g s.events + running_weight ss + g (whether c s.events (events_at p ss) ++ (x ∷ []))
      by (yes e) h rec = omega (arith, longer_not p x ss (rw e d.0))
      by (no k) (inl e) rec = absurd (k e)
      by (no k) (inr h) rec = omega (arith, rec h)

  others_not : (p : ℕ) (ss : List (Stay X)) → ¬ In p (places_of ss) → running_weight (others p ss) ≡ running_weight ss
  others_not p [] n = refl
  others_not p (s ∷ ss) n =
      ap running_weight (whether_no (ℕ_discrete p s.at) (others p ss) (s ∷ others p ss) (λ e. n (inl e)))
      ∙ ap (λ k. g s.events + k) (others_not p ss (λ i. n (inr i)))

  others_in : (p : ℕ) (ss : List (Stay X)) → Distinct (places_of ss) → In p (places_of ss) → running_weight (others p ss) + g (events_at p ss) ≡ running_weight ss
  others_in p [] d b = absurd b
  others_in p (s ∷ ss) d i = by (ℕ_discrete p s.at) i (others_in p ss d.1)
    where
      by : (c : Dec (p ≡ s.at)) → In p (places_of (s ∷ ss)) → (In p (places_of ss) → running_weight (others p ss) + g (events_at p ss) ≡ running_weight ss)
          → running_weight (whether c (others p ss) (s ∷ others p ss)) + g (whether c s.events (events_at p ss)) ≡ g s.events + running_weight ss
      by (yes e) h rec = omega (arith, others_not p ss (rw e d.0))
      by (no k) (inl e) rec = absurd (k e)
      by (no k) (inr h) rec = omega (arith, rec h)

  module _ (p : ℕ) (x : X) (s : Stays X) where
    pub weight_starts : weight (add starts p x s) ≡ weight s + g (x ∷ [])
    weight_starts = omega (arith, running_snoc s.running (record { at = p; events = x ∷ [] }))

    module _ (d : Distinct (places_of s.running)) (i : In p (places_of s.running)) where
      pub weight_goes_on : weight (add goes_on p x s) + g (events_at p s.running) ≡ weight s + g (events_at p s.running ++ (x ∷ []))
      weight_goes_on = omega (arith, longer_in p x s.running d i)

      pub weight_ends : weight (add ends p x s) + g (events_at p s.running) ≡ weight s + g (events_at p s.running ++ (x ∷ []))
      weight_ends = omega (arith, ended_snoc s.ended (events_at p s.running ++ (x ∷ [])), others_in p s.running d i)
