-- What an array's `map` gives, whose closure computes a function and changes nothing.
use Rattle.std.proofs.Common.{◌≡◌, ℕ, zero, suc, ◌+◌, ◌≤◌, ◌<◌, List, map, length, get_or, ext_get_or, sym, refl, ap, ◌∙◌, subst, arith}
use native.Mathlib.Decide.{ℕ_discrete}
use denote.Param.Members.{Mut, Called}
use lib.ListN.{length-map}
use lib.ListN.{get_or-map}
use Rattle.std.specs.Array.{MapsFrom, IsMapOf}

module _ {F A B : Type 0} (g : Mut F (A × Unit {0}) B) (h : A → B) (f : F) (same : (x : A) (y : B) (q : F) → Called g f (x, tt) y q → (y ≡ h x) × (q ≡ f)) (xs : List A) (ys : List B) (d : A) where
  each : (n i : ℕ) (p : F) → p ≡ f → MapsFrom g p xs ys i n → (j : ℕ) → i ≤ j → j < i + n → get_or ys j (h d) ≡ h (get_or xs j d)
  each zero i p e m j a b = absurd (omega (arith, a, b))
  each (suc n) i p e m j a b =
      let called : (m.2 ≡ h m.1) × (m.0 ≡ f) = same m.1 m.2 m.0 (subst (λ k. Called g k (m.1, tt) m.2 m.0) e m.5) in
      by (ℕ_discrete i j) called.0 (λ w. each n (i + 1) m.0 called.1 m.6 j (omega (arith, a, w)) (omega (arith, b)))
    where
      by : Dec (i ≡ j) → m.2 ≡ h m.1 → ((i ≡ j → ⊥) → get_or ys j (h d) ≡ h (get_or xs j d)) → get_or ys j (h d) ≡ h (get_or xs j d)
      by (yes w) is later = subst (λ k. get_or ys k (h d) ≡ h (get_or xs k d)) w (m.4.1 (h d) ∙ is ∙ ap h (sym (m.3.1 d)))
      by (no w) is later = later w

  pub map_same : (n : ℕ) → length xs ≡ n → IsMapOf g f xs ys n → ys ≡ map h xs
  map_same n many m =
      ext_get_or (h d) ys (map h xs) (m.long ∙ sym (length-map xs h ∙ many))
      (λ j lt. each n 0 f refl m.each j (omega arith) (omega (arith, lt, m.long)) ∙ sym (get_or-map h xs j d))
