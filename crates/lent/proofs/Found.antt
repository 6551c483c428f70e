-- What a search over the indexes of some places finds, where no other place passes: the lowest that passes.
use Rattle.std.proofs.Common.{◌≡◌, ℕ, ◌<◌, ◌≤◌, Bool, true, false, Option, Some, None, MatchOption, length, refl, sym, ap, ◌∙◌, ⊎_elim, arith}
use Rattle.laws.proofs.Bools.{not_both, less_or}
use Rattle.table.specs.declared.Record.{Record}
use Rattle.table.specs.declared.Table.{Table}
use Rattle.table.specs.Places.{blank, record_at, place_count}
use Rattle.table.specs.Search.{lowest}
use Rattle.table.proofs.Searches.{first_passing, none_passes, none_found}

module _ (t : Table) (size : length t.places ≡ place_count) (p : ℕ → Record → Bool) (test : ℕ → Bool) (from to : ℕ) (most : to ≤ place_count)
    (same : (k : ℕ) → from ≤ k → k < to → p k (record_at t k) ≡ test k)
    (before : (k : ℕ) → k < from → p k (record_at t k) ≡ false)
    (after : (k : ℕ) → to ≤ k → k < place_count → p k (record_at t k) ≡ false) where
  -- an index at which nothing passes up to another
  fails : (n : ℕ) → n ≤ to → ((k : ℕ) → from ≤ k → k < n → test k ≡ false) → (k : ℕ) → k < n → p k (record_at t k) ≡ false
  fails n within h k less = ⊎_elim (λ low. before k low) (λ high. same k high (omega arith) ∙ h k high less) (less_or k from)

  pub found_lowest : (r : Option ℕ)
      → MatchOption r ((k : ℕ) → from ≤ k → k < to → test k ≡ false) (λ i. (from ≤ i) × (i < to) × (test i ≡ true) × ((k : ℕ) → from ≤ k → k < i → test k ≡ false))
      → r ≡ lowest p 0 t.places
  found_lowest None h =
      sym (none_found t size p (λ k inside. ⊎_elim (λ low. fails to (omega arith) h k low) (λ high. after k high inside) (less_or k to)))
  found_lowest (Some i) h = by (lowest p 0 t.places) refl
    where
      by : (x : Option ℕ) → lowest p 0 t.places ≡ x → Some i ≡ x
      by None e = absurd (not_both (same i h.0 h.1 ∙ h.2) (none_passes t size p e i (omega (arith, h.1))))
      by (Some j) e =
          let g = first_passing p blank t.places j e in
          let least : j ≤ i = ⊎_elim (λ less. absurd (not_both (same i h.0 h.1 ∙ h.2) (g.2 i less))) (λ le. le) (less_or i j) in
          let most_of : i ≤ j = ⊎_elim (λ less. absurd (not_both g.1 (fails i (omega (arith, h.1)) h.3 j less))) (λ le. le) (less_or j i) in
          let one : i ≡ j = omega arith in
          ap Some one
