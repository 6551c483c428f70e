-- An array that is made by calls of a closure at each index, where no call changes the closure.
use Rattle.std.proofs.Common.{◌≡◌, ℕ, zero, suc, ◌+◌, ◌<◌, ◌≤◌, List, get_or, ◌∙◌, ⊎_elim, subst, arith}
use Rattle.std.specs.Array.{IsFromFnResultFrom}
use Rattle.std.specs.Fn.{Called}
use denote.Param.Members.{Mut}
use Rattle.laws.proofs.Bools.{equal_or}

module _ {F B : Type 0} (g : Mut F (ℕ × Unit {0}) B) (f : F) (h : ℕ → B) (ys : List B) (d : B) (m : ℕ)
    (law : (k : ℕ) → k < m → (y : B) (q : F) → Called g f (k, tt) y q → (q ≡ f) × (y ≡ h k)) where
  pub made_from : (n i : ℕ) → i + n ≡ m → (p : F) → p ≡ f → IsFromFnResultFrom g p ys i n → (k : ℕ) → i ≤ k → k < m → get_or ys k d ≡ h k
  made_from zero i e p s r k low high = absurd (omega arith)
  made_from (suc n) i e p s r k low high =
      let l = law i (omega arith) r.1 r.0 (subst (λ (x : F). Called g x (i, tt) r.1 r.0) s r.3) in
      ⊎_elim
      (λ same. rw same (r.2.1 d ∙ l.1))
      (λ other. made_from n (i + 1) (omega arith) r.0 l.0 r.4 k (omega (arith, other)) high)
      (equal_or k i)
