-- Numbers that rise, and one more at their end.
use mathlib.Core.List.{List, [], ◌∷◌, ◌++◌}
use Prim.Native.Nat.{ℕ, suc, ◌<◌}
use native.Mathlib.Omega.{arith}
use Rattle.stays.specs.Stays.{Every}
use Rattle.stays.specs.Arranged.{Rising}
use Rattle.stays.proofs.Lists.{every_append, every_so}

pub below_more : (n : ℕ) (ks : List ℕ) → Every (λ k. k < n) ks → Every (λ k. k < suc n) ks
below_more n ks h = every_so _ _ (λ k l. omega (arith, l)) ks h

pub rising_snoc : (n : ℕ) (ks : List ℕ) → Rising ks → Every (λ k. k < n) ks → Rising (ks ++ (n ∷ []))
rising_snoc n [] r h = (tt, tt)
rising_snoc n (k ∷ ks) r h = (every_append _ ks (n ∷ []) r.0 (h.0, tt), rising_snoc n ks r.1 h.1)

pub below_snoc : (n : ℕ) (ks : List ℕ) → Every (λ k. k < n) ks → Every (λ k. k < suc n) (ks ++ (n ∷ []))
below_snoc n ks h = every_append _ ks (n ∷ []) (below_more n ks h) (omega arith, tt)
