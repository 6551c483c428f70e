-- In no stay are two pickup results accepted: before the first one none is counted; a result that does not end the stay spends its
-- record, and from there on no result is accepted.
use mathlib.Core.Path.{◌≡◌, refl}
use mathlib.Core.Logic.{◌⊎◌, inl, inr}
use mathlib.Core.Bool.{Bool, true, false}
use mathlib.Core.List.{List}
use Prim.Native.Nat.{ℕ, ◌≤◌, ◌+◌}
use native.Mathlib.Omega.{arith}
use Rattle.stays.specs.Stays.{Done, Machine, one_if, count, OneResult}
use Rattle.stays.proofs.Laws.{Laws}
use Rattle.stays.proofs.Part.{Part, begun, onward, Whole, whole}
use Rattle.stays.proofs.Every.{every_stay}
use Rattle.stays.proofs.Lists.{count_snoc}

module _ (m : Machine) (l : Laws m) where
  open m use {Event, Answer, result}
  open l use {Core, Call, Spent, at_start, spends, stays_spent, ends_spent}

  part_once : {p : ℕ} {c : Call} {xs : List (Done Event Answer)} {r : Core} → Part m l p c xs r → (count result xs ≡ 0) ⊎ ((count result xs ≡ 1) × Spent r)
  part_once (begun {x} turn k q) = inl (rw (at_start turn k).2)
  part_once {p} {c} (onward {xs} {x} {r} {s} h turn k q) = rw (count_snoc result xs x) (by (part_once h) (result x) refl)
    where
      by : (count result xs ≡ 0) ⊎ ((count result xs ≡ 1) × Spent r) → (b : Bool) → result x ≡ b
          → (count result xs + one_if (result x) ≡ 0) ⊎ ((count result xs + one_if (result x) ≡ 1) × Spent s)
      by (inl e) true f = inr (rw (e, f), spends turn k f)
      by (inl e) false f = inl (rw (e, f))
      by (inr e) b f = inr (rw (e.0, (stays_spent turn k e.1).0), (stays_spent turn k e.1).1)

  once : {p : ℕ} {c : Call} {xs : List (Done Event Answer)} {r : Core} → Part m l p c xs r → count result xs ≤ 1
  once {p} {c} {xs} {r} h = by (part_once h)
    where
      by : (count result xs ≡ 0) ⊎ ((count result xs ≡ 1) × Spent r) → count result xs ≤ 1
      by (inl e) = omega arith
      by (inr e) = omega arith

  whole_once : {xs : List (Done Event Answer)} → Whole m l xs → count result xs ≤ 1
  whole_once (whole {p} {c} {xs} {x} {r} h turn k q) = rw (count_snoc result xs x) (by (part_once h) (result x) refl)
    where
      by : (count result xs ≡ 0) ⊎ ((count result xs ≡ 1) × Spent r) → (b : Bool) → result x ≡ b → count result xs + one_if (result x) ≤ 1
      by (inl e) true f = rw (e, f) (omega arith)
      by (inl e) false f = rw (e, f) (omega arith)
      by (inr e) b f = rw (e.0, ends_spent turn k e.1) (omega arith)

  -- of the fold, that no stay has two
  pub one_result : OneResult m
  one_result es = every_stay m l (λ xs. count result xs ≤ 1) (λ p c xs r h. once h) (λ xs h. whole_once h) es
