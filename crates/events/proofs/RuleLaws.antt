-- A kind by its rule: 1 and 2 start a stay, each of 3 to 10 is a signal, and any other number is unknown. What is said of all kinds goes by these cases.
use Rattle.std.proofs.Common.{◌≡◌, ℕ, ◌≤◌, Bool, true, false, cond, eqb, refl, arith, eqb-true}
use borrow.Author.Tests.{eqb-false}
use Rattle.table.specs.declared.Side.TheVariants.{Position, Line}
use Rattle.std.specs.Prelude.{Option, Some, None}
use Rattle.events.specs.declared.rule.Rule.{Rule}
use Rattle.events.specs.declared.rule.Rule.TheVariants.{Start, On}
use Rattle.events.specs.declared.rule.Signal.{Signal}
use Rattle.events.specs.declared.rule.Signal.TheVariants.{LocalPickup, PickRequest, PickupResult, PickupError, ErrorInRelease, Release, Answered, Expiry}
use Rattle.events.specs.Rule.{rule_of}

module _ (P : ℕ → Option Rule → Type 0) where
  -- a kind that is n, or is not
  test : (kind n : ℕ) (k rest : Option Rule) → (kind ≡ n → P kind k) → ((kind ≡ n → ⊥) → P kind rest) → P kind (cond (eqb kind n) k rest)
  test kind n k rest same other = by (eqb kind n) refl
    where
      by : (b : Bool) → eqb kind n ≡ b → P kind (cond b k rest)
      by true q = same (eqb-true kind n q)
      by false q = other (eqb-false kind n q)

  pub by_kind : P 1 (Some (Start Position)) → P 2 (Some (Start Line)) → ((kind : ℕ) (s : Signal) → 3 ≤ kind → P kind (Some (On s)))
      → ((kind : ℕ) → (kind ≡ 1 → ⊥) → (kind ≡ 2 → ⊥) → P kind None) → (kind : ℕ) → P kind (rule_of kind)
  by_kind park alert signal other kind =
      test kind 1 _ _ (λ e. rw e park) (λ one.
      test kind 2 _ _ (λ e. rw e alert) (λ two.
      on 3 LocalPickup _ (omega arith)
      (on 4 PickRequest _ (omega arith)
      (on 5 PickupResult _ (omega arith)
      (on 6 PickupError _ (omega arith)
      (on 7 ErrorInRelease _ (omega arith)
      (on 8 Release _ (omega arith)
      (on 9 Answered _ (omega arith)
      (on 10 Expiry _ (omega arith)
      (other kind one two))))))))))
    where
      on : (n : ℕ) (s : Signal) (rest : Option Rule) → 3 ≤ n → P kind rest → P kind (cond (eqb kind n) (Some (On s)) rest)
      on n s rest h r = test kind n (Some (On s)) rest (λ e. signal kind s (omega arith)) (λ e. r)
