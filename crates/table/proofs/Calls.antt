-- Two calls are the same by the test exactly where they are equal; what it is to hold a call.
use mathlib.Core.Path.{◌≡◌, refl, ap₂}
use mathlib.Core.Bool.{true, false, not}
use mathlib.Core.List.{List, [], ◌∷◌}
use Prim.Native.Nat.{ℕ}
use lib.Dec.{eqb}
use borrow.Author.Tests.{eqb-true, eq-eqb, not-true}
use Rattle.laws.proofs.Bools.{never, and_left, and_right}
use Rattle.table.specs.declared.Record.{Record}
use Rattle.table.specs.Places.{is_free}
use Rattle.table.specs.Search.{same_call, holds}

pub same_is : (a b : List ℕ) → same_call a b ≡ true → a ≡ b
same_is [] [] h = refl
same_is [] (y ∷ ys) h = never h
same_is (x ∷ xs) [] h = never h
same_is (x ∷ xs) (y ∷ ys) h =
    ap₂ (λ c cs. c ∷ cs) (eqb-true x y (and_left (eqb x y) (same_call xs ys) h)) (same_is xs ys (and_right (eqb x y) (same_call xs ys) h))

pub same_self : (a : List ℕ) → same_call a a ≡ true
same_self [] = refl
same_self (x ∷ xs) = rw (eq-eqb x x refl, same_self xs)

module _ (call : List ℕ) (r : Record) where
  pub holds_occupied : holds call r ≡ true → is_free r.state ≡ false
  holds_occupied h = not-true (is_free r.state) (and_left (not (is_free r.state)) (same_call r.call call) h)

  pub holds_same : holds call r ≡ true → r.call ≡ call
  holds_same h = same_is r.call call (and_right (not (is_free r.state)) (same_call r.call call) h)

  pub occupied_holds : is_free r.state ≡ false → r.call ≡ call → holds call r ≡ true
  occupied_holds f c = rw (f, c, same_self call)
