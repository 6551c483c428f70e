-- Fields joined by tabs, and taken apart again. Each law goes by induction on the first field, with the test of its first octet in two cases.
use mathlib.Core.Path.{◌≡◌, refl, sym, ap}
use mathlib.Core.List.{List, [], ◌∷◌, ◌++◌}
use mathlib.Core.Bool.{Bool, true, false, cond}
use Prim.Native.Nat.{ℕ, suc, ◌+◌}
use native.Mathlib.Omega.{arith}
use lib.Dec.{eqb}
use borrow.Author.Tests.{eqb-true}
use Rattle.fields.specs.Parts.{before, after, tabs}

-- a field with no tab before a tab is the first field, and what is after the tab the rest
pub join_before : (f r : List ℕ) → tabs f ≡ 0 → before (f ++ 9 ∷ r) ≡ f
join_before [] r h = refl
join_before (x ∷ f) r h = go (eqb x 9) h (join_before f r)
  where
    go : (b : Bool) → cond b (suc (tabs f)) (tabs f) ≡ 0 → (tabs f ≡ 0 → before (f ++ 9 ∷ r) ≡ f)
        → cond b [] (x ∷ before (f ++ 9 ∷ r)) ≡ x ∷ f
    go true h ih = absurd (omega arith)
    go false h ih = ap (λ (l : List ℕ). x ∷ l) (ih h)

pub join_after : (f r : List ℕ) → tabs f ≡ 0 → after (f ++ 9 ∷ r) ≡ r
join_after [] r h = refl
join_after (x ∷ f) r h = go (eqb x 9) h (join_after f r)
  where
    go : (b : Bool) → cond b (suc (tabs f)) (tabs f) ≡ 0 → (tabs f ≡ 0 → after (f ++ 9 ∷ r) ≡ r)
        → cond b (f ++ 9 ∷ r) (after (f ++ 9 ∷ r)) ≡ r
    go true h ih = absurd (omega arith)
    go false h ih = ih h

pub tabs_append : (a b : List ℕ) → tabs (a ++ b) ≡ tabs a + tabs b
tabs_append [] b = omega arith
tabs_append (x ∷ a) b = go (eqb x 9) (tabs_append a b)
  where
    go : (t : Bool) → tabs (a ++ b) ≡ tabs a + tabs b
        → cond t (suc (tabs (a ++ b))) (tabs (a ++ b)) ≡ cond t (suc (tabs a)) (tabs a) + tabs b
    go true h = omega arith
    go false h = h

pub join_tabs : (f r : List ℕ) → tabs f ≡ 0 → tabs (f ++ 9 ∷ r) ≡ suc (tabs r)
join_tabs f r h = omega (arith, tabs_append f (9 ∷ r))

-- a line with no tab is one field
pub last_before : (f : List ℕ) → tabs f ≡ 0 → before f ≡ f
last_before [] h = refl
last_before (x ∷ f) h = go (eqb x 9) h (last_before f)
  where
    go : (b : Bool) → cond b (suc (tabs f)) (tabs f) ≡ 0 → (tabs f ≡ 0 → before f ≡ f) → cond b [] (x ∷ before f) ≡ x ∷ f
    go true h ih = absurd (omega arith)
    go false h ih = ap (λ (l : List ℕ). x ∷ l) (ih h)

pub last_after_lem : (f : List ℕ) → tabs f ≡ 0 → after f ≡ []
last_after_lem [] h = refl
last_after_lem (x ∷ f) h = go (eqb x 9) h (last_after_lem f)
  where
    go : (b : Bool) → cond b (suc (tabs f)) (tabs f) ≡ 0 → (tabs f ≡ 0 → after f ≡ []) → cond b f (after f) ≡ []
    go true h ih = absurd (omega arith)
    go false h ih = ih h

-- a line with a tab is its first field, the tab and the rest
pub cut_line : (s : List ℕ) (n : ℕ) → tabs s ≡ suc n → before s ++ 9 ∷ after s ≡ s
cut_line [] n h = absurd (omega arith)
cut_line (x ∷ s) n h = go (eqb x 9) refl h (cut_line s n)
  where
    go : (b : Bool) → eqb x 9 ≡ b → cond b (suc (tabs s)) (tabs s) ≡ suc n → (tabs s ≡ suc n → before s ++ 9 ∷ after s ≡ s)
        → cond b [] (x ∷ before s) ++ 9 ∷ cond b s (after s) ≡ x ∷ s
    go true e h ih = ap (λ (y : ℕ). y ∷ s) (sym (eqb-true x 9 e))
    go false e h ih = ap (λ (l : List ℕ). x ∷ l) (ih h)

pub cut_tabs : (s : List ℕ) (n : ℕ) → tabs s ≡ suc n → tabs (after s) ≡ n
cut_tabs [] n h = absurd (omega arith)
cut_tabs (x ∷ s) n h = go (eqb x 9) h (cut_tabs s n)
  where
    go : (b : Bool) → cond b (suc (tabs s)) (tabs s) ≡ suc n → (tabs s ≡ suc n → tabs (after s) ≡ n) → tabs (cond b s (after s)) ≡ n
    go true h ih = omega arith
    go false h ih = ih h
