-- A line feed is no digit: a field that has one is neither a number nor the call. In a line it stands in a field, since it is no tab.
use mathlib.Core.Path.{◌≡◌, refl, ap, ◌∙◌}
use mathlib.Core.Bool.{Bool, true, false, cond}
use mathlib.Core.List.{List, [], ◌∷◌, ◌++◌}
use Prim.Native.Nat.{ℕ, zero, suc, ◌+◌, ◌-◌, ◌*◌, ◌≤◌}
use native.Mathlib.Omega.{arith}
use lib.Dec.{eqb, ltb, leb}
use lib.ListN.{length, get_or}
use Rattle.std.specs.Prelude.{is_some, Option, None}
use Rattle.fields.specs.declared.Kind.TheVariants.{Call}
use Rattle.fields.specs.Parts.{before, field, tabs}
use Rattle.fields.specs.Numbers.{digits_from, number_of}
use Rattle.fields.specs.Calls.{nibble_of, call_from, call_of}
use Rattle.fields.specs.Line.{greatest}
use Rattle.lines.specs.EventLine.{event_fields}
use Rattle.order.specs.Entry.{FeedIsBad}

-- nothing is read, whichever way a test goes
neither : {A : Type 0} (b : Bool) {x y : Option A} → x ≡ None → y ≡ None → cond b x y ≡ None
neither true p q = p
neither false p q = q

-- ---- in a number

digits_feed : (most v : ℕ) (a b : List ℕ) → digits_from most v (a ++ (10 ∷ b)) ≡ None
digits_feed most v [] b = refl
digits_feed most v (x ∷ a) b =
    neither (ltb x 48) refl (neither (ltb 57 x) refl (neither (leb (v * 10 + (x - 48)) most) (digits_feed most (v * 10 + (x - 48)) a b) refl))

number_feed : (most : ℕ) (a b : List ℕ) → number_of (a ++ (10 ∷ b)) most ≡ None
number_feed most [] [] = refl
number_feed most [] (y ∷ b) = refl
number_feed most (x ∷ []) b = neither (eqb x 48) refl (digits_feed most 0 (x ∷ []) b)
number_feed most (x ∷ y ∷ a) b = neither (eqb x 48) refl (digits_feed most 0 (x ∷ y ∷ a) b)

-- ---- in the call

call_feed : (acc a b : List ℕ) → call_from acc (a ++ (10 ∷ b)) ≡ None
call_feed acc [] [] = refl
call_feed acc [] (y ∷ b) = refl
call_feed acc (x ∷ []) b = neither (ltb 15 (nibble_of x)) refl refl
call_feed acc (x ∷ y ∷ a) b =
    neither (ltb 15 (nibble_of x)) refl (neither (ltb 15 (nibble_of y)) refl (call_feed (acc ++ ((nibble_of x * 16 + nibble_of y) ∷ [])) a b))

-- ---- in a field

pub feed_is_bad : FeedIsBad
feed_is_bad line i a b e = by (eqb i 2)
  where
    call : call_of (field i line) ≡ None
    call = ap call_of e ∙ neither (eqb (length (a ++ (10 ∷ b))) 32) (call_feed [] a b) refl

    number : (most : ℕ) → number_of (field i line) most ≡ None
    number most = ap (λ (f : List ℕ). number_of f most) e ∙ number_feed most a b

    by : (c : Bool) → cond c (is_some (call_of (field i line))) (is_some (number_of (field i line) (greatest (get_or event_fields (i - 1) Call)))) ≡ false
    by true = ap is_some call
    by false = ap is_some (number (greatest (get_or event_fields (i - 1) Call)))

-- a feed of a line stands in one of its fields
pub record Stands (line : List ℕ) : Type 0 where
  pub index : ℕ
  pub within : index ≤ tabs line
  pub left : List ℕ
  pub right : List ℕ
  pub there : field (suc index) line ≡ left ++ (10 ∷ right)

pub feed_stands : (a b : List ℕ) → Stands (a ++ (10 ∷ b))
feed_stands [] b = record { index = 0; within = omega arith; left = []; right = before b; there = refl }
feed_stands (x ∷ a) b = by (eqb x 9) refl (feed_stands a b)
  where
    rest : List ℕ
    rest = a ++ (10 ∷ b)

    on : (i : ℕ) (c d : List ℕ) → eqb x 9 ≡ false → i ≤ tabs rest → field (suc i) rest ≡ c ++ (10 ∷ d) → Stands (x ∷ rest)
    on zero c d q h e = record { index = 0; within = omega arith; left = x ∷ c; right = d; there = rw q (ap (λ (l : List ℕ). x ∷ l) e) }
    on (suc i) c d q h e = record { index = suc i; within = rw q h; left = c; right = d; there = rw q e }

    by : (t : Bool) → eqb x 9 ≡ t → Stands rest → Stands (x ∷ rest)
    by true q s = record { index = suc s.index; within = rw q (omega (arith, s.within)); left = s.left; right = s.right; there = rw q s.there }
    by false q s = on s.index s.left s.right q s.within s.there
