-- What comes of reading any line that reads: each value is at most the greatest of its field, and the call is 16 octets.
use mathlib.Core.Path.{◌≡◌, refl, ap, ◌∙◌}
use mathlib.Core.Bool.{Bool, true, false, cond}
use mathlib.Core.List.{List, [], ◌∷◌, ◌++◌}
use Prim.Native.Nat.{ℕ, zero, suc, ◌+◌, ◌*◌, ◌≤◌, ◌<◌}
use native.Mathlib.Omega.{arith}
use lib.Dec.{eqb, ltb}
use lib.ListN.{length, get_or, set, length-append}
use borrow.Author.Tests.{eqb-true, ltb-false}
use Rattle.std.specs.Prelude.{IfSome, IfOk, None}
use Rattle.fields.specs.declared.Kind.{Kind}
use Rattle.fields.specs.declared.Kind.TheVariants.{Call, Number}
use Rattle.fields.specs.Parts.{before}
use Rattle.laws.proofs.Runs.{zeros_get}
use Rattle.table.specs.Places.{call_octets, no_call}
use Rattle.fields.specs.Calls.{nibble_of, call_from, call_of}
use Rattle.fields.specs.Line.{most_fields, greatest, no_values, walk, read_fields}
use Rattle.fields.specs.Round.{CallInRange, Ranged}
use Rattle.fields.proofs.NumberLaws.{number_most}
use Rattle.fields.proofs.Walk.{by_fields, by_tests}

pub no_call_lem : CallInRange no_call
no_call_lem = record { long = refl; octets = λ i. omega (arith, zeros_get call_octets i) }

below_more : (l : List ℕ) (x : ℕ) → ((i : ℕ) → get_or l i 0 < 256) → x < 256 → (i : ℕ) → get_or (l ++ (x ∷ [])) i 0 < 256
below_more [] x h b zero = b
below_more [] x h b (suc i) = omega arith
below_more (y ∷ l) x h b zero = h 0
below_more (y ∷ l) x h b (suc i) = below_more l x (λ j. h (suc j)) b i

-- two digits for each octet that is missing
from_digits : (acc s : List ℕ) (n : ℕ) → length s ≡ n * 2 → length acc + n ≡ call_octets → ((i : ℕ) → get_or acc i 0 < 256)
    → IfSome (call_from acc s) CallInRange
from_digits acc [] n h e o = record { long = omega arith; octets = o }
from_digits acc (x ∷ []) n h e o = tt
from_digits acc (x ∷ y ∷ s) zero h e o = absurd (omega arith)
from_digits acc (x ∷ y ∷ s) (suc n) h e o =
    let octet = nibble_of x * 16 + nibble_of y in
    let long = length-append acc (octet ∷ []) in
    by (ltb 15 (nibble_of x)) (ltb 15 (nibble_of y)) refl refl (λ b. from_digits (acc ++ (octet ∷ [])) s n (omega arith) (omega (arith, long)) (below_more acc octet o b))
  where
    by : (a b : Bool) → ltb 15 (nibble_of x) ≡ a → ltb 15 (nibble_of y) ≡ b
        → (nibble_of x * 16 + nibble_of y < 256 → IfSome (call_from (acc ++ ((nibble_of x * 16 + nibble_of y) ∷ [])) s) CallInRange)
        → IfSome (cond a None (cond b None (call_from (acc ++ ((nibble_of x * 16 + nibble_of y) ∷ [])) s))) CallInRange
    by true b p q rest = tt
    by false true p q rest = tt
    by false false p q rest = rest (omega (arith, ltb-false 15 (nibble_of x) p, ltb-false 15 (nibble_of y) q))

call_in_range : (s : List ℕ) → IfSome (call_of s) CallInRange
call_in_range s = by (eqb (length s) 32) refl
  where
    by : (b : Bool) → eqb (length s) 32 ≡ b → IfSome (cond b (call_from [] s) None) CallInRange
    by true q = from_digits [] s 16 (eqb-true (length s) 32 q) refl (λ i. omega arith)
    by false q = tt

none : (j b : ℕ) → get_or no_values j 0 ≤ b
none j b = omega (arith, zeros_get most_fields j)

-- zeros are within any ranges
pub no_fields : (kinds : List Kind) → Ranged kinds (record { values = no_values; call = no_call })
no_fields kinds = record { value = λ j. none j (greatest (get_or kinds j Call)); call = no_call_lem }

set_within : (l : List ℕ) (i v j b : ℕ) → (j ≡ i → v ≤ b) → get_or l j 0 ≤ b → get_or (set l i v) j 0 ≤ b
set_within [] i v j b f h = h
set_within (x ∷ l) zero v zero b f h = f refl
set_within (x ∷ l) zero v (suc j) b f h = h
set_within (x ∷ l) (suc i) v zero b f h = h
set_within (x ∷ l) (suc i) v (suc j) b f h = set_within l i v j b (λ q. f (ap suc q)) h

module _ (whole : List Kind) where
  -- the fields from index i on are those of the whole description
  abbrev Later : List Kind → ℕ → Type 0
  Later kinds i = (j : ℕ) → get_or kinds j Call ≡ get_or whole (i + j) Call

  later : (k : Kind) (kinds : List Kind) (i : ℕ) → Later (k ∷ kinds) i → Later kinds (suc i)
  later k kinds i r j = rw e (r (suc j))
    where
      e : suc i + j ≡ i + suc j
      e = omega arith

  abbrev Bounded : List ℕ → Type 0
  Bounded acc = (j : ℕ) → get_or acc j 0 ≤ greatest (get_or whole j Call)

  walk_ranged : (kinds : List Kind) (i : ℕ) (s acc c : List ℕ) → Later kinds i → Bounded acc → CallInRange c → IfOk (walk kinds i s acc c) (Ranged whole)
  walk_ranged =
      by_fields (λ kinds i s acc c r. Later kinds i → Bounded acc → CallInRange c → IfOk r (Ranged whole))
      (λ i s acc c at h l. record { value = h; call = l })
      (λ k kinds i s acc c b at h l. tt)
      (λ kinds i s acc c d r q rest at h l. rest (later Call kinds i at) h (rw q at (call_in_range (before s))))
      (λ most kinds i s acc c v r q rest at h l.
      let here : most ≡ greatest (get_or whole i Call) = ap greatest (at 0) ∙ ap (λ (n : ℕ). greatest (get_or whole n Call)) (omega arith) in
      let most_v = number_most (before s) most v q in
      rest (later (Number most) kinds i at) (λ j. set_within acc i v j (greatest (get_or whole j Call)) (λ e. rw e (omega (arith, here, most_v))) (h j)) l)

pub read_ranged : (longest : ℕ) (kinds : List Kind) (s : List ℕ) → IfOk (read_fields longest kinds s) (Ranged kinds)
read_ranged longest kinds s =
    by_tests (λ r. IfOk r (Ranged kinds)) longest kinds s (λ long. tt) (λ short other. tt)
    (λ size. walk_ranged kinds kinds 0 s no_values no_call (λ j. ap (λ (n : ℕ). get_or kinds n Call) (omega arith)) (λ j. none j (greatest (get_or kinds j Call))) no_call_lem)
