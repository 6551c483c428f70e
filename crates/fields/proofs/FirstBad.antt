-- The walk names no field but the first bad one: by the four cases of a walk. A field that is good takes the walk on, and is then one more of the good
-- ones before what is named. `fault_right` adds the two tests before the walk; `one_fault` goes by cases.
use mathlib.Core.Path.{◌≡◌, refl, ap, ◌∙◌}
use mathlib.Core.Bool.{true, false}
use mathlib.Core.List.{List, ◌∷◌}
use mathlib.Core.Logic.{⊎_elim}
use Prim.Native.Nat.{ℕ, zero, suc, ◌+◌, ◌<◌}
use native.Mathlib.Omega.{arith}
use lib.ListN.{length}
use Rattle.std.specs.Prelude.{is_some, Option, Some, None}
use Rattle.std.specs.Result.{result_err}
use Rattle.laws.proofs.Bools.{not_both, less_or}
use Rattle.fields.specs.declared.Kind.{Kind}
use Rattle.fields.specs.declared.Kind.TheVariants.{Call, Number}
use Rattle.fields.specs.declared.Fault.{Fault}
use Rattle.fields.specs.declared.Fault.TheVariants.{TooLong, WrongCount, BadField}
use Rattle.fields.specs.Parts.{before, after}
use Rattle.table.specs.Places.{no_call}
use Rattle.fields.specs.Line.{no_values, walk}
use Rattle.fields.proofs.Walk.{by_fields, by_tests}
use Rattle.fields.specs.FirstBad.{suits, good_at, FirstBad, RightSize, Verdict, FaultRight, OneFault}

-- what the fault of a walk says of the rest of a line, whose first field has index i; it is one of two
abbrev From : ℕ → List Kind → List ℕ → Option Fault → Type 0
From i kinds s None = (j : ℕ) → j < length kinds → good_at kinds s j ≡ true
From i kinds s (Some TooLong) = ⊥
From i kinds s (Some WrongCount) = ⊥
From i kinds s (Some (BadField k)) = (n : ℕ) × (k ≡ i + n) × FirstBad kinds s n

module _ (k : Kind) (kinds : List Kind) (s : List ℕ) where
  -- a good field and good ones after it
  one_more : (n : ℕ) → suits k (before s) ≡ true → ((j : ℕ) → j < n → good_at kinds (after s) j ≡ true)
      → (j : ℕ) → j < suc n → good_at (k ∷ kinds) s j ≡ true
  one_more n good rest zero h = good
  one_more n good rest (suc j) h = rest j (omega arith)

  on : (i : ℕ) (f : Option Fault) → suits k (before s) ≡ true → From (suc i) kinds (after s) f → From i (k ∷ kinds) s f
  on i None good later = one_more (length kinds) good later
  on i (Some TooLong) good later = later
  on i (Some WrongCount) good later = later
  on i (Some (BadField k)) good (n, e, l) = (
    suc n,
    omega arith,
    record {
      index = suc l.index;
      counted = ap suc l.counted;
      within = omega (arith, l.within);
      bad = l.bad;
      before = one_more l.index good l.before;
    },
  )

  here : (i : ℕ) → suits k (before s) ≡ false → From i (k ∷ kinds) s (Some (BadField (suc i)))
  here i bad = (
    1,
    omega arith,
    record {
      index = 0;
      counted = refl;
      within = omega arith;
      bad = bad;
      before = λ j h. absurd (omega arith);
    },
  )

walk_says : (kinds : List Kind) (i : ℕ) (s acc c : List ℕ) → From i kinds s (result_err (walk kinds i s acc c))
walk_says =
    by_fields (λ kinds i s acc c r. From i kinds s (result_err r))
    (λ i s acc c j h. absurd (omega arith))
    (λ m kinds i s acc c bad. here m kinds s i bad)
    (λ kinds i s acc c d r q later. on Call kinds s i (result_err r) (ap is_some q) later)
    (λ m kinds i s acc c v r q later. on (Number m) kinds s i (result_err r) (ap is_some q) later)

whole : (longest : ℕ) (kinds : List Kind) (s : List ℕ) (f : Option Fault) → RightSize longest kinds s → From 0 kinds s f → Verdict longest kinds s f
whole longest kinds s None size h = (size, h)
whole longest kinds s (Some TooLong) size h = absurd h
whole longest kinds s (Some WrongCount) size h = absurd h
whole longest kinds s (Some (BadField k)) size (n, e, l) = (
  size,
  record {
    index = l.index;
    counted = e ∙ omega (arith, l.counted);
    within = l.within;
    bad = l.bad;
    before = l.before;
  },
)

pub fault_right : FaultRight
fault_right longest kinds s =
    by_tests (λ r. Verdict longest kinds s (result_err r)) longest kinds s
    (λ long. long)
    (λ short other. (short, other))
    (λ size. whole longest kinds s (result_err (walk kinds 0 s no_values no_call)) size (walk_says kinds 0 s no_values no_call))

-- of two fields that are both the first bad one, neither comes before the other
not_before : (kinds : List Kind) (s : List ℕ) (k l : ℕ) (x : FirstBad kinds s k) (y : FirstBad kinds s l) → x.index < y.index → ⊥
not_before kinds s k l x y h = not_both (y.before x.index h) x.bad

pub one_fault : OneFault
one_fault longest kinds s None None v w = refl
one_fault longest kinds s None (Some TooLong) v w = absurd (omega (arith, v.0.short))
one_fault longest kinds s None (Some WrongCount) v w = absurd (w.1 v.0)
one_fault longest kinds s None (Some (BadField k)) v w = absurd (not_both (v.1 w.1.index w.1.within) w.1.bad)
one_fault longest kinds s (Some TooLong) None v w = absurd (omega (arith, w.0.short))
one_fault longest kinds s (Some TooLong) (Some TooLong) v w = refl
one_fault longest kinds s (Some TooLong) (Some WrongCount) v w = absurd (omega (arith, w.0))
one_fault longest kinds s (Some TooLong) (Some (BadField k)) v w = absurd (omega (arith, w.0.short))
one_fault longest kinds s (Some WrongCount) None v w = absurd (v.1 w.0)
one_fault longest kinds s (Some WrongCount) (Some TooLong) v w = absurd (omega (arith, v.0))
one_fault longest kinds s (Some WrongCount) (Some WrongCount) v w = refl
one_fault longest kinds s (Some WrongCount) (Some (BadField k)) v w = absurd (v.1 w.0)
one_fault longest kinds s (Some (BadField k)) None v w = absurd (not_both (w.1 v.1.index v.1.within) v.1.bad)
one_fault longest kinds s (Some (BadField k)) (Some TooLong) v w = absurd (omega (arith, v.0.short))
one_fault longest kinds s (Some (BadField k)) (Some WrongCount) v w = absurd (w.1 v.0)
one_fault longest kinds s (Some (BadField k)) (Some (BadField l)) v w =
    let same : k ≡ l =
    ⊎_elim
    (λ h. absurd (not_before kinds s k l v.1 w.1 h))
    (λ h. ⊎_elim
    (λ g. absurd (not_before kinds s l k w.1 v.1 g))
    (λ g. omega (arith, v.1.counted, w.1.counted))
    (less_or w.1.index v.1.index))
    (less_or v.1.index w.1.index) in
    ap (λ (n : ℕ). Some (BadField n)) same
