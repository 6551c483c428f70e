-- The walk through a line. What is shown of any walk is shown by its four cases (`by_fields`). What the loop needs is one turn: the field that starts at an
-- index of the line is good, and the walk goes on after it, or it is bad, and ends the walk.
use mathlib.Core.Path.{◌≡◌, refl, sym, ap, ◌∙◌}
use mathlib.Core.List.{List, [], ◌∷◌, ◌++◌}
use mathlib.Core.Bool.{Bool, true, false, cond}
use Prim.Native.Nat.{ℕ, suc, ◌+◌, ◌≤◌, ◌<◌}
use native.Mathlib.Numerals.{add-one}
use native.Mathlib.Omega.{arith}
use lib.Dec.{ltb, eqb}
use lib.ListN.{length, drop, get_or, set, length-append, length-drop, drop_of_length-le}
use lib.Seq.{drop-cons}
use borrow.Author.Tests.{lt-ltb, le-ltb, ltb-true, ltb-false, eq-eqb, ne_eqb, eqb-true}
use Rattle.std.specs.Prelude.{is_some, ok_or, Option, Some, None, Result, Err}
use Rattle.laws.proofs.Bools.{not_both}
use Rattle.fields.specs.declared.Kind.{Kind}
use Rattle.fields.specs.declared.Kind.TheVariants.{Call, Number}
use Rattle.fields.specs.declared.Fault.{Fault}
use Rattle.fields.specs.declared.Fault.TheVariants.{TooLong, WrongCount, BadField}
use Rattle.fields.specs.declared.Fields.{Fields}
use Rattle.fields.specs.Parts.{before, after, tabs}
use Rattle.fields.specs.Numbers.{number_of}
use Rattle.table.specs.Places.{no_call}
use Rattle.fields.specs.Calls.{call_of}
use Rattle.fields.specs.Line.{most_fields, no_values, says, with_field, walk, read_fields}
use Rattle.fields.specs.FirstBad.{suits, RightSize}
use Rattle.fields.proofs.PartLaws.{after_field}
use Rattle.fields.proofs.Joined.{cut_line, cut_tabs}

-- no field is left; the next one is bad, and the walk ends with it; it is the call; it is a number
module _ (P : List Kind → ℕ → List ℕ → List ℕ → List ℕ → Result Fields Fault → Type 0)
    (end : (i : ℕ) (s values call : List ℕ) → P [] i s values call (says values call))
    (bad : (k : Kind) (kinds : List Kind) (i : ℕ) (s values call : List ℕ) → suits k (before s) ≡ false → P (k ∷ kinds) i s values call (Err (BadField (suc i))))
    (a_call : (kinds : List Kind) (i : ℕ) (s values call c : List ℕ) (r : Result Fields Fault) → call_of (before s) ≡ Some c
    → P kinds (suc i) (after s) values c r → P (Call ∷ kinds) i s values call r)
    (a-number : (most : ℕ) (kinds : List Kind) (i : ℕ) (s values call : List ℕ) (v : ℕ) (r : Result Fields Fault) → number_of (before s) most ≡ Some v
    → P kinds (suc i) (after s) (set values i v) call r → P (Number most ∷ kinds) i s values call r) where
  pub by_fields : (kinds : List Kind) (i : ℕ) (s values call : List ℕ) → P kinds i s values call (walk kinds i s values call)
  unfolding walk with_field
  by_fields [] i s values call = end i s values call
  by_fields (Call ∷ kinds) i s values call = go (call_of (before s)) refl (λ c. by_fields kinds (suc i) (after s) values c)
    where
      go : (o : Option (List ℕ)) → call_of (before s) ≡ o → ((c : List ℕ) → P kinds (suc i) (after s) values c (walk kinds (suc i) (after s) values c))
          → P (Call ∷ kinds) i s values call (with_field (suc i) o λ c. walk kinds (suc i) (after s) values c)
      go (Some c) q rest = a_call kinds i s values call c _ q (rest c)
      go None q rest = bad Call kinds i s values call (ap is_some q)
  by_fields (Number most ∷ kinds) i s values call = go (number_of (before s) most) refl (λ v. by_fields kinds (suc i) (after s) (set values i v) call)
    where
      go : (o : Option ℕ) → number_of (before s) most ≡ o
          → ((v : ℕ) → P kinds (suc i) (after s) (set values i v) call (walk kinds (suc i) (after s) (set values i v) call))
          → P (Number most ∷ kinds) i s values call (with_field (suc i) o λ v. walk kinds (suc i) (after s) (set values i v) call)
      go (Some v) q rest = a-number most kinds i s values call v _ q (rest v)
      go None q rest = bad (Number most) kinds i s values call (ap is_some q)

-- what is read of a line, in three cases: it is too long; it has another count of fields; its fields are walked through
pub by_tests : (P : Result Fields Fault → Type 0) (longest : ℕ) (kinds : List Kind) (s : List ℕ) → (longest < length s → P (Err TooLong))
    → (length s ≤ longest → (RightSize longest kinds s → ⊥) → P (Err WrongCount))
    → (RightSize longest kinds s → P (walk kinds 0 s no_values no_call)) → P (read_fields longest kinds s)
unfolding read_fields
by_tests P longest kinds s long count walked =
    by (ltb longest (length s)) (ltb most_fields (length kinds)) (eqb (tabs s + 1) (length kinds)) refl refl refl
  where
    by : (a m b : Bool) → ltb longest (length s) ≡ a → ltb most_fields (length kinds) ≡ m → eqb (tabs s + 1) (length kinds) ≡ b
        → P (cond a (Err TooLong) (cond m (Err WrongCount) (cond b (walk kinds 0 s no_values no_call) (Err WrongCount))))
    by true m b p q r = long (ltb-true longest (length s) p)
    by false true b p q r =
        count (ltb-false longest (length s) p) (λ x. omega (arith, x.few, ltb-true most_fields (length kinds) q))
    by false false true p q r =
        walked record {
          short = ltb-false longest (length s) p;
          few = ltb-false most_fields (length kinds) q;
          as_many = eqb-true (tabs s + 1) (length kinds) r;
        }
    by false false false p q r = count (ltb-false longest (length s) p) (λ x. not_both (eq-eqb (tabs s + 1) (length kinds) x.as_many) r)

-- where there is nothing, the error that was named is what comes
pub blamed : {A : Type 0} (o : Option A) (f g : Fault) → o ≡ None → ◌≡◌ {A = Result A Fault} (Err g) (ok_or o f) → g ≡ f
blamed None f g n q = cc
blamed (Some x) f g n q = cc

-- the description from an index on begins with the kind that stands there
pub at_kind : (kinds : List Kind) (i : ℕ) (d k : Kind) → i < length kinds → get_or kinds i d ≡ k → drop i kinds ≡ k ∷ drop (i + 1) kinds
at_kind kinds i d k within here = rw (← here, add-one) (drop-cons kinds i d within)

module _ (s : List ℕ) (kinds rest : List Kind) (values call : List ℕ) (at i : ℕ) where
  pub call_bad : kinds ≡ Call ∷ rest → call_of (before (drop at s)) ≡ None → walk kinds i (drop at s) values call ≡ Err (BadField (i + 1))
  unfolding walk with_field
  call_bad here q = rw (here, q, add-one i)

  pub number_bad : (most : ℕ) → kinds ≡ Number most ∷ rest → number_of (before (drop at s)) most ≡ None
      → walk kinds i (drop at s) values call ≡ Err (BadField (i + 1))
  unfolding walk with_field
  number_bad most here q = rw (here, q, add-one i)

  module _ (e : ℕ) (ends : e ≡ length (before (drop at s))) where
    pub call_good : (c : List ℕ) → kinds ≡ Call ∷ rest → call_of (before (drop at s)) ≡ Some c
        → walk kinds i (drop at s) values call ≡ walk rest (i + 1) (drop (at + (e + 1)) s) values c
    unfolding walk with_field
    call_good c here q = rw (here, q, after_field s at e ends, add-one i)

    pub number_good : (most v : ℕ) → kinds ≡ Number most ∷ rest → number_of (before (drop at s)) most ≡ Some v
        → walk kinds i (drop at s) values call ≡ walk rest (i + 1) (drop (at + (e + 1)) s) (set values i v) call
    unfolding walk with_field
    number_good most v here q = rw (here, q, after_field s at e ends, add-one i)

-- the walk is over
pub walk_end : (s : List ℕ) (kinds : List Kind) (values call : List ℕ) (i : ℕ) → length kinds ≤ i → walk (drop i kinds) i s values call ≡ says values call
unfolding walk
walk_end s kinds values call i h = rw (drop_of_length-le kinds h)

-- a tab ends the field, and what follows has one tab less
pub tab_on : (s : List ℕ) (at e n : ℕ) → at ≤ length s → e ≡ length (before (drop at s)) → tabs (drop at s) ≡ suc n
    → (at + (e + 1) ≤ length s) × (tabs (drop (at + (e + 1)) s) ≡ n)
tab_on s at e n within ends some =
    let r = drop at s in
    let l : length (before r ++ 9 ∷ after r) ≡ length r = ap length (cut_line r n some) in (
      omega (arith, length-drop at s, length-append (before r) (9 ∷ after r)),
      ap tabs (sym (after_field s at e ends)) ∙ cut_tabs r n some,
    )

-- the answers of the reader
module _ (longest : ℕ) (kinds : List Kind) (s : List ℕ) where
  pub line_long : longest < length s → read_fields longest kinds s ≡ Err TooLong
  unfolding read_fields
  line_long h = rw (lt-ltb longest (length s) h)

  pub line_many : length s ≤ longest → most_fields < length kinds → read_fields longest kinds s ≡ Err WrongCount
  unfolding read_fields
  line_many h m = rw (le-ltb longest (length s) h, lt-ltb most_fields (length kinds) m)

  pub line_parts : length s ≤ longest → length kinds ≤ most_fields → (tabs s + 1 ≡ length kinds → ⊥) → read_fields longest kinds s ≡ Err WrongCount
  unfolding read_fields
  line_parts h m k = rw (le-ltb longest (length s) h, le-ltb most_fields (length kinds) m, ne_eqb (tabs s + 1) (length kinds) k)

  pub line_walk : length s ≤ longest → length kinds ≤ most_fields → tabs s + 1 ≡ length kinds → read_fields longest kinds s ≡ walk kinds 0 s no_values no_call
  unfolding read_fields
  line_walk h m k = rw (le-ltb longest (length s) h, le-ltb most_fields (length kinds) m, eq-eqb (tabs s + 1) (length kinds) k)

pub ruleset testing = (line_long, line_many, line_parts, line_walk)
