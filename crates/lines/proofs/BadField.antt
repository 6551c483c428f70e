-- What the fault says of the line's fields (`fault_right` of `fields`), as its field and its number.
use mathlib.Core.Path.{◌≡◌, refl, ap, ◌∙◌}
use mathlib.Core.Bool.{Bool, true, false, cond, ◌||◌}
use mathlib.Core.List.{List}
use Prim.Native.Nat.{ℕ, zero, suc, ◌-◌, ◌≤◌, ◌<◌}
use native.Mathlib.Omega.{arith}
use lib.Dec.{eqb, ltb}
use borrow.Author.Tests.{lt-ltb, ne_eqb}
use Rattle.std.specs.Prelude.{Result, Ok, Err}
use Rattle.std.specs.Result.{result_err}
use Rattle.fields.specs.declared.Fault.{Fault}
use Rattle.fields.specs.declared.Fault.TheVariants.{TooLong, WrongCount, BadField}
use Rattle.fields.specs.declared.Fields.{Fields}
use Rattle.fields.specs.FirstBad.{good_at, Verdict}
use Rattle.fields.proofs.FirstBad.{fault_right}
use Rattle.lines.specs.declared.BadLine.TheVariants.{BadNumber, BadCall}
use Rattle.lines.specs.EventLine.{event_fields, longest_event, reading, taken, blamed, refusal_number, number_in, read_line, bad_field}
use Rattle.lines.specs.BadField.{is_good, BadFieldStands}

module _ (s : List ℕ) where
  abbrev Meaning : Result Fields Fault → Type 0
  Meaning r = Verdict longest_event event_fields s (result_err r)

  -- the second of the seven is the call, in the description too
  as_described : (j : ℕ) → j < 7 → is_good (suc j) s ≡ good_at event_fields s j
  as_described zero h = refl
  as_described (suc zero) h = refl
  as_described (suc (suc zero)) h = refl
  as_described (suc (suc (suc zero))) h = refl
  as_described (suc (suc (suc (suc zero)))) h = refl
  as_described (suc (suc (suc (suc (suc zero))))) h = refl
  as_described (suc (suc (suc (suc (suc (suc zero)))))) h = refl
  as_described (suc (suc (suc (suc (suc (suc (suc j))))))) h = absurd (omega arith)

  -- field j, counted from 1
  good_field : (j : ℕ) (b : Bool) → 0 < j → j ≤ 7 → good_at event_fields s (j - 1) ≡ b → is_good j s ≡ b
  good_field zero b from to q = absurd (omega arith)
  good_field (suc j) b from to q =
      let here : j ≡ suc j - 1 = omega arith in
      as_described j (omega arith) ∙ ap (good_at event_fields s) here ∙ q

  -- a bad field has 24 or 23
  by_number : (P : ℕ → Type 0) (i : ℕ) → (eqb i 2 ≡ true → P 24) → (eqb i 2 ≡ false → P 23) → P (number_in (taken (Err (BadField i))))
  by_number P i p q = by (eqb i 2) p q
    where
      by : (b : Bool) → (b ≡ true → P 24) → (b ≡ false → P 23) → P (refusal_number (cond b BadCall BadNumber))
      by true p q = p refl
      by false p q = q refl

  above : (r : Result Fields Fault) → Meaning r → ltb 0 (blamed r) ≡ (eqb (number_in (taken r)) 23 || eqb (number_in (taken r)) 24)
  above (Ok f) says = refl
  above (Err TooLong) says = refl
  above (Err WrongCount) says = refl
  above (Err (BadField i)) says =
      lt-ltb 0 i (omega (arith, says.1.counted)) ∙ by_number (λ n. true ≡ (eqb n 23 || eqb n 24)) i (λ q. refl) (λ q. refl)

  none : (r : Result Fields Fault) → Meaning r
      → eqb (blamed r) 0 ≡ (eqb (number_in (taken r)) 0 || (eqb (number_in (taken r)) 21 || eqb (number_in (taken r)) 22))
  none (Ok f) says = refl
  none (Err TooLong) says = refl
  none (Err WrongCount) says = refl
  none (Err (BadField i)) says =
      ne_eqb i 0 (λ q. omega (arith, says.1.counted)) ∙ by_number (λ n. false ≡ (eqb n 0 || (eqb n 21 || eqb n 22))) i (λ q. refl) (λ q. refl)

  second : (r : Result Fields Fault) → eqb (blamed r) 2 ≡ eqb (number_in (taken r)) 24
  second (Ok f) = refl
  second (Err TooLong) = refl
  second (Err WrongCount) = refl
  second (Err (BadField i)) = by_number (λ n. eqb i 2 ≡ eqb n 24) i (λ q. q) (λ q. q)

  within : (r : Result Fields Fault) → Meaning r → blamed r ≤ 7
  within (Ok f) says = omega arith
  within (Err TooLong) says = omega arith
  within (Err WrongCount) says = omega arith
  within (Err (BadField i)) says = omega (arith, says.1.counted, says.1.within)

  is_bad : (r : Result Fields Fault) → Meaning r → 0 < blamed r → is_good (blamed r) s ≡ false
  is_bad (Ok f) says h = absurd (omega arith)
  is_bad (Err TooLong) says h = absurd (omega arith)
  is_bad (Err WrongCount) says h = absurd (omega arith)
  is_bad (Err (BadField i)) says h =
      let here : i - 1 ≡ says.1.index = omega (arith, says.1.counted) in
      good_field i false h (omega (arith, says.1.counted, says.1.within)) (ap (good_at event_fields s) here ∙ says.1.bad)

  are_good : (r : Result Fields Fault) → Meaning r → (j : ℕ) → 0 < j → j < blamed r → is_good j s ≡ true
  are_good (Ok f) says j from to = absurd (omega arith)
  are_good (Err TooLong) says j from to = absurd (omega arith)
  are_good (Err WrongCount) says j from to = absurd (omega arith)
  are_good (Err (BadField i)) says j from to =
      good_field j true from (omega (arith, says.1.counted, says.1.within)) (says.1.before (j - 1) (omega (arith, says.1.counted)))

  all_are : (r : Result Fields Fault) → Meaning r → number_in (taken r) ≡ 0 → (j : ℕ) → 0 < j → j ≤ 7 → is_good j s ≡ true
  all_are (Ok f) says h j from to = good_field j true from to (says.1 (j - 1) (omega arith))
  all_are (Err TooLong) says h j from to = absurd (omega arith)
  all_are (Err WrongCount) says h j from to = absurd (omega arith)
  all_are (Err (BadField i)) says h j from to = by_number (λ n. n ≡ 0 → is_good j s ≡ true) i (λ q z. absurd (omega arith)) (λ q z. absurd (omega arith)) h

  pub bad_field_stands : BadFieldStands s
  unfolding read_line reading bad_field
  bad_field_stands =
      let r = reading s in
      let says : Meaning r = fault_right longest_event event_fields s in
      record {
        above_0 = above r says;
        at_0 = none r says;
        call = second r;
        one_of_seven = within r says;
        bad = is_bad r says;
        good_before = are_good r says;
        all_good = all_are r says;
      }
