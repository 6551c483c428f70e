-- Decimal notation: reading what was written, and writing what was read, with the lengths of numbers. Reading goes on with anything after the
-- digits, so that the last digit can be split off; writing takes one digit more at the end of a number above 0.
use mathlib.Core.Path.{◌≡◌, refl, sym, ap, ◌∙◌}
use mathlib.Core.List.{List, [], ◌∷◌, ◌++◌, append_assoc, append-nil}
use mathlib.Core.Bool.{Bool, true, false, cond}
use Prim.Native.Nat.{ℕ, zero, suc, ◌+◌, ◌-◌, ◌*◌, ◌/◌, ◌%◌, ◌^◌, ◌≤◌, ◌<◌}
use native.Mathlib.Omega.{arith}
use native.Mathlib.Nat.{pow-suc}
use lib.Dec.{ltb}
use native.Mathlib.Decide.{dec_lt, ℕ_discrete}
use lib.ListN.{length, get_or, length-append, get_or-append}
use borrow.Author.Tests.{ltb-true, ltb-false, lt-ltb, le-ltb, le-leb, ne_eqb}
use Rattle.laws.proofs.Runs.{length_snoc, sets_more}
use Rattle.fields.specs.Parts.{tabs}
use Rattle.std.specs.Prelude.{Some}
use Rattle.std.proofs.lemmas.Option.{none-some, same_Some}
use Rattle.fields.specs.Numbers.{digits_from, number_of, digits_of, decimal}
use Rattle.fields.proofs.NumberLaws.{number_short, number_long, digit_inv, number_inv, Digit, Whole}
use Rattle.fields.proofs.Joined.{tabs_append}

-- one digit d, read on
digit_read : (most v d : ℕ) (t : List ℕ) → d < 10 → v * 10 + d ≤ most → digits_from most v ((48 + d) ∷ t) ≡ digits_from most (v * 10 + d) t
digit_read most v d t h k =
    let e : 48 + d - 48 ≡ d = omega arith in
    rw (le-ltb (48 + d) 48 (omega arith), le-ltb 57 (48 + d) (omega arith), e, le-leb (v * 10 + d) most k)

-- reading what was written, with anything after it
digits_back : (most k v : ℕ) (t : List ℕ) → v < 10 ^ suc k → v ≤ most → digits_from most 0 (digits_of k v ++ t) ≡ digits_from most v t
digits_back most zero v t h m =
    let e : 0 * 10 + v ≡ v = omega arith in
    digit_read most 0 v t (omega arith) (omega arith) ∙ rw e
digits_back most (suc k) v t h m = go (ltb v 10) refl (digits_back most k (v / 10) ((48 + v % 10) ∷ t))
  where
    go : (b : Bool) → ltb v 10 ≡ b
        → (v / 10 < 10 ^ suc k → v / 10 ≤ most → digits_from most 0 (digits_of k (v / 10) ++ ((48 + v % 10) ∷ t)) ≡ digits_from most (v / 10) ((48 + v % 10) ∷ t))
        → digits_from most 0 (cond b ((48 + v) ∷ []) (digits_of k (v / 10) ++ ((48 + v % 10) ∷ [])) ++ t) ≡ digits_from most v t
    go true b ih =
        let e : 0 * 10 + v ≡ v = omega arith in
        digit_read most 0 v t (ltb-true v 10 b) (omega arith) ∙ ap (λ (n : ℕ). digits_from most n t) e
    go false b ih =
        let e : v / 10 * 10 + v % 10 ≡ v = omega arith in
        ap (digits_from most 0) (append_assoc (digits_of k (v / 10)) ((48 + v % 10) ∷ []) t)
        ∙ ih (omega (arith, pow-suc 10 (suc k))) (omega arith)
        ∙ digit_read most (v / 10) (v % 10) t (omega arith) (omega arith)
        ∙ ap (λ (n : ℕ). digits_from most n t) e

-- something is written, its first digit is no zero unless the number is 0, and no digit is a tab
digits_some : (k v : ℕ) → 0 < length (digits_of k v)
digits_some zero v = omega arith
digits_some (suc k) v = go (ltb v 10)
  where
    go : (b : Bool) → 0 < length (cond b ((48 + v) ∷ []) (digits_of k (v / 10) ++ ((48 + v % 10) ∷ [])))
    go true = omega arith
    go false = omega (arith, length-append (digits_of k (v / 10)) ((48 + v % 10) ∷ []))

digits_lead : (k v : ℕ) → v < 10 ^ suc k → 0 < v → 48 < get_or (digits_of k v) 0 0
digits_lead zero v h p = omega arith
digits_lead (suc k) v h p = go (ltb v 10) refl (digits_lead k (v / 10))
  where
    go : (b : Bool) → ltb v 10 ≡ b → (v / 10 < 10 ^ suc k → 0 < v / 10 → 48 < get_or (digits_of k (v / 10)) 0 0)
        → 48 < get_or (cond b ((48 + v) ∷ []) (digits_of k (v / 10) ++ ((48 + v % 10) ∷ []))) 0 0
    go true b ih = omega arith
    go false b ih =
        let l : 10 ≤ v = ltb-false v 10 b in
        rw (get_or-append (digits_of k (v / 10)) ((48 + v % 10) ∷ []) 0 0 (digits_some k (v / 10)))
        (ih (omega (arith, pow-suc 10 (suc k))) (omega arith))

digits_tabs : (k v : ℕ) → v < 10 ^ suc k → tabs (digits_of k v) ≡ 0
digits_tabs zero v h = rw (ne_eqb (48 + v) 9 (omega arith))
digits_tabs (suc k) v h = go (ltb v 10) refl (digits_tabs k (v / 10))
  where
    go : (b : Bool) → ltb v 10 ≡ b → (v / 10 < 10 ^ suc k → tabs (digits_of k (v / 10)) ≡ 0)
        → tabs (cond b ((48 + v) ∷ []) (digits_of k (v / 10) ++ ((48 + v % 10) ∷ []))) ≡ 0
    go true b ih = rw (ne_eqb (48 + v) 9 (omega arith))
    go false b ih =
        let z : tabs ((48 + v % 10) ∷ []) ≡ 0 = rw (ne_eqb (48 + v % 10) 9 (omega arith)) in
        omega (arith, tabs_append (digits_of k (v / 10)) ((48 + v % 10) ∷ []), ih (omega (arith, pow-suc 10 (suc k))))

-- reading what was written
pub number_written : (v most : ℕ) → v ≤ most → v < 10 ^ 20 → number_of (decimal v) most ≡ Some v
unfolding decimal
number_written zero most h k = sym (number_short (48 ∷ []) most (λ e. omega arith) (omega arith)) ∙ digits_back most 19 0 [] (omega arith) (omega arith)
number_written (suc n) most h k = go (dec_lt 1 (length s))
  where
    s : List ℕ
    s = digits_of 19 (suc n)

    back : digits_from most 0 s ≡ Some (suc n)
    back = ap (digits_from most 0) (sym (append-nil s)) ∙ digits_back most 19 (suc n) [] k h

    go : Dec (1 < length s) → number_of s most ≡ Some (suc n)
    go (yes l) = sym (number_long s most l (λ e. omega (arith, digits_lead 19 (suc n) k (omega arith)))) ∙ back
    go (no l) = sym (number_short s most (λ e. omega (arith, digits_some 19 (suc n))) (omega arith)) ∙ back

pub decimal_tabs : (v : ℕ) → v < 10 ^ 20 → tabs (decimal v) ≡ 0
unfolding decimal
decimal_tabs v h = digits_tabs 19 v h

-- more room for digits changes nothing
digits_room : (k v : ℕ) → v < 10 ^ suc k → digits_of (suc k) v ≡ digits_of k v
digits_room zero v h = rw (lt-ltb v 10 (omega arith))
digits_room (suc k) v h = go (ltb v 10) (digits_room k (v / 10) (omega (arith, pow-suc 10 (suc k))))
  where
    go : (b : Bool) → digits_of (suc k) (v / 10) ≡ digits_of k (v / 10)
        → cond b ((48 + v) ∷ []) (digits_of (suc k) (v / 10) ++ ((48 + v % 10) ∷ []))
        ≡ cond b ((48 + v) ∷ []) (digits_of k (v / 10) ++ ((48 + v % 10) ∷ []))
    go true ih = refl
    go false ih = ap (λ (l : List ℕ). l ++ ((48 + v % 10) ∷ [])) ih

-- one digit more at the end
decimal_more : (a d : ℕ) → 0 < a → d < 10 → a < 10 ^ 19 → decimal (a * 10 + d) ≡ decimal a ++ ((48 + d) ∷ [])
unfolding decimal
decimal_more a d p h r =
    let q : (a * 10 + d) / 10 ≡ a = omega arith in
    let m : (a * 10 + d) % 10 ≡ d = omega arith in
    rw (le-ltb (a * 10 + d) 10 (omega arith), q, m, digits_room 18 a r)

-- digits read on from a number above 0
digits_read : (most a : ℕ) (s : List ℕ) (v : ℕ) → most < 10 ^ 20 → 0 < a → digits_from most a s ≡ Some v → decimal v ≡ decimal a ++ s
digits_read most a [] v h p e = ap decimal (sym (same_Some a v e)) ∙ sym (append-nil (decimal a))
digits_read most a (x ∷ s) v h p e =
    let d = digit_inv most a x s v e in
    let x' : 48 + (x - 48) ≡ x = omega arith in
    digits_read most (a * 10 + (x - 48)) s v h (omega arith) d.on
    ∙ ap (λ (l : List ℕ). l ++ s) (decimal_more a (x - 48) p (omega arith) (omega arith))
    ∙ append_assoc (decimal a) ((48 + (x - 48)) ∷ []) s
    ∙ ap (λ (y : ℕ). decimal a ++ (y ∷ s)) x'

-- writing what was read
pub decimal_digit : (d : ℕ) → d < 10 → decimal d ≡ (48 + d) ∷ []
unfolding decimal
decimal_digit d h = rw (lt-ltb d 10 h)

pub number_read : (s : List ℕ) (most v : ℕ) → most < 10 ^ 20 → number_of s most ≡ Some v → decimal v ≡ s
number_read [] most v h e = absurd (none-some v e)
number_read (x ∷ s) most v h e = go (ℕ_discrete x 48)
  where
    w : Whole most x s v
    w = number_inv x s most v e

    d : Digit most 0 x s v
    d = digit_inv most 0 x s v w.digits

    on : digits_from most (x - 48) s ≡ Some v
    on = ap (λ (n : ℕ). digits_from most n s) (omega arith) ∙ d.on

    first : decimal (x - 48) ≡ x ∷ []
    first = decimal_digit (x - 48) (omega (arith, d.high)) ∙ ap (λ (y : ℕ). y ∷ []) (omega (arith, d.low))

    go : Dec (x ≡ 48) → decimal v ≡ x ∷ s
    go (yes q) =
        let n : s ≡ [] = w.alone q in
        ap decimal (sym (same_Some (x - 48) v (ap (digits_from most (x - 48)) (sym n) ∙ on))) ∙ first ∙ ap (λ (l : List ℕ). x ∷ l) (sym n)
    go (no q) = digits_read most (x - 48) s v h (omega (arith, d.low)) on ∙ ap (λ (l : List ℕ). l ++ s) first

-- a number below a power of ten has no more digits than the power has zeros
digits_length : (k n v : ℕ) → v < 10 ^ suc n → n ≤ k → length (digits_of k v) ≤ suc n
digits_length zero n v h l = omega arith
digits_length (suc k) zero v h l = rw (lt-ltb v 10 h) (omega arith)
digits_length (suc k) (suc n) v h l = go (ltb v 10) (digits_length k n (v / 10) (omega (arith, pow-suc 10 (suc n))) (omega arith))
  where
    go : (b : Bool) → length (digits_of k (v / 10)) ≤ suc n
        → length (cond b ((48 + v) ∷ []) (digits_of k (v / 10) ++ ((48 + v % 10) ∷ []))) ≤ suc (suc n)
    go true ih = omega arith
    go false ih = omega (arith, length-append (digits_of k (v / 10)) ((48 + v % 10) ∷ []))

pub length_two : (v : ℕ) → v < 100 → length (decimal v) ≤ 2
unfolding decimal
length_two v h = digits_length 19 1 v (omega arith) (omega arith)

pub length_three : (v : ℕ) → v ≤ 255 → length (decimal v) ≤ 3
unfolding decimal
length_three v h = digits_length 19 2 v (omega arith) (omega arith)

pub length_five : (v : ℕ) → v ≤ 65535 → length (decimal v) ≤ 5
unfolding decimal
length_five v h = digits_length 19 4 v (omega arith) (omega arith)

-- the last digit, and the digits before it
pub decimal_step : (n : ℕ) → 10 ≤ n → n < 10 ^ 20 → decimal n ≡ decimal (n / 10) ++ ((48 + n % 10) ∷ [])
unfolding decimal
decimal_step n h k = rw (le-ltb n 10 h, digits_room 18 (n / 10) (omega arith))

pub length_step : (n : ℕ) → 10 ≤ n → n < 10 ^ 20 → length (decimal n) ≡ length (decimal (n / 10)) + 1
length_step n h k = ap length (decimal_step n h k) ∙ length_snoc (decimal (n / 10)) (48 + n % 10)

pub length_digit : (n : ℕ) → n < 10 → length (decimal n) ≡ 1
length_digit n h = ap length (decimal_digit n h)

some_power : (k : ℕ) → 1 ≤ 10 ^ k
some_power zero = omega arith
some_power (suc k) = omega (arith, pow-suc 10 k, some_power k)

-- from one power of ten to the next
pub length_exact : (k n : ℕ) → 10 ^ k ≤ n → n < 10 ^ suc k → n < 10 ^ 20 → length (decimal n) ≡ suc k
length_exact zero n l h m = length_digit n (omega arith)
length_exact (suc k) n l h m =
    omega (
      arith,
      length_step n (omega (arith, pow-suc 10 k, some_power k)) m,
      length_exact k (n / 10) (omega (arith, pow-suc 10 k)) (omega (arith, pow-suc 10 (suc k))) (omega arith),
    )

-- five digits at once
pub length_five_more : (n : ℕ) → 100000 ≤ n → n < 10 ^ 20 → length (decimal n) ≡ length (decimal (n / 100000)) + 5
length_five_more n l h =
    let rest : n / 10 / 10 / 10 / 10 / 10 ≡ n / 100000 = omega arith in
    omega (
      arith,
      length_step n (omega arith) h,
      length_step (n / 10) (omega arith) (omega arith),
      length_step (n / 10 / 10) (omega arith) (omega arith),
      length_step (n / 10 / 10 / 10) (omega arith) (omega arith),
      length_step (n / 10 / 10 / 10 / 10) (omega arith) (omega arith),
      ap (λ (m : ℕ). length (decimal m)) rest,
    )

-- no number has more than twenty digits
digits_twenty : (k v : ℕ) → length (digits_of k v) ≤ suc k
digits_twenty zero v = omega arith
digits_twenty (suc k) v = go (ltb v 10) (digits_twenty k (v / 10))
  where
    go : (b : Bool) → length (digits_of k (v / 10)) ≤ suc k
        → length (cond b ((48 + v) ∷ []) (digits_of k (v / 10) ++ ((48 + v % 10) ∷ []))) ≤ suc (suc k)
    go true ih = omega arith
    go false ih = omega (arith, length-append (digits_of k (v / 10)) ((48 + v % 10) ∷ []))

pub decimal_twenty : (v : ℕ) → length (decimal v) ≤ 20
unfolding decimal
decimal_twenty v = digits_twenty 19 v

-- what the functions of numbers.rt that measure and write numbers go by
pub ruleset measuring = (length_digit, length_five_more, decimal_twenty)

pub ruleset putting = (length_digit, length_step, decimal_digit, decimal_step, sets_more)
