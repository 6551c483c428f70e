-- A line as its writer sees it: the text of a field by what the description says of it, and the line from a field on as that field, a tab and the
-- line from the next field on. Its length is the same for every call.
use mathlib.Core.Path.{◌≡◌, refl, sym, ap, ◌∙◌}
use mathlib.Core.List.{List, [], ◌∷◌, ◌++◌, append_assoc, append-nil}
use mathlib.Core.Bool.{Bool, true, false, cond}
use Prim.Native.Nat.{ℕ, suc, ◌+◌, ◌-◌, ◌*◌, ◌≤◌, ◌<◌}
use native.Mathlib.Numerals.{add-one}
use native.Mathlib.Omega.{arith}
use lib.Dec.{ltb, lit≤}
use lib.ListN.{length, take, drop, get_or, set, length-append, length-drop, get_or-append, drop_of_length-le}
use lib.Seq.{sets, sets-eq, drop-drop, drop-append_seam}
use borrow.Author.Tests.{lt-ltb, le-ltb}
use borrow.Rule.Slice.PartMut.{put_mid, post_of}
use Rattle.laws.proofs.Runs.{part_rest, sets_on, sets_length}
use Rattle.fields.specs.declared.Kind.{Kind}
use Rattle.fields.specs.declared.Kind.TheVariants.{Call, Number}
use Rattle.fields.proofs.Walk.{at_kind}
use Rattle.table.specs.Places.{no_call}
use Rattle.fields.specs.Line.{most_fields, text, joined, line_from, line_of, Writes}
use Rattle.fields.proofs.Decimal.{decimal_twenty}
use Rattle.fields.proofs.Hexadecimal.{length_hex}

pub text_few : (k : Kind) (v : ℕ) → length (text k v no_call) ≤ 32
text_few Call v = lit≤ tt
text_few (Number most) v = omega (arith, decimal_twenty v)

-- a description whose last field is told from the rest
module _ (kinds rest : List Kind) (last : Kind) (whole : kinds ≡ rest ++ last ∷ []) (values call : List ℕ) where
  module _ (i : ℕ) (within : i < length rest) where
    abbrev here : List ℕ
    here = text (get_or rest i Call) (get_or values i 0) call

    abbrev next : List ℕ
    next = line_from (drop (i + 1) kinds) (i + 1) values call

    line_step : line_from (drop i kinds) i values call ≡ joined here next
    unfolding line_from
    line_step =
        let long : length kinds ≡ length rest + 1 = ap length whole ∙ length-append rest (last ∷ []) in
        let field : get_or kinds i Call ≡ get_or rest i Call = ap (λ (l : List Kind). get_or l i Call) whole ∙ get_or-append rest (last ∷ []) Call i within in
        rw (at_kind kinds i Call (get_or rest i Call) (omega arith) field, at_kind kinds (i + 1) Call (get_or kinds (i + 1) Call) (omega arith) refl)
        (ap (λ (n : ℕ). joined here (line_from (get_or kinds (i + 1) Call ∷ drop (i + 1 + 1) kinds) n values call)) (sym (add-one i)))

    pub length_step : length (line_from (drop i kinds) i values call) ≡ length here + (1 + length next)
    length_step = ap length line_step ∙ (omega (arith, length-append here (9 ∷ next)))

    -- the field is written at p, and a tab after it: what is to be written from there on is the next
    pub step_written : (l d : List ℕ) (p q : ℕ) → q ≡ p + length here → d ≡ sets l p here
        → sets (set d q 9) (q + 1) next ≡ sets l p (line_from (drop i kinds) i values call)
    step_written l d p q e w =
        ap (λ (n : ℕ). sets (set d q 9) n next) (add-one q)
        ∙ sets_on here (9 ∷ next) l d p q e w
        ∙ ap (sets l p) (sym line_step)

  pub line_last : (i : ℕ) → i ≡ length rest → line_from (drop i kinds) i values call ≡ text last (get_or values (length rest) 0) call
  unfolding line_from
  line_last i e = rw (e, whole, drop-append_seam rest (last ∷ []))

-- what a call wrote at the front of the part from p on is written at p
pub put_from : (l f ys : List ℕ) (p : ℕ) → p + length f ≤ length l → ys ≡ sets (take (length l - p) (drop p l)) 0 f
    → put_mid p (length l - p) l ys ≡ sets l p f
put_from l f ys p fits wrote =
    let behind : drop (0 + length f) (drop p l) ≡ drop (p + length f) l = drop-drop (0 + length f) p l ∙ ap (λ (n : ℕ). drop n l) (omega arith) in
    let part : ys ≡ f ++ drop (p + length f) l =
    wrote ∙ ap (λ (r : List ℕ). sets r 0 f) (part_rest l p) ∙ sets-eq f (drop p l) 0 (omega (arith, length-drop p l)) ∙ ap (λ (r : List ℕ). f ++ r) behind in
    let none : post_of p (length l - p) l ≡ [] = drop_of_length-le (drop p l) {i = length l - p} (omega (arith, length-drop p l)) in
    rw (part, sets-eq f l p fits, none) (simp (append_assoc, append-nil))

-- a call has 32 digits, whichever it is
same_text : (k : Kind) (v : ℕ) (call : List ℕ) → length call ≡ 16 → length (text k v call) ≡ length (text k v no_call)
same_text Call v call h = omega (arith, length_hex call, length_hex no_call)
same_text (Number kinds) v call h = refl

same_from : (kinds : List Kind) (i : ℕ) (values call : List ℕ) → length call ≡ 16
    → length (line_from kinds i values call) ≡ length (line_from kinds i values no_call)
unfolding line_from
same_from [] i values call h = refl
same_from (k ∷ []) i values call h = same_text k (get_or values i 0) call h
same_from (k ∷ n ∷ kinds) i values call h =
    let f = text k (get_or values i 0) call in
    let f0 = text k (get_or values i 0) no_call in
    let r = line_from (n ∷ kinds) (suc i) values call in
    let r0 = line_from (n ∷ kinds) (suc i) values no_call in
    omega (
      arith,
      length-append f (9 ∷ r),
      length-append f0 (9 ∷ r0),
      same_text k (get_or values i 0) call h,
      same_from (n ∷ kinds) (suc i) values call h,
    )

pub any_call : (kinds : List Kind) (values call : List ℕ) → length call ≡ 16 → length (line_of kinds values call) ≡ length (line_of kinds values no_call)
any_call kinds values call h = by (ltb most_fields (length kinds))
  where
    by : (b : Bool) → length (cond b [] (line_from kinds 0 values call)) ≡ length (cond b [] (line_from kinds 0 values no_call))
    by true = refl
    by false = same_from kinds 0 values call h

-- a line by a description of fourteen fields at most
pub line_whole : (kinds : List Kind) (values call : List ℕ) → length kinds ≤ most_fields → line_of kinds values call ≡ line_from kinds 0 values call
line_whole kinds values call h = rw (le-ltb most_fields (length kinds) h)

-- a description of none, or of more
pub line_empty : (kinds : List Kind) (i : ℕ) (values call : List ℕ) → length kinds ≡ 0 → line_from kinds i values call ≡ []
unfolding line_from
line_empty [] i values call h = refl
line_empty (k ∷ kinds) i values call h = absurd (omega arith)

pub line_none : (kinds : List Kind) (values call : List ℕ) → length kinds ≡ 0 → line_of kinds values call ≡ []
unfolding line_from
line_none [] values call h = refl
line_none (k ∷ kinds) values call h = absurd (omega arith)

pub line_over : (kinds : List Kind) (values call : List ℕ) → most_fields < length kinds → line_of kinds values call ≡ []
line_over kinds values call h = rw (lt-ltb most_fields (length kinds) h)

-- with a tab or an end, no field has more than 33 octets
few_from : (kinds : List Kind) (i : ℕ) (values : List ℕ) → length (line_from kinds i values no_call) ≤ 33 * length kinds
unfolding line_from
few_from [] i values = omega arith
few_from (k ∷ []) i values = omega (arith, text_few k (get_or values i 0))
few_from (k ∷ n ∷ kinds) i values =
    let f = text k (get_or values i 0) no_call in
    let r = line_from (n ∷ kinds) (suc i) values no_call in
    omega (arith, length-append f (9 ∷ r), text_few k (get_or values i 0), few_from (n ∷ kinds) (suc i) values)

pub line_few : (kinds : List Kind) (values : List ℕ) → length kinds ≤ most_fields → length (line_of kinds values no_call) ≤ 33 * most_fields
line_few kinds values h = omega (arith, ap length (line_whole kinds values no_call h), few_from kinds 0 values)

-- where the line is empty, the count is 0 and the buffer stays, whether or not it fits
pub write_none : (out line : List ℕ) → length line ≡ 0 → Writes out line 0 out
write_none out [] h = by (ltb (length out) 0)
  where
    by : (b : Bool) → (◌≡◌ {A = ℕ} 0 (cond b 0 0)) × (out ≡ cond b out out)
    by true = (refl, refl)
    by false = (refl, refl)
write_none out (x ∷ line) h = absurd (omega arith)

-- what the functions of lib.rt that measure and write lines go by
pub ruleset measuring = (text_few, length_step, line_last, line_none, line_whole)

pub ruleset putting = (length_step, line_last, line_empty, step_written, put_from, part_rest, sets_length)

pub ruleset writing = (any_call, line_whole, line_over, write_none)
