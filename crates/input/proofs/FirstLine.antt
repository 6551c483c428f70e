-- A text begins with the octets before its first feed, and its other lines are those of what comes after that.
use Rattle.std.proofs.Common.{◌≡◌, ℕ, ◌+◌, ◌<◌, ◌==◌, List, [], ◌∷◌, length, take, drop, arith, refl, sym, subst, Bool, true, false, not, cond, Some, None, Bor, suc, ◌-◌, take_all, length-drop}
use Rattle.std.proofs.lemmas.Bool.Decides.{nat_tests}
use Rattle.std.proofs.lemmas.Grind.{common_steps}
use Rattle.std.specs.List.{position, position_or_len}
use Rattle.std.specs.Iterator.{MakesProgress, item_count}
use Rattle.input.specs.Lines.{lines_of, before_lines}
use native.Mathlib.Numerals.{unary_clauses}

abbrev pub end_of : List ℕ → ℕ
end_of text = position_or_len (λ octet. octet == 10) text

before :
    (octet end : ℕ) (text : List ℕ) (lines : List (List ℕ))
    → lines ≡ take end text ∷ lines_of (drop (end + 1) text)
    → before_lines octet lines ≡ take (1 + end) (octet ∷ text) ∷ lines_of (drop (1 + end + 1) (octet ∷ text))
before octet end text lines same = let one : 1 + end ≡ suc end = omega arith in rw (same, one) (simp unary_clauses refl)

first_line : (text : List ℕ) → 0 < length text → lines_of text ≡ take (end_of text) text ∷ lines_of (drop (end_of text + 1) text)
first_line [] some = absurd (omega arith)
first_line (octet ∷ []) some =
    elim (octet == 10) as
    (λ b. cond b ([] ∷ lines_of []) (before_lines octet (lines_of []))
    ≡ take (cond (not b) (1 + 0) 0) (octet ∷ []) ∷ lines_of (drop (cond (not b) (1 + 0) 0 + 1) (octet ∷ [])))
    [ true ↦ refl | false ↦ refl ]
first_line (octet ∷ next ∷ rest) some =
    elim (octet == 10) as
    (λ b. cond b ([] ∷ lines_of (next ∷ rest)) (before_lines octet (lines_of (next ∷ rest)))
    ≡ take (cond (not b) (1 + end_of (next ∷ rest)) 0) (octet ∷ next ∷ rest) ∷ lines_of (drop (cond (not b) (1 + end_of (next ∷ rest)) 0 + 1) (octet ∷ next ∷ rest)))
    [ true ↦ refl | false ↦ before octet (end_of (next ∷ rest)) (next ∷ rest) (lines_of (next ∷ rest)) (first_line (next ∷ rest) (omega arith)) ]

pub line_at : (text : List ℕ) (k : ℕ) → Some k ≡ position (λ octet. octet == 10) text → 0 < length text
    → lines_of text ≡ take k text ∷ lines_of (take (length text - (k + 1)) (drop (k + 1) text))
line_at text k found some =
    let line = first_line text some in
    let rest : take (length text - (k + 1)) (drop (k + 1) text) ≡ drop (k + 1) text = take_all (length text - (k + 1)) (drop (k + 1) text) (omega (arith, length-drop (k + 1) text)) in
    rw rest (grind (arith, common_steps, line))

pub last_line : (text : List ℕ) → None ≡ position (λ octet. octet == 10) text → 0 < length text → lines_of text ≡ text ∷ []
last_line text found some = let line = first_line text some in grind (arith, common_steps, line)

-- a turn that gave the first of the lines left
pub goes : (can : List (List ℕ) → Type 0) → ((l : List (List ℕ)) → can l) → (before after : List (List ℕ)) (line : Bor (List ℕ)) → before ≡ line.now ∷ after
    → MakesProgress can (item_count (λ rest. rest)) before (Some line) after
goes can always before after line same = record {
  on = λ _. (always after, tt, subst (λ l. length after < length l) (sym same) (omega arith));
  keeps = always after;
  rests = λ _. tt;
}

pub not_empty : (text : List ℕ) (r : Bool) → r ≡ (length text == 0) → r ≡ false → 0 < length text
not_empty text r said other = grind (arith, nat_tests)
