-- Sixteen zeros are two words of zero, and connection and count are zero where the four octets are.
use Rattle.std.proofs.Common.{◌≡◌, ℕ, ◌+◌, ◌≤◌, eqb, List, length, take, drop, sym, refl, ap, ◌∙◌, ap₂, arith, rules, eq-eqb, ne_eqb}
use Rattle.table.specs.Places.{no_call}
use Rattle.table.specs.Search.{same_call}
use Rattle.image.specs.Image.{record_from}
use Rattle.image.specs.Quick.{run_at}
use Rattle.image.specs.Round.{Octets}
use Rattle.image.proofs.WordLaws.{run_four_zero, first_word, second_word, long_call, call_octets_lem, first_differs, second_decides, zero_octets, first_zero, second_zero}
use Rattle.lent.proofs.sound.all_zeros.Goals as goal

-- past the first test, the second word decides whether the call is zeros
second : (s : List ℕ) (at x y : ℕ) → at + 1 + 16 ≤ length s → Octets s → x ≡ run_at 8 s (at + 1) → x ≡ 0 → y ≡ run_at 8 s (at + 9)
    → eqb y 0 ≡ same_call (take 16 (drop (at + 1) s)) no_call
second s at x y room octets xe none ye =
    let i = at + 1 in
    let ninth : at + 9 ≡ at + 1 + 8 = omega arith in
    let first = sym (xe ∙ first_word s i) ∙ none ∙ sym first_zero in
    ap₂ eqb (ye ∙ ap (run_at 8 s) ninth ∙ second_word s i) (sym second_zero)
    ∙ second_decides (take 16 (drop i s)) no_call (long_call s i room) refl
    (call_octets_lem s i room octets) zero_octets first

pub returns-then-word-ne0 : goal.returns-then-word-ne0
unfolding record_from
returns-then-word-ne0 c =
    let s = c.args.image.now in
    let i = c.args.at + 1 in
    let first = c.word.ensures ∙ first_word s i in
    rw (first_differs (take 16 (drop i s)) no_call (λ e. c.if-word-ne0.true (first ∙ e ∙ first_zero)))

pub returns-then-word-ne0-2 : goal.returns-then-word-ne0-2
unfolding record_from
returns-then-word-ne0-2 c =
    let s = c.args.image.now in
    let decided = second s c.args.at c.word.result c.word-2.result (omega arith) (λ k l. search rules) c.word.ensures c.if-word-ne0.false c.word-2.ensures in
    rw (sym decided ∙ ne_eqb _ 0 c.if-word-ne0-2.true)

pub returns : goal.returns
unfolding record_from
returns c =
    let s = c.args.image.now in
    let at = c.args.at in
    let decided = second s at c.word.result c.word-2.result (omega arith) (λ k l. search rules) c.word.ensures c.if-word-ne0.false c.word-2.ensures in
    let last : at + 17 + 2 ≡ at + 19 = omega arith in
    rw (sym decided ∙ eq-eqb _ 0 c.if-word-ne0-2.false)
    (ap (λ (n : ℕ). eqb n 0) c.quad.ensures ∙ run_four_zero s (at + 17) (omega arith) ∙ rw last)
