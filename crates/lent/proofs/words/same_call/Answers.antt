-- Two calls are the same where both their words are, whichever is looked at first; the words are the callee's.
use Rattle.std.proofs.Common.{◌≡◌, ℕ, ◌+◌, ◌<◌, ◌≤◌, Bool, true, false, ◌&&◌, eqb, List, length, take, drop, get_or, sym, refl, ◌∙◌, ap₂, arith, rules, eq-eqb, ne_eqb, eqb-true}
use mathlib.Core.Bool.{and-true, and-false}
use borrow.Author.Tests.{eqb-false}
use Rattle.table.specs.Search.{same_call}
use Rattle.image.specs.Quick.{low_first, run_at}
use Rattle.image.specs.Round.{Octets}
use Rattle.image.proofs.WordLaws.{first_word, second_word, long_call, call_octets_lem, first_differs, second_decides}
use Rattle.lent.proofs.words.same_call.Goals as goal

-- the two words of a call
abbrev front : List ℕ → ℕ
front c = low_first (take 8 c)

abbrev back : List ℕ → ℕ
back c = low_first (drop 8 c)

-- what the code asks, of two calls
by_words : (c d : List ℕ) → length c ≡ 16 → length d ≡ 16 → Octets c → Octets d → (eqb (back c) (back d) && eqb (front c) (front d)) ≡ same_call c d
by_words c d lc ld oc od = by (eqb (front c) (front d)) refl
  where
    by : (t : Bool) → eqb (front c) (front d) ≡ t → (eqb (back c) (back d) && t) ≡ same_call c d
    by true q = and-true (eqb (back c) (back d)) ∙ second_decides c d lc ld oc od (eqb-true (front c) (front d) q)
    by false q = and-false (eqb (back c) (back d)) ∙ sym (first_differs c d (eqb-false (front c) (front d) q))

-- and of the octets where they stand
decides : (x y : List ℕ) (a b : ℕ) → a + 16 ≤ length x → b + 16 ≤ length y → ((j : ℕ) → get_or x j 0 < 256) → ((j : ℕ) → get_or y j 0 < 256)
    → (eqb (run_at 8 x (a + 8)) (run_at 8 y (b + 8)) && eqb (run_at 8 x a) (run_at 8 y b)) ≡ same_call (take 16 (drop a x)) (take 16 (drop b y))
decides x y a b ha hb ox oy =
    ap₂ (λ s t. s && t) (ap₂ eqb (second_word x a) (second_word y b)) (ap₂ eqb (first_word x a) (first_word y b))
    ∙ by_words (take 16 (drop a x)) (take 16 (drop b y)) (long_call x a ha) (long_call y b hb)
    (call_octets_lem x a ha (λ j l. omega (arith, ox j)))
    (call_octets_lem y b hb (λ j l. omega (arith, oy j)))

pub returns-then-word : goal.returns-then-word
returns-then-word c =
    let r = decides c.args.x.now c.args.y.now c.args.a c.args.b (search rules) (search rules) (λ j. search rules) (λ j. search rules) in
    let second = sym (ap₂ eqb c.word.ensures c.word-2.ensures) ∙ eq-eqb _ _ c.if-word.true in
    ap₂ eqb c.word-then-word.ensures c.word-then-word-2.ensures ∙ rw second at r

pub returns-else-word : goal.returns-else-word
returns-else-word c =
    let r = decides c.args.x.now c.args.y.now c.args.a c.args.b (search rules) (search rules) (λ j. search rules) (λ j. search rules) in
    let second = sym (ap₂ eqb c.word.ensures c.word-2.ensures) ∙ ne_eqb _ _ c.if-word.false in
    ne_eqb _ _ c.if-word.false ∙ rw second at r
