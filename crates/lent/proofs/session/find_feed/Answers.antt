-- The octets before the first feed are what is looked past (`index_from_first`).
use Rattle.std.proofs.Common.{◌≡◌, ℕ, List, length, drop, refl, sym, ap, ◌∙◌, arith, rules, eq-eqb, ne_eqb, add-one, length-drop}
use Rattle.std.specs.Option.{unwrap_or}
use borrow.Author.Tests.{tests}
use Rattle.std.proofs.lemmas.Iterator.{YieldsList-from_slice, IsFirst-from_position, index_from_first}
use Rattle.laws.proofs.Runs.{part_rest}
use Rattle.lent.specs.Keep.{until_feed}
use Rattle.lent.proofs.KeepLaws.{until_within}
use Rattle.lent.proofs.session.find_feed.Goals as goal

pub returns : goal.returns
returns c =
    let rest : List ℕ = drop c.args.from c.args.piece.now in
    let looked = IsFirst-from_position _ _ _ (λ x. x ≡ 10) (λ x. x ≡ 10 → ⊥) c.position.ensures.ran
    (YieldsList-from_slice rest (c.iter.ensures.rest ∙ part_rest c.args.piece.now c.args.from))
    (λ x q k. search (rules, tests)) (λ x q k. search (rules, tests)) in
    let first : until_feed rest ≡ unwrap_or c.position.result (length rest) =
    index_from_first until_feed (λ x. x ≡ 10) (λ x. x ≡ 10 → ⊥) refl (λ x xs h. rw (eq-eqb x 10 h)) (λ x xs h. rw (ne_eqb x 10 h) (sym (add-one (until_feed xs)))) rest c.position.result looked in
    let count : c.unwrap_or.result ≡ until_feed rest =
    c.unwrap_or.ensures ∙ ap (λ (l : List ℕ). unwrap_or c.position.result (length l)) (part_rest c.args.piece.now c.args.from) ∙ sym first in
    (omega arith, omega (arith, until_within rest, length-drop c.args.from c.args.piece.now))
