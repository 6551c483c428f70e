-- What is found is the lowest free place (`found_lowest`); places of the other side are none of this one's.
use Rattle.std.proofs.Common.{◌≡◌, ℕ, Bool, true, false, eqb, sym, ap, ◌∙◌, inl, inr, arith, rules}
use borrow.Author.Tests.{tests}
use Rattle.std.proofs.lemmas.Iterator.{first_from_Range}
use Rattle.table.specs.declared.State.TheVariants.{Free}
use Rattle.table.specs.Places.{side_at, record_at}
use Rattle.table.specs.Search.{is_at}
use Rattle.table.proofs.Sides.{other_side, end_inside, side_inside, side_outside}
use Rattle.image.specs.Image.{state_octet, table_from}
use Rattle.image.proofs.Round.{size_from, record_at_lem}
use Rattle.image.proofs.PlaceLaws.{free_at}
use Rattle.lent.proofs.Found.{found_lowest}
use Rattle.lent.proofs.search.lowest_free.Goals as goal

pub returns : goal.returns
returns c =
    let s = c.args.image.now in
    let a = c.args.a in
    let t = table_from s in
    let other : (k : ℕ) → (side_at k ≡ a → ⊥) → is_at a Free k (record_at t k) ≡ false = λ k h. rw (other_side (side_at k) a h) in
    let room = end_inside a in
    let test : ℕ → Bool = λ k. eqb (state_octet s k) c.from-free.result in
    found_lowest t (size_from s) (is_at a Free) test c.first.result c.end.result (omega (arith, c.end.ensures, room.1))
    (λ k low high. ap (is_at a Free k) (record_at_lem s k (omega (arith, c.end.ensures, room.1)))
    ∙ free_at s a k (side_inside a k (omega (arith, c.first.ensures)) (omega (arith, c.end.ensures)))
    ∙ ap (eqb (state_octet s k)) (sym c.from-free.ensures))
    (λ k less. other k (side_outside a k (omega (arith, c.first.ensures, room)) (inl (omega (arith, c.first.ensures)))))
    (λ k past less. other k (side_outside a k less (inr (omega (arith, c.end.ensures)))))
    c.find.result
    (first_from_Range _ _ _ c.find.result (λ k. test k ≡ true) (λ k. test k ≡ false) c.find.ensures.ran (λ x q k. search (rules, tests)) (λ x q k. search (rules, tests)))
