-- What is found is the lowest place that holds the call (`found_lowest`).
use Rattle.std.proofs.Common.{◌≡◌, true, false, ap, arith, rules}
use borrow.Author.Tests.{tests}
use Rattle.std.proofs.lemmas.Iterator.{first_from_Range}
use Rattle.table.specs.Places.{place_count}
use Rattle.table.specs.Search.{holds}
use Rattle.image.specs.Image.{record_in, table_from}
use Rattle.image.proofs.Round.{size_from, record_at_lem}
use Rattle.lent.proofs.Found.{found_lowest}
use Rattle.lent.proofs.search.find_call.Goals as goal

pub returns : goal.returns
returns c =
    let s = c.args.image.now in
    let call = c.args.call.now in
    found_lowest (table_from s) (size_from s) (λ k. holds call) (λ k. holds call (record_in s k)) 0 place_count (omega arith)
    (λ k low high. ap (holds call) (record_at_lem s k high))
    (λ k less. absurd (omega arith))
    (λ k past less. absurd (omega arith))
    c.find.result
    (first_from_Range _ _ _ c.find.result (λ k. holds call (record_in s k) ≡ true) (λ k. holds call (record_in s k) ≡ false) c.find.ensures.ran
    (λ x q k. search (rules, tests)) (λ x q k. search (rules, tests)))
