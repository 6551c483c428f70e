-- The records and the ranks are those of the definition, index by index (`made_from`).
use Rattle.std.proofs.Common.{◌≡◌, ℕ, ◌<◌, get_or, refl, sym, ◌∙◌, ext_get_or, rules, arith}
use Rattle.table.specs.Places.{place_count, blank, record_at, rank_at}
use Rattle.image.specs.Image.{rank_octet, table_from}
use Rattle.image.proofs.Round.{size_from, wide_from, rank_at_lem}
use Rattle.lent.proofs.Made.{made_from}
use Rattle.lent.proofs.places.read_places.Goals as goal

pub returns : goal.returns
returns c =
    let s = c.args.image.now in
    let t = table_from s in
    let records : (k : ℕ) → k < place_count → get_or c.from_fn.result k blank ≡ record_at t k =
    λ k h. made_from _ _ (record_at t) c.from_fn.result blank place_count (λ j low y q r. search rules) place_count 0 (omega arith) _ refl c.from_fn.ensures.items.each k (omega arith) h in
    let ranks : (k : ℕ) → k < place_count → get_or c.from_fn-2.result k 0 ≡ rank_at t k =
    λ k h. made_from _ _ (rank_octet s) c.from_fn-2.result 0 place_count (λ j low y q r. search rules) place_count 0 (omega arith) _ refl c.from_fn-2.ensures.items.each k (omega arith) h ∙ sym (rank_at_lem s k h) in
    let places = ext_get_or blank c.from_fn.result t.places (c.from_fn.ensures.items.long ∙ sym (size_from s)) (λ k h. records k (omega (arith, c.from_fn.ensures.items.long))) in
    let all = ext_get_or 0 c.from_fn-2.result t.ranks (c.from_fn-2.ensures.items.long ∙ sym (wide_from s)) (λ k h. ranks k (omega (arith, c.from_fn-2.ensures.items.long))) in
    λ j. record { places = places j; ranks = all j }
