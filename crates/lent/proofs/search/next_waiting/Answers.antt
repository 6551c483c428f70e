-- What is found below i is what the definition finds there. A place that does not wait changes nothing, and places of the other side do not wait
-- on this one (`earliest_rest`).
use Rattle.std.proofs.Common.{◌≡◌, ℕ, ◌≤◌, Bool, false, cond, Option, eqb, sym, ap, ◌∙◌, inl, inr, arith, eq-eqb, ne_eqb}
use Rattle.table.specs.declared.Side.{Side}
use Rattle.table.specs.declared.Table.{Table}
use Rattle.table.specs.Places.{state_number, waiting_on, side_at, record_at, place_count, first_index, end_index}
use Rattle.table.specs.Search.{is_at}
use Rattle.table.specs.Ranks.{earlier, earliest}
use Rattle.table.proofs.Sides.{other_side, side_inside, side_outside, end_inside}
use Rattle.table.proofs.RankLaws.{found_below, earliest_none, earliest_more, earliest_rest}
use Rattle.image.specs.Image.{table_from, state_octet}
use Rattle.image.proofs.PlaceLaws.{waits_octet}
use Rattle.lent.proofs.search.next_waiting.Goals as goal
use Rattle.lent.proofs.search.next_waiting.Goals.{then-image-i, else-image-i}

-- no place of the other side waits on this one
idle : (t : Table) (a : Side) (j : ℕ) → (side_at j ≡ a → ⊥) → is_at a (waiting_on a) j (record_at t j) ≡ false
idle t a j other = rw (other_side (side_at j) a other)

pub loop-i-init : goal.loop-i-init
loop-i-init c =
    let a = c.args.a in
    let t = table_from c.args.image.now in
    let none = earliest_rest t a 0 (first_index a) (omega arith) (λ j low high. idle t a j (side_outside a j (omega (arith, high, end_inside a)) (inl high))) in
    sym (ap (earliest t a) c.first-i.ensures ∙ none ∙ earliest_none t a)

pub earlier_of-found-requires : goal.earlier_of-found-requires
earlier_of-found-requires c =
    let a = c.args.a in
    let t = table_from c.args.image.now in
    let high : (c.end-i-end.result ≡ end_index a) × (end_index a ≤ place_count) = (c.end-i-end.ensures, (end_inside a).1) in (
      omega (arith, high),
      λ i e. let low = found_below t a c.loop-i.i i (sym c.loop-i.invariant ∙ e) in omega (arith, low, high),
    )

pub loop-i-preserved : goal.loop-i-preserved
loop-i-preserved c =
    let a = c.args.a in
    let s = c.args.image.now in
    let t = table_from s in
    let i = c.loop-i.i in
    let high : (c.end-i-end.result ≡ end_index a) × (end_index a ≤ place_count) = (c.end-i-end.ensures, (end_inside a).1) in
    let so_far = c.loop-i.invariant in
    let before = earliest t a i in
    let inside = side_inside a i (omega (arith, c.first-i.ensures)) (omega (arith, high)) in
    let number = c.from-waiting.ensures ∙ ap state_number c.waiting.ensures in
    let test : is_at a (waiting_on a) i (record_at t i) ≡ eqb (state_octet s i) c.from-waiting.result =
    waits_octet s a i (omega (arith, high)) inside ∙ ap (eqb (state_octet s i)) (sym number) in
    let by : Bool → Option ℕ = λ b. cond b (earlier t i before) before in
    elim c.if-image-i.branch [
      | then-image-i w ↦ w.found-is ∙ w.earlier_of-found.ensures ∙ ap (earlier t i) so_far ∙ ap by (sym (test ∙ eq-eqb _ _ w.if-image-i.true)) ∙ sym (earliest_more t a i)
      | else-image-i w ↦ w.found-is ∙ so_far ∙ ap by (sym (test ∙ ne_eqb _ _ w.if-image-i.false)) ∙ sym (earliest_more t a i)
    ]

pub returns : goal.returns
returns c =
    let a = c.args.a in
    let t = table_from c.args.image.now in
    let high : (c.end-i-end.result ≡ end_index a) × (end_index a ≤ place_count) = (c.end-i-end.ensures, (end_inside a).1) in
    let all : c.loop-i.i ≡ end_index a = omega (arith, c.first-i.ensures, high, (end_inside a).0) in
    let rest = earliest_rest t a (end_index a) place_count high.1 (λ j low less. idle t a j (side_outside a j less (inr low))) in
    c.loop-i.invariant ∙ ap (earliest t a) all ∙ sym rest
