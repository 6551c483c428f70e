-- A place adds at most 1, and places of the other side none.
use Rattle.std.proofs.Common.{◌≡◌, ℕ, ◌≤◌, cond, not, eqb, List, ap, ◌∙◌, arith}
use Rattle.table.specs.Places.{place_count, end_index}
use Rattle.table.specs.Ranks.{held_on}
use Rattle.table.proofs.Laws.{one_or_none}
use Rattle.table.proofs.Sides.{end_inside, side_inside}
use Rattle.image.specs.Image.{state_octet}
use Rattle.image.proofs.PlaceLaws.{counted}
use Rattle.image.proofs.Looks.{total_place, calls_first, calls_last}
use Rattle.lent.proofs.ranks.calls_of.Invariants.{left_on}
use Rattle.lent.proofs.ranks.calls_of.Goals as goal

few : (s : List ℕ) (i n : ℕ) → n ≡ cond (not (eqb (state_octet s i) 0)) 1 0 → n ≤ 1
few s i n e = rw e (one_or_none (not (eqb (state_octet s i) 0)))

pub loop-i-init : goal.loop-i-init
loop-i-init c = (omega arith, rw c.first-i.ensures (omega (arith, calls_first c.args.image.now c.args.a)))

pub loop-i-preserved : goal.loop-i-preserved
loop-i-preserved c =
    let a = c.args.a in
    let s = c.args.image.now in
    let i = c.loop-i.i in
    let room : (c.end-i-end.result ≡ end_index a) × (end_index a ≤ place_count) = (c.end-i-end.ensures, (end_inside a).1) in
    let here = counted s a i (side_inside a i (omega (arith, c.first-i.ensures)) (omega (arith, room))) in (
      omega (arith, few s i _ c.held-calls.ensures),
      omega (arith, c.held-calls.ensures, here, total_place s i (held_on a) (omega (arith, room))),
    )

pub returns : goal.returns
returns c =
    let a = c.args.a in
    let s = c.args.image.now in
    let all : c.loop-i.i ≡ end_index a = omega (arith, c.first-i.ensures, c.end-i-end.ensures, (end_inside a).0) in
    let rest : left_on a s c.loop-i.i ≡ 0 = ap (left_on a s) all ∙ calls_last s a in
    omega (arith, rest)
