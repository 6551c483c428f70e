-- The ranks of the places below j are lowered, and those from j on are as they were; places of the other side keep theirs (`closed_rest`).
use Rattle.std.proofs.Common.{◌≡◌, ℕ, ◌≤◌, List, set, sym, ap, ◌∙◌, ap₂, inl, inr, arith}
use Rattle.table.specs.Places.{place_count, first_index, end_index}
use Rattle.table.specs.Ranks.{lowered}
use Rattle.table.proofs.RankLaws.{lowered_beside}
use Rattle.table.proofs.Sides.{side_inside, side_outside, end_inside}
use Rattle.image.specs.Image.{rank_index, rank_octet, closed_up_in}
use Rattle.image.proofs.Puts.{closed_none, closed_more, closed_above, closed_rest}
use Rattle.lent.proofs.ranks.close_up.Goals as goal

pub loop-j-init : goal.loop-j-init
loop-j-init c =
    let s = c.args in
    let none = closed_rest s.a s.k s.image.now 0 (first_index s.a) (omega arith) (λ j low high. side_outside s.a j (omega (arith, high, end_inside s.a)) (inl high)) in
    sym (ap (λ (n : ℕ). closed_up_in s.a s.k n s.image.now) c.first-j.ensures ∙ none ∙ closed_none s.a s.k s.image.now)

pub loop-j-preserved : goal.loop-j-preserved
loop-j-preserved c =
    let s = c.args in
    let j = c.loop-j.j in
    let high : (c.end-j-end.result ≡ end_index s.a) × (end_index s.a ≤ place_count) = (c.end-j-end.ensures, (end_inside s.a).1) in
    let so_far = c.loop-j.invariant in
    let same = ap (λ (l : List ℕ). rank_octet l j) so_far ∙ closed_above s.a s.k s.image.now j j (omega arith) in
    let beside = lowered_beside s.a s.k j (rank_octet c.loop-j.image j) (side_inside s.a j (omega (arith, c.first-j.ensures)) (omega (arith, high))) in
    ap₂ (λ (l : List ℕ) (x : ℕ). set l (rank_index j) x) so_far (c.move_up.ensures ∙ sym beside ∙ ap (lowered s.a s.k j) same)
    ∙ sym (closed_more s.a s.k s.image.now j)

pub returns : goal.returns
returns c =
    let s = c.args in
    let high : (c.end-j-end.result ≡ end_index s.a) × (end_index s.a ≤ place_count) = (c.end-j-end.ensures, (end_inside s.a).1) in
    let all : c.loop-j.j ≡ end_index s.a = omega (arith, c.first-j.ensures, high, (end_inside s.a).0) in
    let rest = closed_rest s.a s.k s.image.now (end_index s.a) place_count high.1 (λ j low less. side_outside s.a j less (inr low)) in
    c.loop-j.invariant ∙ ap (λ (n : ℕ). closed_up_in s.a s.k n s.image.now) all ∙ sym rest
