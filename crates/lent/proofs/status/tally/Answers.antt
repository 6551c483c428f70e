-- What a place adds to each sum.
use Rattle.std.proofs.Common.{◌≡◌, ℕ, ◌<◌, ◌≤◌, cond, ◌&&◌, sym, ap, ◌∙◌, ap₂, arith}
use lib.Count.{ones}
use Rattle.table.specs.declared.State.{State}
use Rattle.table.specs.declared.Side.{Side}
use Rattle.table.specs.declared.Side.TheVariants.{Position, Line}
use Rattle.table.specs.Places.{side_at, same_side, is_free, place_count}
use Rattle.table.specs.Timers.{timer_set}
use Rattle.table.specs.Status.{free_on, waits_in, waits_at, running_at}
use Rattle.table.proofs.Laws.{one_or_none, waits_le, ones_few}
use Rattle.image.specs.Image.{record_in}
use Rattle.image.proofs.Looks.{total_place, total_past}
use Rattle.image.proofs.PlaceLaws.{state_in}
use Rattle.lent.proofs.status.tally.Invariants.{left}
use Rattle.lent.proofs.status.tally.Goals as goal

pub loop-i-preserved : goal.loop-i-preserved
loop-i-preserved c =
    let s = c.args.image.now in
    let i = c.loop-i.i in
    let inside : i < place_count = omega arith in
    let side : c.at-a.result ≡ side_at i = c.at-a.ensures in
    let state : c.of-s.result ≡ (record_in s i).state = c.of-s.ensures ∙ sym (state_in s i) in
    let frees : (b : Side) (n : ℕ) → n ≡ cond (same_side c.at-a.result b && is_free c.of-s.result) 1 0 → n ≡ free_on b i (record_in s i) =
    λ b n e. e ∙ ap₂ (λ (a : Side) (x : State). cond (same_side a b && is_free x) 1 0) side state in
    let one : (b : Side) → free_on b i (record_in s i) ≤ 1 = λ b. one_or_none (same_side (side_at i) b && is_free (record_in s i).state) in
    let positions = frees Position _ c.free_on.ensures in
    let lines = frees Line _ c.free_on-in-loop-i.ensures in
    let waits : c.waits_in.result ≡ waits_at i (record_in s i) = c.waits_in.ensures ∙ ap waits_in state in
    let runs : c.running_in.result ≡ running_at i (record_in s i) =
    c.running_in.ensures ∙ ap₂ (λ (a : Side) (x : State). ones (timer_set a x)) side state in (
      omega (arith, positions, one Position),
      omega (arith, lines, one Line),
      omega (arith, c.waits_in.ensures, waits_le c.of-s.result),
      omega (arith, runs, ones_few (side_at i) (record_in s i).state),
      omega (arith, positions, total_place s i (free_on Position) inside),
      omega (arith, lines, total_place s i (free_on Line) inside),
      omega (arith, waits, total_place s i waits_at inside),
      omega (arith, runs, total_place s i running_at inside),
    )

pub returns : goal.returns
returns c =
    let s = c.args.image.now in
    let l = c.loop-i in
    let past : place_count ≤ l.i = omega arith in
    let positions : l.sums.positions ≡ left (free_on Position) s 0 = omega (arith, total_past s l.i (free_on Position) past) in
    let lines : l.sums.lines ≡ left (free_on Line) s 0 = omega (arith, total_past s l.i (free_on Line) past) in
    let waiting : l.sums.waiting ≡ left waits_at s 0 = omega (arith, total_past s l.i waits_at past) in
    let running : l.sums.timers ≡ left running_at s 0 = omega (arith, total_past s l.i running_at past) in
    λ j. record { positions = positions j; lines = lines j; waiting = waiting j; timers = running j }
