-- Each sum so far and the sum of what is left are the whole; a place adds at most 3, so no sum wraps.
use Rattle.std.proofs.Common.{◌≡◌, ℕ, ◌+◌, ◌*◌, ◌≤◌, List, drop}
use Rattle.table.specs.declared.Record.{Record}
use Rattle.table.specs.declared.Side.TheVariants.{Position, Line}
use Rattle.table.specs.Search.{total}
use Rattle.table.specs.Status.{free_on, waits_at, running_at}
use Rattle.image.specs.Image.{table_from}
use Rattle.lent.proofs.status.tally.Given as goal

-- the sum of the places from i on
abbrev pub left : (ℕ → Record → ℕ) → List ℕ → ℕ → ℕ
left f s i = total f i (drop i (table_from s).places)

abbrev pub invariant-loop-i : goal.invariant-loop-i
invariant-loop-i l =
    (l.sums.positions ≤ 3 * l.i)
    × (l.sums.lines ≤ 3 * l.i)
    × (l.sums.waiting ≤ 3 * l.i)
    × (l.sums.timers ≤ 3 * l.i)
    × (left (free_on Position) l.image 0 ≡ l.sums.positions + left (free_on Position) l.image l.i)
    × (left (free_on Line) l.image 0 ≡ l.sums.lines + left (free_on Line) l.image l.i)
    × (left waits_at l.image 0 ≡ l.sums.waiting + left waits_at l.image l.i)
    × (left running_at l.image 0 ≡ l.sums.timers + left running_at l.image l.i)
