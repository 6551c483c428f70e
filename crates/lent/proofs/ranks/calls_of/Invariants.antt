-- The calls so far and those of the places that are left are all.
use Rattle.std.proofs.Common.{◌≡◌, ℕ, ◌+◌, ◌≤◌, List, drop}
use Rattle.table.specs.declared.Side.{Side}
use Rattle.table.specs.Search.{total}
use Rattle.table.specs.Ranks.{held_on, calls_on}
use Rattle.image.specs.Image.{table_from}
use Rattle.lent.proofs.ranks.calls_of.Given as goal

-- the calls of a side from i on
abbrev pub left_on : Side → List ℕ → ℕ → ℕ
left_on a s i = total (held_on a) i (drop i (table_from s).places)

abbrev pub invariant-loop-i : goal.invariant-loop-i
invariant-loop-i l = (l.calls ≤ l.i) × (calls_on (table_from l.image) l.fn.a ≡ l.calls + left_on l.fn.a l.image l.i)
