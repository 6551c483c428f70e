-- The tabs counted and those of the rest are those of the whole.
use Rattle.std.proofs.Common.{◌≡◌, ◌+◌, ◌≤◌, drop}
use Rattle.fields.specs.Parts.{tabs}
use Rattle.fields.proofs.parts.count_tabs.Given as goal

abbrev pub invariant-loop-x : goal.invariant-loop-x
invariant-loop-x l = (l.n ≤ l.x-index) × (l.n + tabs (drop l.x-index l.s) ≡ tabs l.s)
