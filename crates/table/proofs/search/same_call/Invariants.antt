-- The two calls are compared octet by octet from the last on: those that were passed agree.
use Rattle.std.proofs.Common.{◌≡◌, ◌≤◌, true, drop}
use Rattle.table.specs.Search.{same_call}
use Rattle.table.proofs.search.same_call.Given as goal

abbrev pub invariant-loop-i : goal.invariant-loop-i
invariant-loop-i l = (l.i ≤ 16) × (same_call (drop l.i l.a) (drop l.i l.b) ≡ true)
