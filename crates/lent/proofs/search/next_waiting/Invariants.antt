-- What was found is the earliest of the places passed.
use Rattle.std.proofs.Common.{◌≡◌}
use Rattle.table.specs.Ranks.{earliest}
use Rattle.image.specs.Image.{table_from}
use Rattle.lent.proofs.search.next_waiting.Given as goal

abbrev pub invariant-loop-i : goal.invariant-loop-i
invariant-loop-i l = l.found ≡ earliest (table_from l.image) l.fn.a l.i
