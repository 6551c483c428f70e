-- The octets counted and those of the line from the field on are those of the whole line.
use Rattle.std.proofs.Common.{◌≡◌, ◌+◌, ◌*◌, ◌≤◌, length, drop}
use Rattle.table.specs.Places.{no_call}
use Rattle.fields.specs.Line.{line_from}
use Rattle.fields.proofs.fields_length.Given as goal

abbrev pub invariant-loop-i : goal.invariant-loop-i
invariant-loop-i l =
    (l.n ≤ 33 * l.i)
    × (l.n + length (line_from (drop l.i l.fn.description) l.i l.values no_call) ≡ length (line_from l.fn.description 0 l.values no_call))
