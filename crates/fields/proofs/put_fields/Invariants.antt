-- What is to be written from the field on makes the whole line of what is written; a turn writes a field and the tab after it.
use Rattle.std.proofs.Common.{◌≡◌, ◌+◌, length, drop}
use Rattle.std.proofs.lemmas.List.Edits.{sets}
use Rattle.fields.specs.Line.{line_from}
use Rattle.fields.proofs.put_fields.Given as goal

abbrev pub invariant-loop-i : goal.invariant-loop-i
invariant-loop-i l =
    (l.p + length (line_from (drop l.i l.fn.description) l.i l.values l.call) ≡ length (line_from l.fn.description 0 l.values l.call))
    × (sets l.out l.p (line_from (drop l.i l.fn.description) l.i l.values l.call) ≡ sets l.initial.out 0 (line_from l.fn.description 0 l.values l.call))
