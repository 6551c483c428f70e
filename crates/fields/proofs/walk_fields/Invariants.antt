-- The walk through the whole line is the walk from the field that the turn stands at, with the values and the call so far; while fields are
-- missing there is a tab for each.
use Rattle.std.proofs.Common.{◌≡◌, ◌+◌, ◌<◌, ◌≤◌, length, drop}
use Rattle.table.specs.Places.{no_call}
use Rattle.fields.specs.Parts.{tabs}
use Rattle.fields.specs.Line.{most_fields, no_values, walk}
use Rattle.fields.proofs.walk_fields.Given as goal

abbrev pub invariant-loop-i : goal.invariant-loop-i
invariant-loop-i l =
    (l.i ≤ length l.description) × (length l.values ≡ most_fields)
    × (l.i < length l.description → (l.at ≤ length l.line) × (tabs (drop l.at l.line) + (l.i + 1) ≡ length l.description))
    × (walk (drop l.i l.description) l.i (drop l.at l.line) l.values l.call ≡ walk l.description 0 l.line no_values no_call)
