-- The digits so far are those of the octets passed; a turn writes two more.
use Rattle.std.proofs.Common.{◌≡◌, take}
use Rattle.std.proofs.lemmas.List.Edits.{sets}
use Rattle.fields.specs.Calls.{hex_of}
use Rattle.fields.proofs.calls.put_call.Given as goal

abbrev pub invariant-loop-i : goal.invariant-loop-i
invariant-loop-i l = l.out ≡ sets l.initial.out 0 (hex_of (take l.i l.fn.call))
