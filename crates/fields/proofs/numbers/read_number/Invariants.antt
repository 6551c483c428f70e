-- The number of the whole is the value so far, read on through the rest.
use Rattle.std.proofs.Common.{◌≡◌, ◌≤◌, drop}
use Rattle.fields.specs.Numbers.{number_of, digits_from}
use Rattle.fields.proofs.numbers.read_number.Given as goal

abbrev pub invariant-loop-x : goal.invariant-loop-x
invariant-loop-x l = (l.v ≤ l.most) × (digits_from l.most l.v (drop l.x-index l.part) ≡ number_of l.part l.most)
