-- The ranks of the places passed are lowered.
use Rattle.std.proofs.Common.{◌≡◌}
use Rattle.image.specs.Image.{closed_up_in}
use Rattle.lent.proofs.ranks.close_up.Given as goal

abbrev pub invariant-loop-j : goal.invariant-loop-j
invariant-loop-j l = l.image ≡ closed_up_in l.fn.a l.k l.j l.initial.image
