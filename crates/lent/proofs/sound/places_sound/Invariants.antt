-- The places passed fit, no two of them hold one call, and their ranks are marked.
use Rattle.std.proofs.Common.{◌≡◌, true}
use Rattle.laws.specs.Lists.{below}
use Rattle.image.specs.Quick.{place_fits}
use Rattle.lent.specs.Passed.{CallsEntered, RanksEntered}
use Rattle.lent.proofs.sound.places_sound.Given as goal

abbrev pub invariant-loop-i : goal.invariant-loop-i
invariant-loop-i l = (below (place_fits l.image) l.i ≡ true) × CallsEntered l.image l.i l.buckets × RanksEntered l.image l.i l.marks
