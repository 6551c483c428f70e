-- What is left of the piece decides.
use Rattle.std.proofs.Common.{◌≡◌, ◌-◌, length}
use Rattle.image.specs.Image.{is_sound_image}
use Rattle.lent.proofs.Feeds.{Feeding}
use Rattle.lent.proofs.session.feed.Given as goal

abbrev pub invariant-loop-s : goal.invariant-loop-s
invariant-loop-s l = Feeding l.piece l.initial.out l.initial.s l.s l.out l.written l.i × (l.sound ≡ is_sound_image l.s.image)

abbrev pub decreases-loop-s : goal.decreases-loop-s
decreases-loop-s l = length l.piece - l.i
