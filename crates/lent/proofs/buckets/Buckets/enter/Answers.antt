-- A free place changes nothing; an occupied one becomes the last of its bucket, if none before it has its call.
use Rattle.image.proofs.Buckets.{enter_free, enter_busy}
use Rattle.lent.proofs.buckets.Buckets.enter.Goals as goal

pub returns-then-image-at-eq0-clause-entered : goal.returns-then-image-at-eq0-clause-entered
returns-then-image-at-eq0-clause-entered c e = enter_free c.requires.1 c.if-image-at-eq0.true

pub returns-clause-entered : goal.returns-clause-entered
returns-clause-entered c e =
    enter_busy c.requires.1 c.bucket-h.ensures.0 c.bucket-h.ensures.1 c.requires.0 c.if-image-at-eq0.false (c.hold.ensures.apart c.if-hold.false)
