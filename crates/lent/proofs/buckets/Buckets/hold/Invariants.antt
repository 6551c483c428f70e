-- A walk through the places of a bucket, from the last one down.
use Rattle.image.proofs.Buckets.{Walk}
use Rattle.lent.proofs.buckets.Buckets.hold.Given as goal

abbrev pub invariant-loop-k : goal.invariant-loop-k
invariant-loop-k l = Walk l.image l.i l.next

abbrev pub decreases-loop-k : goal.decreases-loop-k
decreases-loop-k l = l.next
