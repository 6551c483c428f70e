-- Empty lists (`entered_none`).
use Rattle.image.proofs.Buckets.{entered_none}
use Rattle.lent.proofs.buckets.Buckets.none.Goals as goal

pub returns : goal.returns
returns c s = entered_none s
