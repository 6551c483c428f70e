-- Kind 7 does what kind 8 does: at every stage, and whether its number is the outstanding one or not.
use Rattle.std.proofs.Common.{◌≡◌, Bool, true, false, refl}
use Rattle.events.specs.declared.turn.Stage.{Stage}
use Rattle.events.specs.declared.turn.Stage.TheVariants.{Waits, AskedHere, AskedFrom, Taken}
use Rattle.events.specs.Turn.{released, failed_in_release}

pub error_in_release : (s : Stage) (right : Bool) → failed_in_release s right ≡ released s
error_in_release Waits right = refl
error_in_release AskedHere true = refl
error_in_release AskedHere false = refl
error_in_release (AskedFrom c) true = refl
error_in_release (AskedFrom c) false = refl
error_in_release Taken right = refl
