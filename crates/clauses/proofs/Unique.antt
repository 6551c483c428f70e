-- Of every public function: two results that meet its contract are equal, since each contract is an equation with a definition.
use mathlib.Core.Path.{sym, ◌∙◌}
use Rattle.laws.specs.Decides.{Decides}
use Rattle.clauses.proofs.wire_error.Reads as wire-error
use Rattle.clauses.proofs.Failure.value.Reads as value
use Rattle.clauses.proofs.U8FromTimer.from.Reads as number
use Rattle.clauses.proofs.U8FromNoStep.from.Reads as no-step

pub wire_error_decided : Decides wire-error.Post
wire_error_decided κ a x y d e p q = p ∙ sym q

pub value_decided : Decides value.Post
value_decided κ a x y d e p q = p ∙ sym q

pub number_decided : Decides number.Post
number_decided κ a x y d e p q = p ∙ sym q

pub no_step_decided : Decides no-step.Post
no_step_decided κ a x y d e p q = p ∙ sym q
