-- Of every public function: two results that meet its contract are equal, since each contract is an equation with a definition.
use mathlib.Core.Path.{sym, ◌∙◌}
use Rattle.laws.specs.Decides.{Decides}
use Rattle.phones.proofs.parking.step_at.Reads as parking-step
use Rattle.phones.proofs.parked.step_at.Reads as parked-step

pub parking_step_decided : Decides parking-step.Post
parking_step_decided κ a x y d e p q = p ∙ sym q

pub parked_step_decided : Decides parked-step.Post
parked_step_decided κ a x y d e p q = p ∙ sym q
