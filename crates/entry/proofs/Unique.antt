-- Both functions are decided: two runs that meet the contract of `park_step` give the same count and leave the same image and the same answer
-- buffer, and two that meet that of `park_bad_field` give the same field.
use mathlib.Core.Path.{sym, ◌∙◌}
use mathlib.Core.List.{List}
use Prim.Native.Nat.{ℕ}
use Rattle.laws.specs.Decides.{Decides, DecidesMemory}
use Rattle.entry.proofs.park_step.Reads as park-step
use Rattle.entry.proofs.park_bad_field.Reads as park-bad-field

-- what is left in the two buffers that may be written
pub record Left : Type 0 where
  pub image : List ℕ
  pub answer : List ℕ

pub park_step_decided : DecidesMemory {M = Left} park-step.Post (λ κ d. record { image = d.0.now; answer = d.1.1.0.now })
park_step_decided κ a x y d e p q = (
  p.0 ∙ sym q.0,
  λ i. record { image = (p.1 ∙ sym q.1) i; answer = (p.2 ∙ sym q.2) i },
)

pub park_bad_field_decided : Decides park-bad-field.Post
park_bad_field_decided κ a x y d e p q = p ∙ sym q
