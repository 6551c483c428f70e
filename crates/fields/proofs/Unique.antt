-- Of every public function: two results that meet its contract are equal; of a slice that is given back, its octets, and of a buffer that
-- is written, also what stands in it at the end. Each contract is an equation with a definition.
use mathlib.Core.Path.{sym, ap, ◌∙◌}
use Rattle.std.specs.Prelude.{is_ok}
use Rattle.laws.specs.Decides.{Decides, DecidesSeen, DecidesMemory}
use Rattle.fields.proofs.parts.first_field.Reads as first_field
use Rattle.fields.proofs.numbers.read_number.Reads as read_number
use Rattle.fields.proofs.numbers.digits.Reads as digits
use Rattle.fields.proofs.calls.read_call.Reads as read-call
use Rattle.fields.proofs.Fault.field.Reads as field
use Rattle.fields.proofs.read_fields.Reads as read-fields
use Rattle.fields.proofs.write_fields.Reads as write-fields
use Rattle.fields.proofs.fields_length.Reads as fields-length

pub first_field_decided : DecidesSeen first_field.Post (λ κ x. x.now)
first_field_decided κ a x y d e p q = p ∙ sym q

pub read_number_decided : Decides read_number.Post
read_number_decided κ a x y d e p q = p ∙ sym q

pub digits_decided : Decides digits.Post
digits_decided κ a x y d e p q = p ∙ sym q

pub read_call_decided : Decides read-call.Post
read_call_decided κ a x y d e p q = p ∙ sym q

pub field_decided : Decides field.Post
field_decided κ a x y d e p q = p ∙ sym q

pub read_fields_decided : Decides read-fields.Post
read_fields_decided κ a x y d e p q = p ∙ sym q

-- and whether there is a fault
pub is_none_decided : DecidesSeen read-fields.Post (λ κ x. is_ok x)
is_none_decided κ a x y d e p q = ap (λ r. is_ok r) (p ∙ sym q)

pub write_fields_decided : DecidesMemory write-fields.Post (λ κ d. d.0.now)
write_fields_decided κ a x y d e p q = (p.0 ∙ sym q.0, p.1 ∙ sym q.1)

pub fields_length_decided : Decides fields-length.Post
fields_length_decided κ a x y d e p q = p ∙ sym q
