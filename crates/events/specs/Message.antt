-- The messages (document 01, "Messages: .."): what each fills of an answer, one line each.
use Rattle.std.specs.Prelude.{ℕ, Option, Some, None}
use Rattle.table.specs.declared.Connection.{Connection}
use Rattle.table.specs.declared.Invoke.{Invoke}
use Rattle.table.specs.Places.{no_connection, no_invoke}
use Rattle.events.specs.declared.message.Message.{Message}
use Rattle.events.specs.declared.message.Message.TheVariants.{ParkResult, ParkError, Connect, Facility, PickResult, PickError, ReleaseComplete}
use Rattle.events.specs.declared.message.Sent.{Sent}
use Rattle.events.specs.declared.message.ErrorValue.{ErrorValue}
use Rattle.events.specs.declared.message.ErrorValue.TheVariants.{Undefined, CallAlreadyPickedUp}

-- "Errors (house numbers): 0 none, 1 undefined, 2 callAlreadyPickedUp."
abbrev pub error_number : ErrorValue → ℕ
error_number Undefined = 1
error_number CallAlreadyPickedUp = 2

-- the fields of an answer that a message fills: its number, connection, invoke and error
abbrev pub fields : ℕ → Connection → Invoke → ℕ → Sent
fields message connection invoke error = record { message = message; connection = connection; invoke = invoke; error = error }

-- "0 none; 1 PROGRESS with cpSetup Return Result; 2 cpSetup Return Error; 3 CONNECT with pickup Invoke; 4 FACILITY with pickup
-- Invoke; 5 pickrequ Return Result; 6 pickrequ Return Error; 7 RELEASE COMPLETE on the held call". "Connection, the picker's, is set only with
-- messages 5 and 6, invoke, the count, only with 3 and 4." "Message 2 carries 1. Message 6 carries 1, but 2 with refusal 7."
abbrev pub sent : Option Message → Sent
sent None = fields 0 no_connection no_invoke 0
sent (Some ParkResult) = fields 1 no_connection no_invoke 0
sent (Some ParkError) = fields 2 no_connection no_invoke (error_number Undefined)
sent (Some (Connect n)) = fields 3 no_connection n 0
sent (Some (Facility n)) = fields 4 no_connection n 0
sent (Some (PickResult c)) = fields 5 c no_invoke 0
sent (Some (PickError c x)) = fields 6 c no_invoke (error_number x)
sent (Some ReleaseComplete) = fields 7 no_connection no_invoke 0
