-- The event line (document 01, "Event line: the seven fields above in that order, parted by tabs."): its description, an event in its fields, the two
-- things that are taken from a line, its event or its refusal of 21 to 24 and its first bad field, and how an event is written.
use Rattle.std.specs.Prelude.{cond, List, [], ◌∷◌, ℕ, eqb, get_or, Result, Ok, Err}
use Rattle.events.specs.declared.Event.{Event}
use Rattle.table.specs.Places.{no_call}
use Rattle.fields.specs.declared.Kind.{Kind}
use Rattle.fields.specs.declared.Kind.TheVariants.{Call, Number}
use Rattle.fields.specs.declared.Fault.{Fault}
use Rattle.fields.specs.declared.Fault.TheVariants as fault
use Rattle.fields.specs.declared.Fields.{Fields}
use Rattle.fields.specs.Line.{read_fields, fault_field, line_of}
use Rattle.lines.specs.declared.BadLine.{BadLine}
use Rattle.lines.specs.declared.BadLine.TheVariants.{TooLong, WrongCount, BadNumber, BadCall}

-- ---- the description

-- kind, call, place, choice, connection, invoke, timer: "Ranges: kind, choice, timer 0 to 255; place, connection, invoke 0 to 65,535."
abbrev pub event_fields : List Kind
event_fields = Number 255 ∷ Call ∷ Number 65535 ∷ Number 255 ∷ Number 65535 ∷ Number 65535 ∷ Number 255 ∷ []

-- "line longer than 62 octets"
abbrev pub longest_event : ℕ
longest_event = 62

-- ---- an event in its fields

-- an event of its seven fields
abbrev pub event_of : ℕ → List ℕ → ℕ → ℕ → ℕ → ℕ → ℕ → Event
event_of kind call place choice connection invoke timer = record {
  kind = kind;
  call = call;
  place = record { 0 = place };
  choice = choice;
  connection = record { 0 = connection };
  invoke = record { 0 = invoke };
  timer = timer;
}

abbrev pub event_in : Fields → Event
event_in f =
    let v : ℕ → ℕ = λ i. get_or f.values i 0 in
    event_of (v 0) f.call (v 2) (v 3) (v 4) (v 5) (v 6)

-- and its values, each at its field's index
abbrev pub event_values : Event → List ℕ
event_values e =
    e.kind ∷ 0 ∷ e.place.0 ∷ e.choice ∷ e.connection.0 ∷ e.invoke.0 ∷ e.timer ∷ 0 ∷ 0 ∷ 0 ∷ 0 ∷ 0 ∷ 0 ∷ 0 ∷ []

abbrev pub fields_of_event : Event → Fields
fields_of_event e = record { values = event_values e; call = e.call }

-- ---- what a line says, and what is taken from it: the event or the refusal, and the first bad field

unfoldable pub reading : List ℕ → Result Fields Fault
reading s = read_fields longest_event event_fields s

-- of the seven fields the second is the call
abbrev pub bad_line : Fault → BadLine
bad_line fault.TooLong = TooLong
bad_line fault.WrongCount = WrongCount
bad_line (fault.BadField i) = cond (eqb i 2) BadCall BadNumber

-- 21 and 22; 23 "first bad field is a number", 24 "first bad field is the call"
abbrev pub refusal_number : BadLine → ℕ
refusal_number TooLong = 21
refusal_number WrongCount = 22
refusal_number BadNumber = 23
refusal_number BadCall = 24

abbrev pub taken : Result Fields Fault → Result Event BadLine
taken (Ok f) = Ok (event_in f)
taken (Err f) = Err (bad_line f)

unfoldable pub read_line : List ℕ → Result Event BadLine
read_line s = taken (reading s)

-- the number of what was read: 0 with an event, else that of the refusal
abbrev pub number_in : Result Event BadLine → ℕ
number_in (Ok e) = 0
number_in (Err b) = refusal_number b

-- what reading gives for a line that says the event
abbrev pub read : Event → Result Event BadLine
read e = Ok e

abbrev pub no_event : Event
no_event = event_of 0 no_call 0 0 0 0 0

abbrev pub event_or_zeros : Result Event BadLine → Event
event_or_zeros (Ok e) = e
event_or_zeros (Err b) = no_event

-- "a refused line [gives] the event of all zeros"
unfoldable pub event_said : List ℕ → Event
event_said s = event_or_zeros (read_line s)

abbrev pub blamed : Result Fields Fault → ℕ
blamed (Ok f) = 0
blamed (Err f) = fault_field f

-- document 02, Q-3: "its first bad field, 1 to 7, or 0 when no single field is to blame"
unfoldable pub bad_field : List ℕ → ℕ
bad_field s = blamed (reading s)

-- ---- how an event is written

-- the line of an event, without its line feed
unfoldable pub event_line : Event → List ℕ
event_line e = line_of event_fields (event_values e) e.call
