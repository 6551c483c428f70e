-- The answer line (document 01, "Answer line: number, call, place, state after, message, connection, invoke, error, started, stopped.";
-- document 02, Q-1: "The answer line gets four fields at its end: message, connection, invoke, error of the second, zeros if there is none."):
-- its description, an answer in its fields, the answer that a line says, and how an answer is written.
use Rattle.std.specs.Prelude.{List, [], ◌∷◌, ◌++◌, ℕ, ◌+◌, get_or, Option, Some, None, Result, Ok, Err}
use Rattle.events.specs.declared.Answer.{Answer}
use Rattle.events.specs.declared.message.Sent.{Sent}
use Rattle.table.specs.Places.{no_call}
use Rattle.fields.specs.declared.Kind.{Kind}
use Rattle.fields.specs.declared.Kind.TheVariants.{Call, Number}
use Rattle.fields.specs.declared.Fault.{Fault}
use Rattle.fields.specs.declared.Fields.{Fields}
use Rattle.fields.specs.Line.{no_values, read_fields, line_of}

-- ---- the description

-- The ranges are those of document 02, Q-11: "connections and invokes to 65,535, other numbers to 255".

-- of a message: message, connection, invoke, error
abbrev pub sent_fields : List Kind
sent_fields = Number 255 ∷ Number 65535 ∷ Number 65535 ∷ Number 255 ∷ []

-- number, call, place, state after; the message; started, stopped; the second message
abbrev pub answer_fields : List Kind
answer_fields = Number 255 ∷ Call ∷ Number 255 ∷ Number 255 ∷ (sent_fields ++ (Number 255 ∷ Number 255 ∷ sent_fields))

-- No line of fourteen such fields is longer, so that this bound refuses none (`bound_refuses_none`).
abbrev pub longest_answer : ℕ
longest_answer = 92

-- ---- an answer in its fields

-- a message, from the field with index i on
abbrev pub sent_in : (ℕ → ℕ) → ℕ → Sent
sent_in v i = record { message = v i; connection = record { 0 = v (i + 1) }; invoke = record { 0 = v (i + 2) }; error = v (i + 3) }

abbrev pub answer_in : Fields → Answer
answer_in f =
    let v : ℕ → ℕ = λ i. get_or f.values i 0 in
    record {
      number = v 0;
      call = f.call;
      place = record { 0 = v 2 };
      state = v 3;
      first = sent_in v 4;
      started = v 8;
      stopped = v 9;
      second = sent_in v 10;
    }

-- the values of a message, in the order of its fields
abbrev pub sent_values : Sent → List ℕ
sent_values x = x.message ∷ x.connection.0 ∷ x.invoke.0 ∷ x.error ∷ []

-- and of an answer, each at its field's index
abbrev pub answer_values : Answer → List ℕ
answer_values a =
    a.number ∷ 0 ∷ a.place.0 ∷ a.state ∷ (sent_values a.first ++ (a.started ∷ a.stopped ∷ sent_values a.second))

abbrev pub fields_of_answer : Answer → Fields
fields_of_answer a = record { values = answer_values a; call = a.call }

-- ---- the answer that a line says, the line coming without its line feed

abbrev pub reading_answer : List ℕ → Result Fields Fault
reading_answer s = read_fields longest_answer answer_fields s

abbrev pub taken_answer : Result Fields Fault → Option Answer
taken_answer (Ok f) = Some (answer_in f)
taken_answer (Err f) = None

-- a line that is not the fourteen fields has none
unfoldable pub read_answer : List ℕ → Option Answer
read_answer s = taken_answer (reading_answer s)

abbrev pub no_answer : Answer
no_answer = answer_in (record { values = no_values; call = no_call })

-- the answer, or that of all zeros
abbrev pub answer_or_zeros : Option Answer → Answer
answer_or_zeros (Some a) = a
answer_or_zeros None = no_answer

-- what a line says: a line that is not the fourteen fields has the answer of all zeros
unfoldable pub answer_said : List ℕ → Answer
answer_said s = answer_or_zeros (read_answer s)

-- ---- how an answer is written

-- the fourteen fields
abbrev pub answer_text : Answer → List ℕ
answer_text a = line_of answer_fields (answer_values a) a.call

-- and the line feed
unfoldable pub answer_line : Answer → List ℕ
answer_line a = answer_text a ++ (10 ∷ [])

-- the octets that an answer buffer must have, whatever the answer (refusal 26; Q-1: "26 now counts from 77 octets")
abbrev pub answer_room : ℕ
answer_room = 77
