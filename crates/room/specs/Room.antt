-- How much room the stack sets aside for the line of an answer (document 02, Q-2: "no line of an answer the table gives is longer than 77
-- octets, line feed included"), the longest line that is really given, and that each reads back. Each statement is proved in
-- `proofs/Room.antt` under the name that stands beside it.
use Rattle.std.specs.Prelude.{◌≡◌, ◌⊎◌, Some, List, [], ◌∷◌, ℕ, ◌≤◌, ◌<◌, length, get_or}
use Rattle.table.specs.declared.Table.{Table}
use Rattle.table.specs.Places.{no_place, no_connection, no_invoke, empty_table, record_at, place_count, call_octets}
use Rattle.events.specs.declared.Event.{Event}
use Rattle.events.specs.declared.Answer.{Answer}
use Rattle.events.specs.declared.message.Sent.{Sent}
use Rattle.step.specs.Step.{step_of}
use Rattle.step.specs.Edges.{call_no}
use Rattle.step.specs.Promises.{Full}
use Rattle.lines.specs.EventLine.{event_of}
use Rattle.lines.specs.AnswerLine.{read_answer, answer_text, answer_line, answer_room}

-- ---- what the types say, as far as it goes into an answer

-- of a table: 96 places, calls of 16 octets, connections of 16 bits
pub record TypedTable (t : Table) : Type 0 where
  pub size : Full t
  pub call : (i : ℕ) → i < place_count → length (record_at t i).call ≡ call_octets
  pub connection : (i : ℕ) → i < place_count → (record_at t i).connection.0 ≤ 65535

-- of an event
pub record TypedEvent (e : Event) : Type 0 where
  pub call : length e.call ≡ call_octets
  pub connection : e.connection.0 ≤ 65535

-- ---- the room

-- `room_suffices`: "no line of an answer the table gives is longer than 77 octets, line feed included": of every table and event, refused
-- ones and unsound tables too
abbrev pub RoomSuffices : Type 0
RoomSuffices = (t : Table) (e : Event) → TypedTable t → TypedEvent e → length (answer_line (step_of t e).answer) ≤ answer_room

-- ---- why no line comes near it

-- a message without a connection and without an invoke
pub record Bare (x : Sent) : Type 0 where
  pub connection : x.connection ≡ no_connection
  pub invoke : x.invoke ≡ no_invoke

pub record Light (a : Answer) : Type 0 where
  -- a refusal names no place
  pub number_or_place : (a.number ≡ 0) ⊎ (a.place ≡ no_place)
  -- no message has both: "Connection, the picker's, is set only with messages 5 and 6, invoke, the count, only with 3 and 4."
  pub first : (a.first.connection ≡ no_connection) ⊎ (a.first.invoke ≡ no_invoke)
  pub second : (a.second.connection ≡ no_connection) ⊎ (a.second.invoke ≡ no_invoke)
  -- nor is either set in both messages of an answer
  pub one_bare : Bare a.first ⊎ Bare a.second

-- `answers_light`: of every table and event
abbrev pub AnswersLight : Type 0
AnswersLight = (t : Table) (e : Event) → Full t → Light (step_of t e).answer

-- ---- the longest line that is really given

abbrev pub longest : ℕ
longest = 64

-- `none_longer`
abbrev pub NoneLonger : Type 0
NoneLonger = (t : Table) (e : Event) → TypedTable t → TypedEvent e → length (answer_line (step_of t e).answer) ≤ longest

-- the lengths of the answers to events in turn
abbrev pub lengths_from : Table → List Event → List ℕ
lengths_from t [] = []
lengths_from t (e ∷ es) = length (answer_line (step_of t e).answer) ∷ lengths_from (step_of t e).table es

-- A call is parked at a place of two digits and asked for over a connection of five. The pickup fails, and message 6 carries that connection;
-- it is asked for again, and T3 runs out: message 7, and message 6 with that connection second.
abbrev pub longest_run : List Event
longest_run =
    event_of 1 (call_no 1) 17 0 0 0 0
    ∷ event_of 4 (call_no 1) 0 0 65535 0 0
    ∷ event_of 6 (call_no 1) 0 0 0 1 0
    ∷ event_of 4 (call_no 1) 0 0 65535 0 0
    ∷ event_of 10 (call_no 1) 0 0 0 0 3
    ∷ []

-- `longest_given`: from the empty table. The program `longest` runs the same events.
abbrev pub LongestGiven : Type 0
LongestGiven = lengths_from empty_table longest_run ≡ 60 ∷ 60 ∷ longest ∷ 60 ∷ longest ∷ []

-- ---- that the line of an answer reads back as it

-- `answers_read`: of every table and event, refused ones and unsound tables too; of the calls it asks besides that their octets are below 256
abbrev pub AnswersRead : Type 0
AnswersRead =
    (t : Table) (e : Event) → TypedTable t → TypedEvent e
    → ((i : ℕ) → i < place_count → (j : ℕ) → get_or (record_at t i).call j 0 < 256) → ((j : ℕ) → get_or e.call j 0 < 256)
    → read_answer (answer_text (step_of t e).answer) ≡ Some (step_of t e).answer
