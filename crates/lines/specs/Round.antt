-- The round trips of event lines and of answer lines: what is written reads back, of any event and answer within the ranges of their
-- fields, and any line that reads is written back octet for octet. With them: what is read is within those ranges, and how long such lines can
-- be. Each statement is proved in `proofs/Round.antt` under the name that stands beside it.
use Rattle.std.specs.Prelude.{◌≡◌, List, [], ◌∷◌, ◌++◌, ℕ, ◌≤◌, length, IsOk, Some}
use Rattle.events.specs.declared.Event.{Event}
use Rattle.events.specs.declared.Answer.{Answer}
use Rattle.events.specs.declared.message.Sent.{Sent}
use Rattle.fields.specs.Line.{read_fields}
use Rattle.fields.specs.Round.{CallInRange}
use Rattle.lines.specs.EventLine.{longest_event, read_line, read, event_said, event_line}
use Rattle.lines.specs.AnswerLine.{answer_fields, longest_answer, read_answer, answer_or_zeros, answer_text, answer_line}

-- ---- within the ranges of the fields: what the types say, and of an answer that its place is at most 255, as every place of the table is

pub record EventInRange (e : Event) : Type 0 where
  pub kind : e.kind ≤ 255
  pub call : CallInRange e.call
  pub place : e.place.0 ≤ 65535
  pub choice : e.choice ≤ 255
  pub connection : e.connection.0 ≤ 65535
  pub invoke : e.invoke.0 ≤ 65535
  pub timer : e.timer ≤ 255

pub record SentInRange (x : Sent) : Type 0 where
  pub message : x.message ≤ 255
  pub connection : x.connection.0 ≤ 65535
  pub invoke : x.invoke.0 ≤ 65535
  pub error : x.error ≤ 255

pub record AnswerInRange (a : Answer) : Type 0 where
  pub number : a.number ≤ 255
  pub call : CallInRange a.call
  pub place : a.place.0 ≤ 255
  pub state : a.state ≤ 255
  pub first : SentInRange a.first
  pub started : a.started ≤ 255
  pub stopped : a.stopped ≤ 255
  pub second : SentInRange a.second

-- ---- event lines

-- `event_read_back`
abbrev pub EventReadsBack : Type 0
EventReadsBack = (e : Event) → EventInRange e → read_line (event_line e) ≡ read e

-- `event_written_back`
abbrev pub EventWritesBack : Type 0
EventWritesBack = (s : List ℕ) (e : Event) → read_line s ≡ read e → event_line e ≡ s

-- `event_in_range`: of any line, refused ones too
abbrev pub EventReadInRange : Type 0
EventReadInRange = (s : List ℕ) → EventInRange (event_said s)

-- `event_line_short`
abbrev pub EventLineShort : Type 0
EventLineShort = (e : Event) → EventInRange e → length (event_line e) ≤ longest_event

-- ---- answer lines; the reader is given them without the line feed

-- `answer_read_back`
abbrev pub AnswerReadsBack : Type 0
AnswerReadsBack = (a : Answer) → AnswerInRange a → read_answer (answer_text a) ≡ Some a

-- `answer_written_back`
abbrev pub AnswerWritesBack : Type 0
AnswerWritesBack = (s : List ℕ) (a : Answer) → read_answer s ≡ Some a → answer_line a ≡ s ++ (10 ∷ [])

-- `answer_in_range`: of any line, refused ones too
abbrev pub AnswerReadInRange : Type 0
AnswerReadInRange = (s : List ℕ) → AnswerInRange (answer_or_zeros (read_answer s))

-- `bound_refuses_none`: a line of the fourteen fields, read with whatever bound, has no more octets than the bound of `read_answer`
abbrev pub BoundRefusesNone : Type 0
BoundRefusesNone = (longest : ℕ) (s : List ℕ) → IsOk (read_fields longest answer_fields s) → length s ≤ longest_answer
