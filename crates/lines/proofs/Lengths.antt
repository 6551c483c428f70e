-- How long a line is: as its writer counts it, whatever the call; and as the digits of its numbers, the 32 of its call, its tabs and, in an
-- answer, its line feed.
use mathlib.Core.Path.{◌≡◌, ap, ◌∙◌}
use Prim.Native.Nat.{ℕ, ◌+◌}
use native.Mathlib.Omega.{arith}
use lib.ListN.{length, length-append}
use Rattle.laws.proofs.Runs.{length_snoc}
use Rattle.events.specs.declared.Event.{Event}
use Rattle.events.specs.declared.Answer.{Answer}
use Rattle.events.specs.declared.message.Sent.{Sent}
use Rattle.fields.specs.Numbers.{decimal}
use Rattle.table.specs.Places.{no_call}
use Rattle.fields.specs.Line.{line_from, line_of}
use Rattle.fields.proofs.Texts.{any_call}
use Rattle.lines.specs.EventLine.{event_fields, event_values, event_line}
use Rattle.lines.specs.AnswerLine.{answer_fields, answer_values, answer_line}

-- ---- whatever the call

pub event_any_call : (e : Event) → length e.call ≡ 16 → length (event_line e) ≡ length (line_of event_fields (event_values e) no_call)
unfolding event_line
event_any_call e h = any_call event_fields (event_values e) e.call h

pub answer_any_call : (a : Answer) → length a.call ≡ 16 → length (answer_line a) ≡ length (line_of answer_fields (answer_values a) no_call) + 1
unfolding answer_line
answer_any_call a h =
    length_snoc (line_of answer_fields (answer_values a) a.call) 10 ∙ ap (λ (n : ℕ). n + 1) (any_call answer_fields (answer_values a) a.call h)

-- ---- by its digits

abbrev pub size : ℕ → ℕ
size n = length (decimal n)

pub length_event : (e : Event) → length e.call ≡ 16
    → length (event_line e)
    ≡ (size e.kind + size e.place.0 + size e.choice) + (size e.connection.0 + size e.invoke.0 + size e.timer) + 38
unfolding line_from
length_event e h = event_any_call e h ∙ simp length-append (omega arith)

-- the four fields of a message, with the tabs between them
abbrev pub sent_size : Sent → ℕ
sent_size x = size x.message + size x.connection.0 + size x.invoke.0 + size x.error + 3

pub length_answer : (a : Answer) → length a.call ≡ 16
    → length (answer_line a)
    ≡ (size a.number + size a.place.0 + size a.state) + (size a.started + size a.stopped) + (sent_size a.first + sent_size a.second) + 40
unfolding line_from
length_answer a h = answer_any_call a h ∙ simp length-append (omega arith)
