-- The two round trips of event lines and of answer lines: those of `fields`, at the two descriptions. With them the ranges of what is read, and how
-- long such lines can be, which follows from the ranges.
use mathlib.Core.Path.{◌≡◌, refl, sym, ap, ◌∙◌}
use mathlib.Core.List.{List, [], ◌∷◌, ◌++◌}
use Prim.Native.Nat.{ℕ, ◌+◌, ◌≤◌}
use native.Mathlib.Omega.{arith}
use lib.Dec.{lit≤}
use lib.ListN.{length, drop, get_or}
use Rattle.laws.proofs.Runs.{length_snoc, zeros_after}
use Rattle.events.specs.declared.Event.{Event}
use Rattle.events.specs.declared.Answer.{Answer}
use Rattle.events.specs.declared.message.Sent.{Sent}
use Rattle.std.specs.Prelude.{IfOk, IsOk, Some, Result, Ok, Err}
use Rattle.fields.specs.declared.Fault.{Fault}
use Rattle.fields.specs.declared.Fields.{Fields}
use Rattle.fields.specs.Line.{read_fields, line_from, line_of}
use Rattle.fields.specs.Round.{Description, Within, Contents, Ranged}
use Rattle.fields.proofs.Decimal.{length_three, length_five}
use Rattle.fields.proofs.Ranged.{no_fields, read_ranged}
use Rattle.fields.proofs.Round as round
use Rattle.lines.specs.declared.BadLine.{BadLine}
use Rattle.lines.specs.EventLine.{event_fields, longest_event, event_values, event_in, reading, taken, read_line, event_or_zeros, event_said, event_line}
use Rattle.lines.specs.AnswerLine.{answer_fields, longest_answer, answer_values, sent_in, answer_in, reading_answer, taken_answer, read_answer, answer_or_zeros, answer_text, answer_line}
use Rattle.lines.specs.Round as statements
use Rattle.lines.specs.Round.{EventInRange, SentInRange, AnswerInRange}
use Rattle.lines.proofs.Lengths.{sent_size, length_event, length_answer}

-- ---- event lines

event_description : Description event_fields
event_description = record { few = lit≤ tt; one_call = refl; small = refl }

event_contents : (e : Event) → EventInRange e → Contents event_fields (event_values e) e.call
event_contents e h = record {
  size = refl;
  within = (h.kind, (lit≤ tt, (h.place, (h.choice, (h.connection, (h.invoke, (h.timer, tt)))))));
  no_more = zeros_after 7 7 (event_values e) refl;
  in_range = h.call;
}

pub event_line_short : statements.EventLineShort
event_line_short e h =
    omega (
      arith,
      length_event e h.call.long,
      length_three e.kind h.kind,
      length_five e.place.0 h.place,
      length_three e.choice h.choice,
      length_five e.connection.0 h.connection,
      length_five e.invoke.0 h.invoke,
      length_three e.timer h.timer,
    )

pub event_read_back : statements.EventReadsBack
unfolding read_line reading event_line
event_read_back e h =
    ap taken (round.read_written longest_event event_fields (event_values e) e.call event_description (event_contents e h) (event_line_short e h))

event_in_place : (r : Fields) → event_line (event_in r) ≡ line_of event_fields r.values r.call
unfolding event_line line_from
event_in_place r = refl

pub event_written_back : statements.EventWritesBack
unfolding read_line reading
event_written_back s e q = by (read_fields longest_event event_fields s) refl q
  where
    by : (r : Result Fields Fault) → read_fields longest_event event_fields s ≡ r → taken r ≡ Ok e → event_line e ≡ s
    by (Ok f) is q =
        let same : event_in f ≡ e = cc in
        ap event_line (sym same) ∙ event_in_place f ∙ round.written_read longest_event event_fields s f.values f.call event_description is
    by (Err f) is q = cc

event_of_lem : (r : Fields) → Ranged event_fields r → EventInRange (event_in r)
event_of_lem r h = record {
  kind = h.value 0;
  call = h.call;
  place = h.value 2;
  choice = h.value 3;
  connection = h.value 4;
  invoke = h.value 5;
  timer = h.value 6;
}

event_taken : (r : Result Fields Fault) → IfOk r (Ranged event_fields) → IfOk (taken r) EventInRange
event_taken (Ok f) h = event_of_lem f h
event_taken (Err f) h = tt

pub event_read_range : (s : List ℕ) → IfOk (read_line s) EventInRange
unfolding read_line reading
event_read_range s = event_taken (reading s) (read_ranged longest_event event_fields s)

pub event_or_zeros_range : (r : Result Event BadLine) → IfOk r EventInRange → EventInRange (event_or_zeros r)
event_or_zeros_range (Ok e) h = h
event_or_zeros_range (Err b) h = event_of_lem _ (no_fields event_fields)

pub event_in_range : statements.EventReadInRange
unfolding event_said
event_in_range s = event_or_zeros_range (read_line s) (event_read_range s)

-- ---- answer lines

answer_description : Description answer_fields
answer_description = record { few = lit≤ tt; one_call = refl; small = refl }

answer_contents : (a : Answer) → AnswerInRange a → Contents answer_fields (answer_values a) a.call
answer_contents a h =
    let x = h.first in
    let y = h.second in
    let v = answer_values a in
    let second : Within (drop 10 answer_fields) 10 v = (y.message, (y.connection, (y.invoke, (y.error, tt)))) in
    let timers : Within (drop 8 answer_fields) 8 v = (h.started, (h.stopped, second)) in
    let first : Within (drop 4 answer_fields) 4 v = (x.message, (x.connection, (x.invoke, (x.error, timers)))) in
    record {
      size = refl;
      within = (h.number, (lit≤ tt, (h.place, (h.state, first))));
      no_more = zeros_after 14 0 (answer_values a) refl;
      in_range = h.call;
    }

sent_short : (x : Sent) → SentInRange x → sent_size x ≤ 19
sent_short x h =
    omega (
      arith,
      length_three x.message h.message,
      length_five x.connection.0 h.connection,
      length_five x.invoke.0 h.invoke,
      length_three x.error h.error,
    )

-- 79 digits at most, and 13 tabs
answer_text_short : (a : Answer) → AnswerInRange a → length (answer_text a) ≤ longest_answer
unfolding answer_line
answer_text_short a h =
    omega (
      arith,
      length_snoc (answer_text a) 10,
      length_answer a h.call.long,
      length_three a.number h.number,
      length_three a.place.0 h.place,
      length_three a.state h.state,
      length_three a.started h.started,
      length_three a.stopped h.stopped,
      sent_short a.first h.first,
      sent_short a.second h.second,
    )

pub answer_read_back : statements.AnswerReadsBack
unfolding read_answer
answer_read_back a h =
    ap taken_answer (round.read_written longest_answer answer_fields (answer_values a) a.call answer_description (answer_contents a h) (answer_text_short a h))

text_in_place : (r : Fields) → answer_text (answer_in r) ≡ line_of answer_fields r.values r.call
unfolding line_from
text_in_place r = refl

pub answer_written_back : statements.AnswerWritesBack
unfolding read_answer answer_line
answer_written_back s a q = by (reading_answer s) refl q
  where
    by : (r : Result Fields Fault) → reading_answer s ≡ r → taken_answer r ≡ Some a → answer_line a ≡ s ++ (10 ∷ [])
    by (Ok f) is q =
        let same : answer_in f ≡ a = cc in
        ap answer_line (sym same)
        ∙ ap (λ (l : List ℕ). l ++ (10 ∷ [])) (text_in_place f ∙ round.written_read longest_answer answer_fields s f.values f.call answer_description is)
    by (Err f) is q = cc

sent_of : (v : ℕ → ℕ) (i : ℕ) → v i ≤ 255 → v (i + 1) ≤ 65535 → v (i + 2) ≤ 65535 → v (i + 3) ≤ 255 → SentInRange (sent_in v i)
sent_of v i m c n e = record { message = m; connection = c; invoke = n; error = e }

answer_of : (r : Fields) → Ranged answer_fields r → AnswerInRange (answer_in r)
answer_of r h =
    let v : ℕ → ℕ = λ i. get_or r.values i 0 in
    record {
      number = h.value 0;
      call = h.call;
      place = h.value 2;
      state = h.value 3;
      first = sent_of v 4 (h.value 4) (h.value 5) (h.value 6) (h.value 7);
      started = h.value 8;
      stopped = h.value 9;
      second = sent_of v 10 (h.value 10) (h.value 11) (h.value 12) (h.value 13);
    }

pub answer_in_range : statements.AnswerReadInRange
unfolding read_answer
answer_in_range s = by (reading_answer s) (read_ranged longest_answer answer_fields s)
  where
    by : (r : Result Fields Fault) → IfOk r (Ranged answer_fields) → AnswerInRange (answer_or_zeros (taken_answer r))
    by (Ok f) h = answer_of f h
    by (Err f) h = answer_of _ (no_fields answer_fields)

pub bound_refuses_none : statements.BoundRefusesNone
bound_refuses_none longest s reads = by (read_fields longest answer_fields s) refl reads (read_ranged longest answer_fields s)
  where
    by : (r : Result Fields Fault) → read_fields longest answer_fields s ≡ r → IsOk r → IfOk r (Ranged answer_fields) → length s ≤ longest_answer
    by (Ok f) is reads h =
        let same = text_in_place f ∙ round.written_read longest answer_fields s f.values f.call answer_description is in
        omega (arith, ap length same, answer_text_short (answer_in f) (answer_of f h))
    by (Err f) is reads h = cc
