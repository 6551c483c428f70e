-- The line of an answer is no longer than its numbers allow: one digit for each small one, five for at most one connection or invoke, two for
-- the number or for the place. By the four cases of `Stepped`.
use mathlib.Core.Path.{◌≡◌, refl, ap}
use mathlib.Core.Logic.{◌⊎◌, inl, inr, ⊎_elim}
use mathlib.Core.List.{List}
use Prim.Native.Nat.{ℕ, ◌+◌, ◌≤◌, ◌<◌}
use native.Mathlib.Omega.{arith}
use lib.Dec.{lit≤}
use lib.ListN.{length}
use Rattle.table.specs.declared.Place.{Place}
use Rattle.table.specs.declared.Connection.{Connection}
use Rattle.table.specs.declared.Invoke.{Invoke}
use Rattle.table.specs.declared.Table.{Table}
use Rattle.laws.specs.Lists.{below}
use Rattle.table.specs.Ranks.{earliest, closed_up}
use Rattle.table.specs.Places.{no_place, no_call, no_connection, no_invoke, side_at, record_at, place_count}
use Rattle.events.specs.declared.Event.{Event}
use Rattle.events.specs.declared.Answer.{Answer}
use Rattle.events.specs.declared.message.Sent.{Sent}
use Rattle.std.specs.Prelude.{None}
use Rattle.events.specs.Rule.{rule_of}
use Rattle.events.specs.Answers.{saying}
use Rattle.step.specs.declared.Step.{Step}
use Rattle.step.specs.Step.{step_of}
use Rattle.step.specs.Promises.{Full, SmallSent, Small}
use Rattle.step.proofs.Stepped.{Stepped, kept, begun, ended, went_on, stepped}
use Rattle.step.proofs.Small.{saying_small, answers_small}
use Rattle.fields.specs.Numbers.{decimal}
use Rattle.fields.specs.Line.{line_from}
use Rattle.fields.proofs.Decimal.{length_digit, length_two, length_five}
use Rattle.lines.specs.AnswerLine.{answer_line}
use Rattle.fields.specs.Round.{CallInRange}
use Rattle.fields.proofs.Ranged.{no_call_lem}
use Rattle.lines.specs.Round.{SentInRange}
use Rattle.lines.proofs.Lengths.{sent_size, length_answer}
use Rattle.lines.proofs.Round.{answer_read_back}
use Rattle.room.specs.Room.{RoomSuffices, Bare, Light, AnswersLight, longest, NoneLonger, LongestGiven, AnswersRead}
use Rattle.events.proofs.Refusals.{tells}
use Rattle.room.proofs.Messages.{nothing_bare, Within, nothing_sent, greeting_sent, refusal_sent, turns}

-- ---- what goes out with a step

record Outgoing (P : ℕ → Type 0) (a : Answer) : Type 0 where
  first : Within P a.first
  second : Within P a.second
  one_bare : Bare a.first ⊎ Bare a.second

module _ (P : ℕ → Type 0) (at_0 : P 0) where
  -- where one message goes out, the other is bare
  alone : (a : Answer) → Within P a.first → a.second ≡ (saying 0 None).second → Outgoing P a
  alone a h q = record { first = h; second = rw q (nothing_sent P at_0); one_bare = inr (rw q nothing_bare) }

  outgoing : (t : Table) (all : Full t) (e : Event) → ((i : ℕ) → i < place_count → P (record_at t i).connection.0) → P e.connection.0
      → (s : Step) → Stepped t all.0 e s → Outgoing P s.answer
  outgoing t all e held given s (kept w) = alone s.answer (refusal_sent P at_0 e.connection (rule_of e.kind) _ given (tells e.connection (rule_of e.kind) w)) refl
  outgoing t all e held given s (begun d i sound rule room) = alone s.answer (greeting_sent P at_0 d) refl
  outgoing t all e held given s (ended k i first second at turn) =
      let x = rw turn at (turns P at_0 (side_at i) (record_at t i) e (held i at.inside) k) in
      record { first = x.0; second = x.1; one_bare = x.2 }
  outgoing t all e held given s (went_on k i g n m at turn) =
      alone s.answer (rw turn at (turns P at_0 (side_at i) (record_at t i) e (held i at.inside) k)) refl

-- ---- light answers

number_or_place : (t : Table) (all : Full t) (e : Event) (s : Step) → Stepped t all.0 e s → (s.answer.number ≡ 0) ⊎ (s.answer.place ≡ no_place)
number_or_place t all e s (kept w) = inr refl
number_or_place t all e s (begun d i sound rule room) = inl refl
number_or_place t all e s (ended k i first second at turn) = inl refl
number_or_place t all e s (went_on k i g n m at turn) = inl refl

pub answers_light : AnswersLight
answers_light t e all =
    let s = step_of t e in
    let x = outgoing (λ n. Unit {0}) tt t all e (λ i inside. tt) tt s (stepped t all.0 e) in
    record {
      number_or_place = number_or_place t all e s (stepped t all.0 e);
      first = x.first.one_unset;
      second = x.second.one_unset;
      one_bare = x.one_bare;
    }

-- ---- how long a light answer is

-- what the types say of an answer
record Typed (a : Answer) : Type 0 where
  call : length a.call ≡ 16
  first : Within (λ n. n ≤ 65535) a.first
  second : Within (λ n. n ≤ 65535) a.second

abbrev width : ℕ → ℕ
width n = length (decimal n)

-- a number that is 0 has one digit
width_connection : (c : Connection) → c ≡ no_connection → width c.0 ≡ 1
width_connection c q = length_digit c.0 (omega (arith, ap (λ (x : Connection). x.0) q))

width_invoke : (n : Invoke) → n ≡ no_invoke → width n.0 ≡ 1
width_invoke n q = length_digit n.0 (omega (arith, ap (λ (x : Invoke). x.0) q))

module _ (x : Sent) (small : SmallSent x) where
  bare_long : Bare x → sent_size x ≡ 7
  bare_long b =
      omega (
        arith,
        length_digit x.message (omega (arith, small.message)),
        length_digit x.error (omega (arith, small.error)),
        width_connection x.connection b.connection,
        width_invoke x.invoke b.invoke,
      )

  one_long : Within (λ n. n ≤ 65535) x → sent_size x ≤ 11
  one_long w =
      let digits : width x.connection.0 + width x.invoke.0 ≤ 6 =
      ⊎_elim
      (λ q. omega (arith, width_connection x.connection q, length_five x.invoke.0 w.invoke))
      (λ q. omega (arith, width_invoke x.invoke q, length_five x.connection.0 w.connection))
      w.one_unset in
      omega (
        arith,
        length_digit x.message (omega (arith, small.message)),
        length_digit x.error (omega (arith, small.error)),
        digits,
      )

module _ (a : Answer) (small : Small a) (light : Light a) (typed : Typed a) where
  head : width a.number + width a.place.0 ≤ 3
  head =
      ⊎_elim
      (λ q. omega (arith, length_digit a.number (omega arith), length_two a.place.0 (omega (arith, small.place))))
      (λ q. omega (
        arith,
        length_two a.number (omega (arith, small.number)),
        length_digit a.place.0 (omega (arith, ap (λ (p : Place). p.0) q)),
      ))
      light.number_or_place

  messages : sent_size a.first + sent_size a.second ≤ 18
  messages =
      ⊎_elim
      (λ b. omega (arith, bare_long a.first small.first b, one_long a.second small.second typed.second))
      (λ b. omega (arith, bare_long a.second small.second b, one_long a.first small.first typed.first))
      light.one_bare

  -- A LIGHT ANSWER'S LINE
  light_short : length (answer_line a) ≤ longest
  light_short =
      omega (
        arith,
        length_answer a typed.call,
        head,
        length_digit a.state (omega (arith, small.state)),
        messages,
        length_digit a.started (omega (arith, small.started)),
        length_digit a.stopped (omega (arith, small.stopped)),
      )

-- ---- of every table and event

-- the call of an answer is none, the event's, or one that the table holds
call_from : (P : List ℕ → Type 0) → P no_call → (t : Table) (all : Full t) (e : Event) → ((i : ℕ) → i < place_count → P (record_at t i).call) → P e.call
    → (s : Step) → Stepped t all.0 e s → P s.answer.call
call_from P none t all e held given s (kept w) = none
call_from P none t all e held given s (begun d i sound rule room) = given
call_from P none t all e held given s (ended k i first second at turn) = held i at.inside
call_from P none t all e held given s (went_on k i g n m at turn) = held i at.inside

pub none_longer : NoneLonger
none_longer t e table event =
    let s = step_of t e in
    let view = stepped t table.size.0 e in
    let x = outgoing (λ n. n ≤ 65535) (lit≤ tt) t table.size e table.connection event.connection s view in
    light_short s.answer (answers_small t e table.size) (answers_light t e table.size)
    (record { call = call_from (λ c. length c ≡ 16) refl t table.size e table.call event.call s view; first = x.first; second = x.second })

pub room_suffices : RoomSuffices
room_suffices t e table event = omega (arith, none_longer t e table event)

pub longest_given : LongestGiven
unfolding answer_line line_from decimal below earliest closed_up
longest_given = refl

-- nor is the line of a number alone any longer
pub number_short : (n : ℕ) → n ≤ 25 → length (answer_line (saying n None)) ≤ longest
number_short n h =
    light_short (saying n None) (saying_small n None h)
    (record { number_or_place = inr refl; first = inl refl; second = inl refl; one_bare = inl nothing_bare })
    (record { call = refl; first = nothing_sent (λ n. n ≤ 65535) (lit≤ tt); second = nothing_sent (λ n. n ≤ 65535) (lit≤ tt) })

-- ---- read back

sent_in_range : (x : Sent) → SmallSent x → Within (λ n. n ≤ 65535) x → SentInRange x
sent_in_range x small w = record {
  message = omega (arith, small.message);
  connection = w.connection;
  invoke = w.invoke;
  error = omega (arith, small.error);
}

pub answers_read : AnswersRead
answers_read t e table event held given =
    let s = step_of t e in
    let view = stepped t table.size.0 e in
    let x = outgoing (λ n. n ≤ 65535) (lit≤ tt) t table.size e table.connection event.connection s view in
    let small = answers_small t e table.size in
    answer_read_back s.answer record {
      number = omega (arith, small.number);
      call =
          call_from CallInRange no_call_lem t table.size e
          (λ i h. record { long = table.call i h; octets = held i h })
          record { long = event.call; octets = given } s view;
      place = omega (arith, small.place);
      state = omega (arith, small.state);
      first = sent_in_range s.answer.first small.first x.first;
      started = omega (arith, small.started);
      stopped = omega (arith, small.stopped);
      second = sent_in_range s.answer.second small.second x.second;
    }
