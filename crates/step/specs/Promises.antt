-- What is promised of every event at every table, over the machine's definition: one page of statements. Each is proved under the name
-- that stands beside it here, in `proofs/`: Promises, Pickers (Q-1), Taken (Q-3), First (Q-4) and Small.
use Rattle.std.specs.Prelude.{◌≡◌, ◌⊎◌, List, Bool, true, false, cond, Option, Some, None, ℕ, ◌+◌, ◌≤◌, ◌<◌, ◌%◌, eqb, length}
use Rattle.table.specs.declared.Place.{Place}
use Rattle.table.specs.declared.Connection.{Connection}
use Rattle.table.specs.declared.Invoke.{Invoke}
use Rattle.table.specs.declared.State.{State}
use Rattle.table.specs.declared.State.TheVariants.{Free, ParkWaiting, LineWaiting, Requested, RemoteRequested, HandedOver}
use Rattle.table.specs.declared.Side.{Side}
use Rattle.table.specs.declared.Side.TheVariants.{Position, Line}
use Rattle.table.specs.declared.Table.{Table}
use Rattle.table.specs.Places.{state_number, is_free, waiting_on, place_at, index_of, side_at, no_place, no_connection, no_invoke, no_call, record_at, rank_at, position_count, place_count}
use Rattle.table.specs.Timers.{started_set, stopped_set}
use Rattle.table.specs.Search.{holds, is_at}
use Rattle.table.specs.Ranks.{calls_on, lowered, Change, comes, goes, neither, change_of}
use Rattle.table.specs.Sound.{is_sound}
use Rattle.events.specs.declared.Event.{Event}
use Rattle.events.specs.declared.Answer.{Answer}
use Rattle.step.specs.declared.Step.{Step}
use Rattle.events.specs.declared.rule.Rule.{Rule}
use Rattle.events.specs.declared.rule.Rule.TheVariants.{Start, On}
use Rattle.events.specs.declared.rule.Signal.TheVariants.{LocalPickup, PickRequest, PickupResult, PickupError, ErrorInRelease, Release, Answered, Expiry}
use Rattle.events.specs.declared.message.Sent.{Sent}
use Rattle.events.specs.Rule.{rule_of}
use Rattle.events.specs.declared.message.Message.TheVariants.{PickError}
use Rattle.events.specs.declared.message.ErrorValue.TheVariants.{CallAlreadyPickedUp}
use Rattle.events.specs.Taken.{pickup_number, is_taken}
use Rattle.events.specs.Answers.{saying}
use Rattle.events.specs.Reply.{replies, RepliesOnce}
use Rattle.events.specs.Sought.{is_timer}
use Rattle.step.specs.Step.{step_of}

-- a table has 96 places, each with a record and a rank; of a table in code its type says so
abbrev pub Full : Table → Type 0
Full t = (length t.places ≡ place_count) × (length t.ranks ≡ place_count)

-- the event is done; any other number is a refusal
abbrev pub IsAccepted : Table → Event → Type 0
IsAccepted t e = (step_of t e).answer.number ≡ 0

-- `keeps_sound`: from a sound table a sound table, by all kinds of event
abbrev pub KeepsSound : Type 0
KeepsSound = (t : Table) (e : Event) → Full t → is_sound t ≡ true → is_sound (step_of t e).table ≡ true

-- `refusal_keeps`: "Each refusal keeps the table."
abbrev pub RefusalKeeps : Type 0
RefusalKeeps = (t : Table) (e : Event) → Full t → (IsAccepted t e → ⊥) → (step_of t e).table ≡ t

-- ---- an accepted event

-- on offer: held, and nobody has taken the call yet
abbrev pub offered : State → Bool
offered Free = false
offered ParkWaiting = true
offered LineWaiting = true
offered Requested = true
offered RemoteRequested = true
offered HandedOver = false

-- the five moves: a stay starts, goes on, is handed over, ends, or is left after it was handed over
pub data Move : State → State → Type 0 where
  starts : {after : State} → offered after ≡ true → Move Free after
  goes_on : {before after : State} → offered before ≡ true → offered after ≡ true → Move before after
  hands_over : {before : State} → offered before ≡ true → Move before HandedOver
  ends : {before : State} → offered before ≡ true → Move before Free
  is_left : Move HandedOver Free

-- the rank of a place by what becomes of its call, on a side that had n calls
abbrev pub rank_of : Change → ℕ → ℕ → ℕ
rank_of comes n rank = n + 1
rank_of goes n rank = 0
rank_of neither n rank = rank

-- the index of the place that the answer names
abbrev pub index_at : Step → ℕ
index_at s = index_of s.answer.place.0

-- all that an accepted event does is at the place of its answer, but for ranks: from table t the step s
pub record AtOnePlace (t : Table) (s : Step) : Type 0 where
  pub inside : index_at s < place_count
  pub place : s.answer.place ≡ place_at (index_at s)
  -- the other places change in their rank alone, and only when the place is freed: "higher ranks on that side drop by one" (document 02, Q-4)
  pub others : (j : ℕ) → (j ≡ index_at s → ⊥) → record_at s.table j ≡ record_at t j
  pub ranks_stay : is_free (record_at s.table (index_at s)).state ≡ false → (j : ℕ) → (j ≡ index_at s → ⊥) → rank_at s.table j ≡ rank_at t j
  pub ranks_drop : is_free (record_at s.table (index_at s)).state ≡ true → (j : ℕ) → j < place_count → (j ≡ index_at s → ⊥)
      → rank_at s.table j ≡ lowered (side_at (index_at s)) (rank_at t (index_at s)) j (rank_at t j)
  -- a call that comes is the last of its side, keeps its rank as long as it is held, and leaves none behind
  pub rank : rank_at s.table (index_at s)
      ≡ rank_of (change_of (is_free (record_at t (index_at s)).state) (is_free (record_at s.table (index_at s)).state)) (calls_on t (side_at (index_at s))) (rank_at t (index_at s))
  -- the answer's state is the one after the event
  pub state : s.answer.state ≡ state_number (record_at s.table (index_at s)).state
  pub move : Move (record_at t (index_at s)).state (record_at s.table (index_at s)).state
  -- a stay has one call: the answer's is the record's, before and after
  pub call_before : is_free (record_at t (index_at s)).state ≡ false → (record_at t (index_at s)).call ≡ s.answer.call
  pub call_after : is_free (record_at s.table (index_at s)).state ≡ false → (record_at s.table (index_at s)).call ≡ s.answer.call
  -- the timers are those of the two entries
  pub started : s.answer.started ≡ started_set (side_at (index_at s)) (record_at t (index_at s)).state (record_at s.table (index_at s)).state
  pub stopped : s.answer.stopped ≡ stopped_set (side_at (index_at s)) (record_at t (index_at s)).state (record_at s.table (index_at s)).state

-- `accepted_at_one_place`
abbrev pub AcceptedAtOnePlace : Type 0
AcceptedAtOnePlace = (t : Table) (e : Event) → Full t → IsAccepted t e → AtOnePlace t (step_of t e)

-- ---- T3

abbrev pub one_if : Bool → ℕ
one_if b = cond b 1 0

-- `t3_runs_through`: at a park position T3 is started by the park and by nothing else, and is stopped where the place is freed and
-- nowhere else: not by a pickup request, nor does its refusal start it again
abbrev pub T3RunsThrough : Type 0
T3RunsThrough = (t : Table) (e : Event) → Full t → IsAccepted t e → (step_of t e).answer.place.0 ≤ position_count
    → ((step_of t e).answer.started % 2 ≡ one_if (eqb e.kind 1)) × ((step_of t e).answer.stopped % 2 ≡ one_if (eqb (step_of t e).answer.state 0))

-- ---- matching

-- kinds 5 to 10, and kinds 3 and 4 with choice 0
abbrev pub names_call : Option Rule → Event → Bool
names_call (Some (Start d)) e = false
names_call (Some (On LocalPickup)) e = eqb e.choice 0
names_call (Some (On PickRequest)) e = eqb e.choice 0
names_call (Some (On PickupResult)) e = true
names_call (Some (On PickupError)) e = true
names_call (Some (On ErrorInRelease)) e = true
names_call (Some (On Release)) e = true
names_call (Some (On Answered)) e = true
names_call (Some (On Expiry)) e = is_timer e.timer
names_call None e = false

abbrev pub by_name : Event → Bool
by_name e = names_call (rule_of e.kind) e

-- `matched_by_call`: an accepted event that names a call touches the place that holds that call, and its answer carries it
abbrev pub MatchedByCall : Type 0
MatchedByCall = (t : Table) (e : Event) → Full t → IsAccepted t e → by_name e ≡ true
    → (holds e.call (record_at t (index_at (step_of t e))) ≡ true) × ((step_of t e).answer.call ≡ e.call)

-- `not_held_is_5`: a call that is in no place is refused by 5, whatever stands anywhere
abbrev pub NotHeldIs5 : Type 0
NotHeldIs5 = (t : Table) (e : Event) → Full t → is_sound t ≡ true → by_name e ≡ true
    → ((j : ℕ) → j < place_count → holds e.call (record_at t j) ≡ false) → (step_of t e).answer.number ≡ 5

-- `start_answers_its_call`: a park or an alert is answered with the call that it brings
abbrev pub StartAnswersItsCall : Type 0
StartAnswersItsCall = (t : Table) (e : Event) (d : Side) → Full t → IsAccepted t e → rule_of e.kind ≡ Some (Start d) → (step_of t e).answer.call ≡ e.call

-- ---- the fields of an event

-- the event with zeros in the fields that its kind does not name
abbrev pub with_fields : ℕ → List ℕ → Place → ℕ → Connection → Invoke → ℕ → Event
with_fields kind call place choice connection invoke timer = record {
  kind = kind;
  call = call;
  place = place;
  choice = choice;
  connection = connection;
  invoke = invoke;
  timer = timer;
}

abbrev pub only_named : Option Rule → Event → Event
only_named (Some (Start d)) e = with_fields e.kind e.call e.place 0 no_connection no_invoke 0
only_named (Some (On LocalPickup)) e = with_fields e.kind e.call no_place e.choice no_connection no_invoke 0
only_named (Some (On PickRequest)) e = with_fields e.kind e.call no_place e.choice e.connection no_invoke 0
only_named (Some (On PickupResult)) e = with_fields e.kind e.call no_place 0 no_connection e.invoke 0
only_named (Some (On PickupError)) e = with_fields e.kind e.call no_place 0 no_connection e.invoke 0
only_named (Some (On ErrorInRelease)) e = with_fields e.kind e.call no_place 0 no_connection e.invoke 0
only_named (Some (On Release)) e = with_fields e.kind e.call no_place 0 no_connection no_invoke 0
only_named (Some (On Answered)) e = with_fields e.kind e.call no_place 0 no_connection no_invoke 0
only_named (Some (On Expiry)) e = with_fields e.kind e.call no_place 0 no_connection no_invoke e.timer
only_named None e = with_fields e.kind no_call no_place 0 no_connection no_invoke 0

-- `ignores_other_fields`: "Fields that a kind does not name are ignored."
abbrev pub IgnoresOtherFields : Type 0
IgnoresOtherFields = (t : Table) (e : Event) → step_of t (only_named (rule_of e.kind) e) ≡ step_of t e

-- ---- two slips that have happened

-- `release_frees`: a RELEASE COMPLETE for a held call frees its place, whatever number the error inside it carries
abbrev pub ReleaseFrees : Type 0
ReleaseFrees = (t : Table) (e : Event) → Full t → is_sound t ≡ true → (e.kind ≡ 7) ⊎ (e.kind ≡ 8)
    → (j : ℕ) → j < place_count → holds e.call (record_at t j) ≡ true → IsAccepted t e × ((step_of t e).answer.state ≡ 0)

-- `remote_result_holds`: an accepted result in state 4 does not free the place: it goes to state 5, and the picker's own connection
-- is told
abbrev pub RemoteResultHolds : Type 0
RemoteResultHolds = (t : Table) (e : Event) → Full t → IsAccepted t e → e.kind ≡ 5
    → (record_at t (index_at (step_of t e))).state ≡ RemoteRequested
    → ((step_of t e).answer.state ≡ 5) × ((step_of t e).answer.first.message ≡ 5)
    × ((step_of t e).answer.first.connection ≡ (record_at t (index_at (step_of t e))).connection)

-- ---- the picker who waits for a reply (document 02, Q-1)

-- from the one table to the other, the call at an index leaves state 4
pub record Leaves4 (t u : Table) (j : ℕ) : Type 0 where
  pub was : (record_at t j).state ≡ RemoteRequested
  pub is_not : (record_at u j).state ≡ RemoteRequested → ⊥

-- `picker_told_once`: whenever a call in state 4 leaves it, by any event, just one message 5 or 6 goes out, on the picker's connection
abbrev pub PickerToldOnce : Type 0
PickerToldOnce = (t : Table) (e : Event) (j : ℕ) → Full t → Leaves4 t (step_of t e).table j
    → RepliesOnce (record_at t j).connection (step_of t e).answer.first (step_of t e).answer.second

-- why a message 5 or 6 goes out: a call leaves state 4, or a pickrequ is refused
pub data Cause (t : Table) (e : Event) : Type 0 where
  leaves : (j : ℕ) → j < place_count → Leaves4 t (step_of t e).table j → Cause t e
  refused : (IsAccepted t e → ⊥) → rule_of e.kind ≡ Some (On PickRequest) → Cause t e

-- `replies_have_cause`: none goes out otherwise
abbrev pub RepliesHaveCause : Type 0
RepliesHaveCause = (t : Table) (e : Event) → Full t → (replies (step_of t e).answer.first (step_of t e).answer.second ≡ 0 → ⊥) → Cause t e

-- ---- why a call is not to be had (document 02, Q-3)

-- `tells_why`: a local pickup and a pickrequ that name a held call have the number of its state
abbrev pub TellsWhy : Type 0
TellsWhy = (t : Table) (e : Event) → Full t → is_sound t ≡ true → (e.kind ≡ 3) ⊎ (e.kind ≡ 4) → e.choice ≡ 0
    → (j : ℕ) → j < place_count → holds e.call (record_at t j) ≡ true → (step_of t e).answer.number ≡ pickup_number (record_at t j).state

-- `taken_answer`: where one of the three refuses a pickrequ, it has message 6, its connection and error 2, and zeros everywhere else but its number
abbrev pub TakenAnswer : Type 0
TakenAnswer = (t : Table) (e : Event) → Full t → e.kind ≡ 4 → is_taken (step_of t e).answer.number ≡ true
    → (step_of t e).answer ≡ saying (step_of t e).answer.number (Some (PickError e.connection CallAlreadyPickedUp))

-- ---- longest waiting first (document 02, Q-4)

-- choice 1 asks for a position, 2 for a line
abbrev pub choice_of : Side → ℕ
choice_of Position = 1
choice_of Line = 2

-- a call waits at this index, which is of the side
abbrev pub Waits : Table → Side → ℕ → Type 0
Waits t a i = is_at a (waiting_on a) i (record_at t i) ≡ true

-- `takes_first`: with choice 1 or 2 an accepted pickup is for a call that waits on that side, and none that waits there has a lower rank
abbrev pub TakesFirst : Type 0
TakesFirst = (t : Table) (e : Event) (a : Side) → Full t → IsAccepted t e → (e.kind ≡ 3) ⊎ (e.kind ≡ 4) → e.choice ≡ choice_of a
    → Waits t a (index_at (step_of t e)) × ((j : ℕ) → j < place_count → Waits t a j → rank_at t (index_at (step_of t e)) ≤ rank_at t j)

-- ---- how large an answer's numbers are

pub record SmallSent (x : Sent) : Type 0 where
  pub message : x.message ≤ 7
  pub error : x.error ≤ 2

pub record Small (a : Answer) : Type 0 where
  pub number : a.number ≤ 25
  pub place : a.place.0 ≤ place_count
  pub state : a.state ≤ 5
  pub first : SmallSent a.first
  pub started : a.started ≤ 7
  pub stopped : a.stopped ≤ 7
  pub second : SmallSent a.second

-- `answers_small`: of every table and event, refused ones too
abbrev pub AnswersSmall : Type 0
AnswersSmall = (t : Table) (e : Event) → Full t → Small (step_of t e).answer
