-- THE DEMAND, stay by stay, on one page: what is promised of every list of events from the empty table, with the ranks of document 02's Q-4. First
-- the words of the demand, and beside each the statement that stands for it. The theorem is `rearranged`, and what follows a dot is a field of it.
--
--   "Rearranged stay by stay"                       .stays: an arrangement of the accepted events of the run, which are numbered (Arranged.antt); what a
--                                                   stay is say `Ended` and `Running` below, .arranged .each_ended and .arranged .each_running
--   "Ended stays first, in order of their ends,     .arranged .by_ends: the numbers of their last events rise
--    then open stays in order of their starts"      .arranged .by_starts: the numbers of their first events rise
--   "a stay's events keep their order"              .arranged .same_at: at each place the events stand in the order of the run
--                                                   .only: no other arrangement meets these words; .same_events: none is lost and none doubled
--   "every accepted event is accepted again         .again: the events as they were accepted, each with the call and the place of its answer (`by_answer`,
--    with the same answer"                          ParkTable.antt), are accepted with the answers that they had,
--   "and the final table is the same"               and lead from the empty table to the table of the run, ranks included
--   "A pickup that asks by name there has           `choice_by_name`, ParkTable.antt: the pickups are told so
--    choice 0"
--   "in no stay are two pickup results accepted"    .one_result
--
-- Then what is promised beyond it: the same stays by a fold (`same_stays`) and what they are like (`each_stay`), who is told how a pickrequ came out
-- (`tells_requester`), who is served first (`serves_first`). At the end two runs are worked out (`worked_out`, `own_events`). The theorems of this
-- page are those of `proofs/Demand.antt`.
use Rattle.std.specs.Prelude.{◌≡◌, ◌⊎◌, Bool, Some, List, [], ◌∷◌, ◌++◌, map, ℕ, ◌≤◌}
use Rattle.table.specs.declared.Place.{Place}
use Rattle.table.specs.declared.Connection.{Connection}
use Rattle.table.specs.declared.Side.{Side}
use Rattle.table.specs.Places.{empty_table, place_at}
use Rattle.events.specs.declared.Event.{Event}
use Rattle.events.specs.declared.Answer.{Answer}
use Rattle.events.specs.declared.rule.Rule.{Rule}
use Rattle.events.specs.declared.rule.Rule.TheVariants.{Start, On}
use Rattle.events.specs.declared.rule.Signal.TheVariants.{PickRequest, PickupResult}
use Rattle.events.specs.Rule.{rule_of}
use Rattle.events.specs.Reply.{replies, RepliesOnce}
use Rattle.step.specs.Edges.{call_no}
use Rattle.step.specs.Step.{step_of}
use Rattle.step.specs.Promises.{IsAccepted, choice_of, Waits}
use Rattle.stays.specs.Stays.{In, Before, places_of, Done, Stays, Every, BeginsBy, count, none, final, run, stays, Replays, all_stays, each}
use Rattle.stays.specs.Arranged.{Numbered, Arrangement, acts, all_of, listed, StayByStay}
use Rattle.stays.specs.ParkTable.{machine}

-- an accepted event, by name, with its answer
abbrev pub Act : Type 0
Act = Done Event Answer

-- the accepted events of a run
abbrev pub accepted_of : List Event → List Act
accepted_of es = run machine empty_table es

-- ---- (a) what a stay is like

abbrev pub Is : Rule → Act → Type 0
Is k x = rule_of x.event.kind ≡ Some k

-- a park or an alert
abbrev pub IsStart : Act → Type 0
IsStart x = (d : Side) × Is (Start d) x

-- the first event is a park or an alert, and no later one is
abbrev pub Begins : List Act → Type 0
Begins xs = BeginsBy IsStart xs

-- the answer is of this place and this call
abbrev pub OfStay : Place → List ℕ → Act → Type 0
OfStay p call x = (x.answer.place ≡ p) × (x.answer.call ≡ call)

-- after the event the place is free
abbrev pub Frees : Act → Type 0
Frees x = x.answer.state ≡ 0

-- the stay of a call at a place, as long as it runs
pub record Runs (p : Place) (call : List ℕ) (xs : List Act) : Type 0 where
  pub begins : Begins xs
  pub one : Every (OfStay p call) xs
  pub held : Every (λ x. Frees x → ⊥) xs

-- a stay that ran, and a last event that frees the place
pub record Ended (xs : List Act) : Type 0 where
  pub place : Place
  pub call : List ℕ
  pub before : List Act
  pub last : Act
  pub all : xs ≡ before ++ (last ∷ [])
  pub runs : Runs place call before
  pub same : OfStay place call last
  pub no_start : IsStart last → ⊥
  pub frees : Frees last

-- a stay that runs
abbrev pub Running : List Act → Type 0
Running xs = (p : Place) × (call : List ℕ) × Runs p call xs

-- ---- (b) THE DEMAND

-- the stays are those of the run, in the words of the demand
abbrev pub IsArranged : List Event → Arrangement Act → Type 0
IsArranged es a = StayByStay machine.place Ended Running (accepted_of es) a

pub record Rearranged (es : List Event) : Type 0 where
  -- there are stays that meet the words, and no others do
  pub stays : Arrangement Act
  pub arranged : IsArranged es stays
  pub only : (a : Arrangement Act) → IsArranged es a → a ≡ stays
  -- none of the run's events is lost and none doubled, whatever is counted
  pub same_events : (f : Act → Bool) → count f (acts (listed stays)) ≡ count f (accepted_of es)
  -- from the empty table every event is accepted again with its answer, and the table after them is that of the run
  pub again : Replays machine empty_table (acts (listed stays)) (final machine empty_table es)
  pub one_result : Every (λ s. count machine.result (acts s) ≤ 1) (all_of stays)

-- `rearranged`: THE THEOREM
abbrev pub IsRearranged : Type 0
IsRearranged = (es : List Event) → Rearranged es

-- ---- (c) the same stays by a fold, event by event (Stays.antt), with the place of each that runs

abbrev pub stays_of : List Event → Stays Act
stays_of es = stays machine none (accepted_of es)

-- `same_stays`: the fold gives the stays of the demand
abbrev pub SameStays : Type 0
SameStays = (es : List Event) (r : Rearranged es)
    → (map acts r.stays.ended ≡ (stays_of es).ended) × (map acts r.stays.running ≡ each (stays_of es).running)

-- `each_stay`
abbrev pub EachStay : Type 0
EachStay = (es : List Event) → Every Ended (stays_of es).ended × Every (λ s. (call : List ℕ) × Runs (place_at s.at) call s.events) (stays_of es).running

-- ---- (d) who is told how a pickrequ came out

-- this is the connection of the last pickrequ among the events
pub data LastRequest : List Act → Connection → Type 0 where
  asks : (xs : List Act) (x : Act) → Is (On PickRequest) x → LastRequest (xs ++ (x ∷ [])) x.event.connection
  other : (xs : List Act) (x : Act) {c : Connection} → (Is (On PickRequest) x → ⊥) → LastRequest xs c → LastRequest (xs ++ (x ∷ [])) c

-- the state that the events leave their place in
abbrev pub state_after : ℕ → List Act → ℕ
state_after state [] = state
state_after state (x ∷ xs) = state_after x.answer.state xs

-- any event in state 4 sends just one message 5 or 6, on the connection of the last pickrequ before it in the stay, and a result sends 5; an
-- event in another state sends neither
pub record TellsRequester (before : List Act) (x : Act) : Type 0 where
  pub once : state_after 0 before ≡ 4 → (c : Connection) × LastRequest before c × RepliesOnce c x.answer.first x.answer.second
  pub result : state_after 0 before ≡ 4 → Is (On PickupResult) x → x.answer.first.message ≡ 5
  pub silent : (state_after 0 before ≡ 4 → ⊥) → replies x.answer.first x.answer.second ≡ 0

-- so does every event, each with those before it
abbrev pub AllTell : List Act → List Act → Type 0
AllTell before [] = Unit {0}
AllTell before (x ∷ xs) = TellsRequester before x × AllTell (before ++ (x ∷ [])) xs

-- `tells_requester`
abbrev pub TellsItsRequester : Type 0
TellsItsRequester = (es : List Event) → Every (AllTell []) (all_stays machine (stays_of es))

-- ---- (e) who is served first (document 02, Q-4)

-- the places of the running stays, in the order in which these began
abbrev pub running_places : List Event → List ℕ
running_places es = places_of (stays_of es).running

-- a call that waits on a side, is the one that is answered, and began its stay before every other that waits there
pub record IsFirst (es : List Event) (a : Side) (x : Answer) : Type 0 where
  pub at : ℕ
  pub place : x.place ≡ place_at at
  pub runs : In at (running_places es)
  pub waits : Waits (final machine empty_table es) a at
  pub first : (j : ℕ) → Waits (final machine empty_table es) a j → j ≡ at ⊎ Before at j (running_places es)

-- `serves_first`: after any events, a pickup with choice 1 or 2 that is accepted takes the call whose stay began first, of all that wait on that side
abbrev pub ServesFirst : Type 0
ServesFirst = (es : List Event) (e : Event) (a : Side) → (e.kind ≡ 3) ⊎ (e.kind ≡ 4) → e.choice ≡ choice_of a
    → IsAccepted (final machine empty_table es) e → IsFirst es a (step_of (final machine empty_table es) e).answer

-- ---- (f) two runs, worked out

-- an event: its kind, the number of its call, its place, choice, connection and invoke
abbrev pub given : ℕ → ℕ → ℕ → ℕ → ℕ → ℕ → Event
given kind call place choice connection invoke = record {
  kind = kind;
  call = call_no call;
  place = record { 0 = place };
  choice = choice;
  connection = record { 0 = connection };
  invoke = record { 0 = invoke };
  timer = 0;
}

-- Call 1 alerts and call 2 is parked, and once more, which is refused. Call 4 alerts. A pickrequ for the longest waiting position gets call 2. Call 3
-- is parked. Call 2 is released; call 1 is answered.
abbrev pub example_run : List Event
example_run =
    given 2 1 0 0 0 0
    ∷ given 1 2 5 0 0 0
    ∷ given 1 2 6 0 0 0
    ∷ given 2 4 0 0 0 0
    ∷ given 4 0 0 1 900 0
    ∷ given 1 3 0 0 0 0
    ∷ given 8 2 0 0 0 0
    ∷ given 9 1 0 0 0 0
    ∷ []

-- an event of an arrangement: its number in the run, and as what it is accepted again
abbrev pub told : Numbered Act → Numbered Event
told y = record { number = y.number; act = y.act.event }

abbrev pub nth : ℕ → Event → Numbered Event
nth n e = record { number = n; act = e }

-- the stay of call 2, which ended first, and that of call 1, which began first
abbrev pub example_ended : List (List (Numbered Event))
example_ended =
    (nth 2 (given 1 2 5 0 0 0) ∷ nth 4 (given 4 2 5 0 900 0) ∷ nth 6 (given 8 2 5 0 0 0) ∷ [])
    ∷ (nth 1 (given 2 1 65 0 0 0) ∷ nth 7 (given 9 1 65 0 0 0) ∷ [])
    ∷ []

-- the stay of call 4 on a line, and that of call 3 at a position, which began after it
abbrev pub example_running : List (List (Numbered Event))
example_running = (nth 3 (given 2 4 66 0 0 0) ∷ []) ∷ (nth 5 (given 1 3 1 0 0 0) ∷ []) ∷ []

-- `worked_out`: whatever meets the demand has these stays
abbrev pub WorkedOut : Type 0
WorkedOut = (r : Rearranged example_run) → (map (map told) r.stays.ended ≡ example_ended) × (map (map told) r.stays.running ≡ example_running)

-- a call that is parked, asked for in vain and released, and then parked and released once more, at the same place
abbrev pub same_call_twice : List Event
same_call_twice =
    given 1 1 1 0 0 0
    ∷ given 4 1 0 0 900 0
    ∷ given 6 1 0 0 0 1
    ∷ given 8 1 0 0 0 0
    ∷ given 1 1 1 0 0 0
    ∷ given 8 1 0 0 0 0
    ∷ []

-- `own_events`: each of its two stays has its own events, though they would be accepted in the other too
abbrev pub OwnEvents : Type 0
OwnEvents = (r : Rearranged same_call_twice) → map (map (λ (y : Numbered Act). y.number)) r.stays.ended ≡ (1 ∷ 2 ∷ 3 ∷ 4 ∷ []) ∷ (5 ∷ 6 ∷ []) ∷ []
