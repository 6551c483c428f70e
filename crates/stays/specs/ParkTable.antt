-- The machine of the demand: one step of the table is `step_of`, document 01's definition. Beside it stands what is read off an
-- accepted event and its answer: the event by name, what it does to the stay at its place, and which place that is.
use Rattle.std.specs.Prelude.{cond, Option, Some, None, ℕ, eqb}
use Rattle.table.specs.declared.Table.{Table}
use Rattle.table.specs.Places.{empty_table, index_of}
use Rattle.events.specs.declared.Event.{Event}
use Rattle.events.specs.declared.Answer.{Answer}
use Rattle.events.specs.declared.rule.Rule.{Rule}
use Rattle.events.specs.declared.rule.Rule.TheVariants.{Start, On}
use Rattle.events.specs.declared.rule.Signal.TheVariants.{LocalPickup, PickRequest, PickupResult, PickupError, ErrorInRelease, Release, Answered, Expiry}
use Rattle.events.specs.Rule.{rule_of}
use Rattle.step.specs.Step.{step_of}
use Rattle.stays.specs.Stays.{Mark, starts, goes_on, ends, Machine}

-- "A pickup that asks by name there has choice 0": kinds 3 and 4; any other kind keeps its choice
abbrev pub choice_by_name : Option Rule → ℕ → ℕ
choice_by_name (Some (Start d)) n = n
choice_by_name (Some (On LocalPickup)) n = 0
choice_by_name (Some (On PickRequest)) n = 0
choice_by_name (Some (On PickupResult)) n = n
choice_by_name (Some (On PickupError)) n = n
choice_by_name (Some (On ErrorInRelease)) n = n
choice_by_name (Some (On Release)) n = n
choice_by_name (Some (On Answered)) n = n
choice_by_name (Some (On Expiry)) n = n
choice_by_name None n = n

-- the event, asking for the call and the place that its answer gave it: "An accepted event's call and place are those of its stay"
abbrev pub by_answer : Event → Answer → Event
by_answer e a = record {
  kind = e.kind;
  call = a.call;
  place = a.place;
  choice = choice_by_name (rule_of e.kind) e.choice;
  connection = e.connection;
  invoke = e.invoke;
  timer = e.timer;
}

-- a park or an alert starts a stay; an event after which the state is 0 ends it; any other goes on with it
abbrev pub mark_by : Option Rule → ℕ → Mark
mark_by (Some (Start d)) state = starts
mark_by (Some (On s)) state = cond (eqb state 0) ends goes_on
mark_by None state = goes_on

-- THE MACHINE
abbrev pub machine : Machine
machine = record {
  Table = Table;
  Event = Event;
  Answer = Answer;
  -- "starts with the empty table"
  empty = empty_table;
  next = λ t e. (step_of t e).table;
  answer = λ t e. (step_of t e).answer;
  -- "0 is done"
  accepted = λ a. eqb a.number 0;
  named = by_answer;
  mark = λ x. mark_by (rule_of x.event.kind) x.answer.state;
  -- places are counted from 1, and from 0 in a list
  place = λ x. index_of x.answer.place.0;
  -- "5 pickup Return Result"
  result = λ x. eqb x.event.kind 5;
}
