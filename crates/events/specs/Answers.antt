-- The answers: to an event that is done, and to one that is refused (document 01, "Refusal numbers", and of "Lines, image, status" the answer
-- line's fields; document 02, Q-1: "An answer therefore holds up to two messages.").
use Rattle.std.specs.Prelude.{ℕ, List, Option, None}
use Rattle.table.specs.declared.State.{State}
use Rattle.table.specs.Places.{state_number, no_place, place_at, side_at, no_call}
use Rattle.table.specs.Timers.{started_set, stopped_set}
use Rattle.events.specs.declared.Event.{Event}
use Rattle.events.specs.declared.Answer.{Answer}
use Rattle.events.specs.declared.message.Message.{Message}
use Rattle.events.specs.declared.refusal.Refusal.{Refusal}
use Rattle.events.specs.Rule.{rule_of}
use Rattle.events.specs.Message.{sent}
use Rattle.events.specs.Refusal.{refusal_number, refusal_message}

-- "An accepted event's call and place are those of its stay, freed or not."
abbrev pub accepted : ℕ → State → State → List ℕ → Option Message → Option Message → Answer
accepted i before after call first second = record {
  number = 0;
  call = call;
  place = place_at i;
  state = state_number after;
  first = sent first;
  started = started_set (side_at i) before after;
  stopped = stopped_set (side_at i) before after;
  second = sent second;
}

-- "The answer then has zeros everywhere but its number, except: .."
abbrev pub saying : ℕ → Option Message → Answer
saying number m = record {
  number = number;
  call = no_call;
  place = no_place;
  state = 0;
  first = sent m;
  started = 0;
  stopped = 0;
  second = sent None;
}

-- to an event that is refused
abbrev pub declined : Event → Refusal → Answer
declined e w = saying (refusal_number w) (refusal_message (rule_of e.kind) w e.connection)
