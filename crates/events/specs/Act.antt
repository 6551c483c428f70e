-- An event at the place that it is for: the record that it leaves there, and its answer.
use Rattle.std.specs.Prelude.{ℕ, List, Option, Some, None, Result, Ok, Err}
use Rattle.table.specs.declared.Record.{Record}
use Rattle.table.specs.Places.{side_at, free_record}
use Rattle.events.specs.declared.Event.{Event}
use Rattle.events.specs.declared.Acted.{Acted}
use Rattle.events.specs.declared.rule.Rule.{Rule}
use Rattle.events.specs.declared.rule.Rule.TheVariants.{Start, On}
use Rattle.events.specs.declared.message.Message.{Message}
use Rattle.events.specs.declared.refusal.Refusal.{Refusal}
use Rattle.events.specs.declared.turn.Outcome.{Outcome}
use Rattle.events.specs.declared.turn.Outcome.TheVariants.{Freed, Becomes}
use Rattle.events.specs.Rule.{rule_of}
use Rattle.events.specs.Turn.{held_record, turn}
use Rattle.events.specs.Answers.{accepted, declined}

-- a new record at an index, with its call's answer
abbrev pub changed : ℕ → Record → Record → List ℕ → Option Message → Option Message → Acted
changed i old new call first second = record { after = new; answer = accepted i old.state new.state call first second }

-- the call of the stay: a park or an alert brings it, and any other event finds it
abbrev pub stay_call : Option Rule → Event → Record → List ℕ
stay_call (Some (Start d)) e r = e.call
stay_call (Some (On s)) e r = r.call
stay_call None e r = r.call

-- what an outcome leaves: a refusal the record as it was
abbrev pub left : Event → ℕ → Record → List ℕ → Result Outcome Refusal → Acted
left e i r call (Err w) = record { after = r; answer = declined e w }
left e i r call (Ok (Freed first second)) = changed i r free_record call first second
left e i r call (Ok (Becomes s n m)) = changed i r (held_record (side_at i) s call n) call m None

abbrev pub acted_by : Option Rule → Event → ℕ → Record → Acted
acted_by k e i r = left e i r (stay_call k e r) (turn k (side_at i) r e)

abbrev pub acted : Event → ℕ → Record → Acted
acted e i r = acted_by (rule_of e.kind) e i r
