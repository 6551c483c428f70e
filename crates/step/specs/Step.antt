-- THE MACHINE: one event at a table, its answer and the table after it (document 01, "Events" and "Refusal numbers"; document 02).
use Rattle.std.specs.Prelude.{cond, Option, Result, Ok, Err, ℕ}
use Rattle.table.specs.declared.Table.{Table}
use Rattle.table.specs.Places.{record_at}
use Rattle.table.specs.Ranks.{put}
use Rattle.table.specs.Sound.{is_sound}
use Rattle.events.specs.declared.Event.{Event}
use Rattle.events.specs.declared.Acted.{Acted}
use Rattle.events.specs.declared.rule.Rule.{Rule}
use Rattle.events.specs.declared.refusal.Refusal.{Refusal}
use Rattle.events.specs.declared.refusal.Refusal.TheVariants.{TableUnsound}
use Rattle.events.specs.Rule.{rule_of}
use Rattle.events.specs.Answers.{declined}
use Rattle.events.specs.Act.{acted_by}
use Rattle.step.specs.declared.Step.{Step}
use Rattle.step.specs.Aim.{aim}

-- "Each refusal keeps the table."
abbrev pub refused_by : Table → Event → Refusal → Step
refused_by t e w = record { table = t; answer = declined e w }

-- what an event leaves at its place, in the table; the ranks follow from it
abbrev pub placed : Table → ℕ → Acted → Step
placed t i a = record { table = put t i a.after; answer = a.answer }

-- the event at the place that it is for, or its refusal where there is none
abbrev pub carried_out : Option Rule → Table → Event → Result ℕ Refusal → Step
carried_out k t e (Err w) = refused_by t e w
carried_out k t e (Ok i) = placed t i (acted_by k e i (record_at t i))

-- the step where nothing is asked of the table
abbrev pub step_any : Table → Event → Step
step_any t e = carried_out (rule_of e.kind) t e (aim (rule_of e.kind) t e)

-- THE STEP. "25: .. table not sound", before 1 to 12
abbrev pub step_of : Table → Event → Step
step_of t e = cond (is_sound t) (step_any t e) (refused_by t e TableUnsound)
