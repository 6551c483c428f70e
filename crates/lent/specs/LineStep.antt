-- A line at a table: the step of the event that it says, or its refusal by 21 to 24, which has "zeros everywhere but its number" and
-- keeps the table.
use Rattle.std.specs.Prelude.{ℕ, None, Result, Ok, Err, List}
use Rattle.table.specs.declared.Table.{Table}
use Rattle.step.specs.declared.Step.{Step}
use Rattle.events.specs.declared.Event.{Event}
use Rattle.events.specs.Answers.{saying}
use Rattle.step.specs.Step.{step_of}
use Rattle.lines.specs.declared.BadLine.{BadLine}
use Rattle.lines.specs.EventLine.{refusal_number, read_line}

abbrev pub step_read : Table → Result Event BadLine → Step
step_read t (Ok e) = step_of t e
step_read t (Err b) = record { table = t; answer = saying (refusal_number b) None }

abbrev pub line_step : Table → List ℕ → Step
line_step t line = step_read t (read_line line)
