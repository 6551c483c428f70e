-- A machine that refuses everything: what the statement of demand 3 alone would let pass. It has the table's own types, takes no event and
-- answers each with the same refusal.
use Rattle.std.specs.Prelude.{false, None}
use Rattle.table.specs.declared.Table.{Table}
use Rattle.table.specs.Places.{empty_table}
use Rattle.events.specs.declared.Event.{Event}
use Rattle.events.specs.declared.Answer.{Answer}
use Rattle.events.specs.Answers.{saying}
use Rattle.stays.specs.Stays.{Machine, goes_on}

abbrev pub refusing : Machine
refusing = record {
  Table = Table;
  Event = Event;
  Answer = Answer;
  empty = empty_table;
  next = λ t e. t;
  answer = λ t e. saying 1 None;
  accepted = λ a. false;
  named = λ e a. e;
  mark = λ x. goes_on;
  place = λ x. 0;
  result = λ x. false;
}
