-- THE SERVED ENDPOINT: one event at table and lamps together (document 02, Q-5). The table's step is `step_of`, and nothing of the lamps is in it.
use Rattle.std.specs.Prelude.{ℕ, cond, ◌==◌}
use Rattle.table.specs.declared.Table.{Table}
use Rattle.table.specs.Places.{empty_table, record_at, index_of}
use Rattle.events.specs.declared.Event.{Event}
use Rattle.events.specs.declared.Answer.{Answer}
use Rattle.step.specs.declared.Step.{Step}
use Rattle.step.specs.Step.{step_of}
use Rattle.lamps.specs.declared.Endpoint.{Endpoint}
use Rattle.lamps.specs.declared.Told.{Told}
use Rattle.lamps.specs.declared.members.Lamps.{Lamps}
use Rattle.lamps.specs.declared.notice.Lit.{Lit}
use Rattle.lamps.specs.Members.{dark_lamps}
use Rattle.lamps.specs.Notice.{asks_for, unlit, lit_by}

-- what is sent where the event is accepted, whose place has this index
abbrev pub lit_at : Lamps → Table → Event → Answer → ℕ → Lit
lit_at l t e a i = lit_by l i a (asks_for e.kind (record_at t i).state a.state)

-- what the table's answer to an event sends, t being the table before it; a refused event sends nothing
abbrev pub lit_of : Lamps → Table → Event → Answer → Lit
lit_of l t e a = cond (a.number == 0) (lit_at l t e a (index_of a.place.0)) (unlit l)

abbrev pub told_by : Endpoint → Event → Step → Told
told_by s e x = record {
  endpoint = record { table = x.table; lamps = (lit_of s.lamps s.table e x.answer).lamps };
  answer = x.answer;
  notice = (lit_of s.lamps s.table e x.answer).notice;
}

-- THE EVENT
abbrev pub told_of : Endpoint → Event → Told
told_of s e = told_by s e (step_of s.table e)

-- no call is held, and no request was ever sent
abbrev pub start : Endpoint
start = record { table = empty_table; lamps = dark_lamps }
