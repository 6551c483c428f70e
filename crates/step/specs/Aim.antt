-- Which place an event is for (document 01, "Events" and refusals 1 to 6). Matching is by call, and by nothing else.
use Rattle.std.specs.Prelude.{Bool, cond, ◌&&◌, Option, Some, None, Result, Ok, Err, ℕ}
use Rattle.table.specs.declared.Place.{Place}
use Rattle.table.specs.declared.State.TheVariants.{Free}
use Rattle.table.specs.declared.Side.{Side}
use Rattle.table.specs.declared.Table.{Table}
use Rattle.table.specs.Places.{is_free, is_of, side_of, index_of, record_at}
use Rattle.table.specs.Search.{find_call, lowest_in}
use Rattle.table.specs.Ranks.{next_waiting}
use Rattle.events.specs.declared.Event.{Event}
use Rattle.events.specs.declared.rule.Rule.{Rule}
use Rattle.events.specs.declared.refusal.Refusal.{Refusal}
use Rattle.events.specs.declared.refusal.Refusal.TheVariants.{CallHeld, SideFull, CallNotHeld, NothingWaits}
use Rattle.events.specs.declared.sought.Sought.{Sought}
use Rattle.events.specs.declared.sought.Sought.TheVariants.{Held, Waiting, Room}
use Rattle.events.specs.Sought.{sought_by}

-- the index found, or the refusal where there is none
abbrev pub aim_at : Option ℕ → Refusal → Result ℕ Refusal
aim_at (Some i) w = Ok i
aim_at None w = Err w

-- "A proposed free position 1 to 64 is honoured"; "kind 2: with lines 65 to 96"
abbrev pub is_proposed : Table → Side → Place → Bool
is_proposed t d p = is_of d (side_of p) && is_free (record_at t (index_of p.0)).state

-- ".. otherwise (also for 0 and above 64) the lowest free position"
abbrev pub chosen : Table → Side → Place → Option ℕ
chosen t d p = cond (is_proposed t d p) (Some (index_of p.0)) (lowest_in t d Free)

-- refusal 3: "call already in the table"
abbrev pub unless_held : Option ℕ → Result ℕ Refusal → Result ℕ Refusal
unless_held (Some i) a = Err CallHeld
unless_held None a = a

-- kinds 1 and 2; refusal 4: "no place of that side is free"
abbrev pub aim_new : Side → Table → Event → Result ℕ Refusal
aim_new d t e = unless_held (find_call t e.call) (aim_at (chosen t d e.place) SideFull)

-- refusal 5: "call not in the table"
abbrev pub aim_named : Table → Event → Result ℕ Refusal
aim_named t e = aim_at (find_call t e.call) CallNotHeld

-- by what the event looks for (events/specs/Sought); refusal 6: nothing waits on the side. Which of the waiting calls of a side is served is
-- document 02, Q-4 (`next_waiting`, table)
abbrev pub aim_for : Table → Event → Result Sought Refusal → Result ℕ Refusal
aim_for t e (Ok Held) = aim_named t e
aim_for t e (Ok (Waiting a)) = aim_at (next_waiting t a) NothingWaits
aim_for t e (Ok (Room d)) = aim_new d t e
aim_for t e (Err w) = Err w

abbrev pub aim : Option Rule → Table → Event → Result ℕ Refusal
aim k t e = aim_for t e (sought_by k e)
