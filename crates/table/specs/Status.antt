-- The status query (document 01, "Status gives .."): four sums over the places.
use Rattle.std.specs.Prelude.{◌≡◌, cond, Result, Ok, Err, ℕ, set}
use Rattle.std.specs.Int.Count.{ones}
use Rattle.std.specs.Result.{result_unwrap_or}
use Rattle.table.specs.declared.State.{State}
use Rattle.table.specs.declared.State.TheVariants.{Free, ParkWaiting, LineWaiting, Requested, RemoteRequested, HandedOver}
use Rattle.table.specs.declared.Side.{Side}
use Rattle.table.specs.declared.Side.TheVariants.{Position, Line}
use Rattle.table.specs.declared.Record.{Record}
use Rattle.table.specs.declared.Table.{Table}
use Rattle.table.specs.declared.Unsound.{Unsound}
use Rattle.table.specs.declared.status.Status.{Status}
use Rattle.table.specs.Places.{position_count, side_at, no_call, no_connection, no_invoke, empty_table}
use Rattle.table.specs.Timers.{timer_set}
use Rattle.table.specs.Search.{is_at, total}
use Rattle.table.specs.Sound.{is_sound}

-- a record counts 1 where it is free and its place is on the side
abbrev pub free_on : Side → ℕ → Record → ℕ
free_on a i r = cond (is_at a Free i r) 1 0

-- "waiting calls (states 1 and 2)"
abbrev pub waits_in : State → ℕ
waits_in Free = 0
waits_in ParkWaiting = 1
waits_in LineWaiting = 1
waits_in Requested = 0
waits_in RemoteRequested = 0
waits_in HandedOver = 0

abbrev pub waits_at : ℕ → Record → ℕ
waits_at i r = waits_in r.state

-- "running timers, counted as the ones in all places' timer sets"
abbrev pub running_at : ℕ → Record → ℕ
running_at i r = ones (timer_set (side_at i) r.state)

abbrev pub tally_of : Table → Status
tally_of t = record {
  positions = total (free_on Position) 0 t.places;
  lines = total (free_on Line) 0 t.places;
  waiting = total waits_at 0 t.places;
  timers = total running_at 0 t.places;
}

abbrev pub status_of : Table → Result Status Unsound
status_of t = cond (is_sound t) (Ok (tally_of t)) (Err (record {}))

-- "An unsound table gives 25 and four zeros.": what is said of it, with its number (`number_said`)
abbrev pub unsound_status : Status
unsound_status = record { positions = 0; lines = 0; waiting = 0; timers = 0 }

abbrev pub status_said : Table → Status
status_said t = result_unwrap_or (status_of t) unsound_status

-- ---- an example, computed: at position 1 a call is asked for from elsewhere (T3 and T9 run), and at line 65 another waits

abbrev pub two_calls : Table
two_calls = record {
  places = set (set empty_table.places 0 (record { state = RemoteRequested; call = no_call; connection = record { 0 = 900 }; count = record { 0 = 1 } }))
      position_count (record { state = LineWaiting; call = set no_call 0 1; connection = no_connection; count = no_invoke });
  ranks = set (set empty_table.ranks 0 1) position_count 1;
}

abbrev pub StatusOfTwo : Type 0
StatusOfTwo = status_of two_calls ≡ Ok (record { positions = 63; lines = 31; waiting = 1; timers = 2 })
