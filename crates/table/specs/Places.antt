-- Places and records (document 01, "Places and records"): the paper's numbers of the states, the side of a place, the free
-- record, the one empty table. A place is counted from 1, as the paper does; an index from 0.
use Rattle.std.specs.Prelude.{Bool, false, cond, Option, Some, None, List, [], ℕ, zero, suc, ◌+◌, eqb, ltb, leb, get_or, replicate}
use Rattle.table.specs.declared.Place.{Place}
use Rattle.table.specs.declared.Connection.{Connection}
use Rattle.table.specs.declared.Invoke.{Invoke}
use Rattle.table.specs.declared.State.{State}
use Rattle.table.specs.declared.State.TheVariants.{Free, ParkWaiting, LineWaiting, Requested, RemoteRequested, HandedOver}
use Rattle.table.specs.declared.Side.{Side}
use Rattle.table.specs.declared.Side.TheVariants.{Position, Line}
use Rattle.table.specs.declared.Record.{Record}
use Rattle.table.specs.declared.Table.{Table}

-- "States: 0 free; 1 CP-WaitforPickup; 2 WaitforPickup; 3 CpickupRequested; 4 CpickupRemoteRequested; 5 handed over"
abbrev pub state_number : State → ℕ
state_number Free = 0
state_number ParkWaiting = 1
state_number LineWaiting = 2
state_number Requested = 3
state_number RemoteRequested = 4
state_number HandedOver = 5

abbrev pub same_state : State → State → Bool
same_state s u = eqb (state_number s) (state_number u)

abbrev pub is_free : State → Bool
is_free s = same_state s Free

abbrev pub is_state : ℕ → Bool
is_state n = ltb n 6

-- the state with a number; a number that is none's is looked at first, and gives the last
abbrev pub state_of : ℕ → State
state_of n =
    cond (eqb n 0) Free
    (cond (eqb n 1) ParkWaiting
    (cond (eqb n 2) LineWaiting
    (cond (eqb n 3) Requested
    (cond (eqb n 4) RemoteRequested HandedOver))))

-- the row of a side in the timer table
abbrev pub side_index : Side → ℕ
side_index Position = 0
side_index Line = 1

abbrev pub same_side : Side → Side → Bool
same_side a b = eqb (side_index a) (side_index b)

-- a parked call waits in state 1, an alerting call in state 2
abbrev pub waiting_on : Side → State
waiting_on Position = ParkWaiting
waiting_on Line = LineWaiting

-- "park positions have state 0, 1, 3, 4 or 5 and lines 0, 2, 3, 4 or 5": the one state that a side has not
abbrev pub missing_on : Side → State
missing_on Position = LineWaiting
missing_on Line = ParkWaiting

-- "96 places. Places 1 to 64 are park positions, 65 to 96 are alerting lines."
abbrev pub position_count : ℕ
position_count = 64

abbrev pub line_count : ℕ
line_count = 32

abbrev pub place_count : ℕ
place_count = position_count + line_count

abbrev pub side_of : Place → Option Side
side_of p =
    cond (ltb p.0 1) None
    (cond (leb p.0 position_count) (Some Position)
    (cond (leb p.0 place_count) (Some Line) None))

abbrev pub is_of : Side → Option Side → Bool
is_of a (Some b) = same_side b a
is_of a None = false

-- 0 is the number of no place
abbrev pub no_place : Place
no_place = record { 0 = 0 }

-- the place at an index; past the table there is none
abbrev pub place_at : ℕ → Place
place_at i = cond (ltb i place_count) (record { 0 = i + 1 }) no_place

-- no place outside the table is ever looked at: its side is anything
abbrev pub side_or : Option Side → Side
side_or (Some a) = a
side_or None = Position

abbrev pub side_at : ℕ → Side
side_at i = side_or (side_of (place_at i))

-- the index of a place
abbrev pub index_of : ℕ → ℕ
index_of zero = 0
index_of (suc n) = n

-- the index of a side's first place, and one past its last
abbrev pub first_index : Side → ℕ
first_index Position = 0
first_index Line = position_count

abbrev pub end_index : Side → ℕ
end_index Position = position_count
end_index Line = place_count

abbrev pub no_connection : Connection
no_connection = record { 0 = 0 }

abbrev pub no_invoke : Invoke
no_invoke = record { 0 = 0 }

-- "call: 16 octets"
abbrev pub call_octets : ℕ
call_octets = 16

-- a call of zeros
abbrev pub no_call : List ℕ
no_call = replicate call_octets 0

-- "a free record is all zeros"
abbrev pub free_record : Record
free_record = record { state = Free; call = no_call; connection = no_connection; count = no_invoke }

-- "The table has a fixed size, a named capacity and one empty value." Document 02, Q-4: "a free place has 0"
abbrev pub empty_table : Table
empty_table = record { places = replicate place_count free_record; ranks = replicate place_count 0 }

-- what a read past the end of a list of records gives; no place of a table is read so
abbrev pub blank : Record
blank = record { state = Free; call = []; connection = no_connection; count = no_invoke }

abbrev pub record_at : Table → ℕ → Record
record_at t i = get_or t.places i blank

-- the rank of the place at an index (document 02, Q-4)
abbrev pub rank_at : Table → ℕ → ℕ
rank_at t i = get_or t.ranks i 0
