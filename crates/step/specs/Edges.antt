-- The twelve edges (document 01, "Twelve edges to prove") and, after them, those of document 02's Q-1, Q-3 and Q-4: each from the table that it
-- names, with the whole answer and the whole table after it, as one list under one statement. `proofs/Edges.antt` computes them from the definitions.
use Rattle.std.specs.Prelude.{◌≡◌, List, [], ◌∷◌, ◌++◌, ℕ, zero, suc, ◌-◌, replicate, set}
use Rattle.table.specs.declared.Record.{Record}
use Rattle.table.specs.declared.Table.{Table}
use Rattle.table.specs.declared.State.{State}
use Rattle.table.specs.declared.State.TheVariants.{ParkWaiting, LineWaiting, Requested, RemoteRequested, HandedOver}
use Rattle.table.specs.Places.{no_place, no_connection, no_invoke, no_call, free_record, empty_table, index_of, position_count, line_count, call_octets}
use Rattle.events.specs.declared.Event.{Event}
use Rattle.events.specs.declared.Answer.{Answer}
use Rattle.events.specs.declared.message.Sent.{Sent}
use Rattle.step.specs.Step.{step_of}

-- the call whose last octet is n
abbrev pub call_no : ℕ → List ℕ
call_no n = replicate (call_octets - 1) 0 ++ (n ∷ [])

-- a record of call 1: its state, connection and count
abbrev pub holding : State → ℕ → ℕ → Record
holding s c n = record { state = s; call = call_no 1; connection = record { 0 = c }; count = record { 0 = n } }

-- the table with one occupied place, whose call is the first of its side
abbrev pub with : ℕ → Record → Table
with place r = record { places = set empty_table.places (index_of place) r; ranks = set empty_table.ranks (index_of place) 1 }

-- k, k - 1, .. 1
abbrev pub down : ℕ → List ℕ
down zero = []
down (suc k) = suc k ∷ down k

-- the record of a call in a state, asked for so many times, with no connection
abbrev pub of_call : ℕ → State → ℕ → Record
of_call n s count = record { state = s; call = call_no n; connection = no_connection; count = record { 0 = count } }

-- k parked calls: k, k - 1, .. 1
abbrev pub parked : ℕ → List Record
parked zero = []
parked (suc k) = of_call (suc k) ParkWaiting 0 ∷ parked k

abbrev pub all_taken : Table
all_taken = record { places = parked position_count ++ replicate line_count free_record; ranks = down position_count ++ replicate line_count 0 }

-- calls at positions 1, 2 and 3, by their records and ranks, and call 4, which waits at line 65 with rank 1
abbrev pub four : List Record → List ℕ → Table
four rs ks = record {
  places = rs ++ (replicate (position_count - 3) free_record ++ (of_call 4 LineWaiting 0 ∷ replicate (line_count - 1) free_record));
  ranks = ks ++ (replicate (position_count - 3) 0 ++ (1 ∷ replicate (line_count - 1) 0));
}

-- call n waits at a position, after it was asked for so many times
abbrev pub waiting : ℕ → ℕ → Record
waiting n count = of_call n ParkWaiting count

-- a pickup of the next waiting position
abbrev pub next_position : Event
next_position = record { kind = 3; call = no_call; place = no_place; choice = 1; connection = no_connection; invoke = no_invoke; timer = 0 }

-- kind, call, place, invoke and timer; choice 0 and connection 0
abbrev pub event : ℕ → ℕ → ℕ → ℕ → ℕ → Event
event kind n place invoke timer = record {
  kind = kind;
  call = call_no n;
  place = record { 0 = place };
  choice = 0;
  connection = no_connection;
  invoke = record { 0 = invoke };
  timer = timer;
}

-- a pickrequ of call 1 by name, on a connection
abbrev pub pickrequ : ℕ → Event
pickrequ c = record { kind = 4; call = call_no 1; place = no_place; choice = 0; connection = record { 0 = c }; invoke = no_invoke; timer = 0 }

-- a message's four fields
abbrev pub sending : ℕ → ℕ → ℕ → ℕ → Sent
sending message connection invoke error = record { message = message; connection = record { 0 = connection }; invoke = record { 0 = invoke }; error = error }

-- the answer line's fourteen fields, in its order
abbrev pub answer : ℕ → List ℕ → ℕ → ℕ → ℕ → ℕ → ℕ → ℕ → ℕ → ℕ → ℕ → ℕ → ℕ → ℕ → Answer
answer number call place state message connection invoke error started stopped message2 connection2 invoke2 error2 = record {
  number = number;
  call = call;
  place = record { 0 = place };
  state = state;
  first = sending message connection invoke error;
  started = started;
  stopped = stopped;
  second = sending message2 connection2 invoke2 error2;
}

pub record Edge : Type 0 where
  pub from : Table
  pub event : Event
  pub after : Table
  pub answer : Answer

abbrev pub edge : Table → Event → Table → Answer → Edge
edge t e u a = record { from = t; event = e; after = u; answer = a }

-- a refused edge keeps its table
abbrev pub refusal : Table → Event → Answer → Edge
refusal t e a = edge t e t a

abbrev pub edges : List Edge
edges =
    -- 1. Empty table, park proposing 64: place 64.
    edge empty_table (event 1 1 64 0 0) (with 64 (holding ParkWaiting 0 0)) (answer 0 (call_no 1) 64 1 1 0 0 0 1 0 0 0 0 0)
    -- 2. Proposing 65: place 1.
    ∷ edge empty_table (event 1 1 65 0 0) (with 1 (holding ParkWaiting 0 0)) (answer 0 (call_no 1) 1 1 1 0 0 0 1 0 0 0 0 0)
    -- 3. Proposing 0: place 1.
    ∷ edge empty_table (event 1 1 0 0 0) (with 1 (holding ParkWaiting 0 0)) (answer 0 (call_no 1) 1 1 1 0 0 0 1 0 0 0 0 0)
    -- 4. All 64 positions taken: 4.
    ∷ refusal all_taken (event 1 99 5 0 0) (answer 4 no_call 0 0 2 0 0 1 0 0 0 0 0 0)
    -- 5. Same call parked twice: 3, even when all are taken.
    ∷ refusal (with 1 (holding ParkWaiting 0 0)) (event 1 1 5 0 0) (answer 3 no_call 0 0 2 0 0 1 0 0 0 0 0 0)
    ∷ refusal all_taken (event 1 1 5 0 0) (answer 3 no_call 0 0 2 0 0 1 0 0 0 0 0 0)
    -- 6. Alert proposing 64 on the empty table: place 65.
    ∷ edge empty_table (event 2 1 64 0 0) (with 65 (holding LineWaiting 0 0)) (answer 0 (call_no 1) 65 2 0 0 0 0 0 0 0 0 0 0)
    -- 7. State 3 at a position, T3 expires: freed, message 7, stopped 3.
    ∷ edge (with 7 (holding Requested 0 1)) (event 10 1 0 0 3) empty_table (answer 0 (call_no 1) 7 0 7 0 0 0 0 3 0 0 0 0)
    -- 8. State 4, kind 6, right number: state 1, message 6, stopped 4.
    ∷ edge (with 7 (holding RemoteRequested 900 1)) (event 6 1 0 1 0) (with 7 (holding ParkWaiting 0 1)) (answer 0 (call_no 1) 7 1 6 900 0 1 0 4 0 0 0 0)
    -- 9. State 5, pickrequ by name: 12 ("Edge 9 becomes 12", Q-3), error 2.
    ∷ refusal (with 7 (holding HandedOver 0 1)) (event 4 1 0 0 0) (answer 12 no_call 0 0 6 0 0 2 0 0 0 0 0 0)
    -- 10. State 1, kind 7: freed.
    ∷ edge (with 7 (holding ParkWaiting 0 1)) (event 7 1 0 0 0) empty_table (answer 0 (call_no 1) 7 0 0 0 0 0 0 1 0 0 0 0)
    -- 11. Count 65,535 in state 1, local pickup: invoke 0.
    ∷ edge (with 7 (holding ParkWaiting 0 65535)) (event 3 1 0 0 0) (with 7 (holding Requested 0 0)) (answer 0 (call_no 1) 7 3 3 0 0 0 2 0 0 0 0 0)
    -- 12. Line in state 2, expiry of T3: 10.
    ∷ refusal (with 71 (holding LineWaiting 0 0)) (event 10 1 0 0 3) (answer 10 no_call 0 0 0 0 0 0 0 0 0 0 0 0)
    -- Q-1. State 4, a release: freed, message 6 with error 1 to the picker, by kind 8 and by kind 7 whatever its number.
    ∷ edge (with 7 (holding RemoteRequested 900 1)) (event 8 1 0 0 0) empty_table (answer 0 (call_no 1) 7 0 6 900 0 1 0 5 0 0 0 0)
    ∷ edge (with 7 (holding RemoteRequested 900 1)) (event 7 1 0 1 0) empty_table (answer 0 (call_no 1) 7 0 6 900 0 1 0 5 0 0 0 0)
    ∷ edge (with 7 (holding RemoteRequested 900 1)) (event 7 1 0 5 0) empty_table (answer 0 (call_no 1) 7 0 6 900 0 1 0 5 0 0 0 0)
    -- Q-1. State 4, T3 expires: freed, message 7 and then message 6.
    ∷ edge (with 7 (holding RemoteRequested 900 1)) (event 10 1 0 0 3) empty_table (answer 0 (call_no 1) 7 0 7 0 0 0 0 5 6 900 0 1)
    -- Q-1. State 5: the picker has its result, and hears nothing more.
    ∷ edge (with 7 (holding HandedOver 0 1)) (event 8 1 0 0 0) empty_table (answer 0 (call_no 1) 7 0 0 0 0 0 0 1 0 0 0 0)
    ∷ edge (with 7 (holding HandedOver 0 1)) (event 10 1 0 0 3) empty_table (answer 0 (call_no 1) 7 0 7 0 0 0 0 1 0 0 0 0)
    -- Q-3. A pickup by name, local and from elsewhere: 7 in state 3, 11 in state 4, 12 in state 5; error 2 in all three.
    ∷ refusal (with 7 (holding Requested 0 1)) (event 3 1 0 0 0) (answer 7 no_call 0 0 0 0 0 0 0 0 0 0 0 0)
    ∷ refusal (with 7 (holding Requested 0 1)) (pickrequ 901) (answer 7 no_call 0 0 6 901 0 2 0 0 0 0 0 0)
    ∷ refusal (with 7 (holding RemoteRequested 900 1)) (event 3 1 0 0 0) (answer 11 no_call 0 0 0 0 0 0 0 0 0 0 0 0)
    ∷ refusal (with 7 (holding RemoteRequested 900 1)) (pickrequ 901) (answer 11 no_call 0 0 6 901 0 2 0 0 0 0 0 0)
    ∷ refusal (with 71 (holding HandedOver 0 1)) (event 3 1 0 0 0) (answer 12 no_call 0 0 0 0 0 0 0 0 0 0 0 0)
    ∷ refusal (with 71 (holding HandedOver 0 1)) (pickrequ 901) (answer 12 no_call 0 0 6 901 0 2 0 0 0 0 0 0)
    -- Q-4. Three calls came to positions 3, 2 and 1: choice 1 takes position 3. Its rank stays while it is asked for, and the next is at position 2.
    ∷ edge (four (waiting 3 0 ∷ waiting 2 0 ∷ waiting 1 0 ∷ []) (3 ∷ 2 ∷ 1 ∷ [])) next_position
    (four (waiting 3 0 ∷ waiting 2 0 ∷ holding Requested 0 1 ∷ []) (3 ∷ 2 ∷ 1 ∷ [])) (answer 0 (call_no 1) 3 3 3 0 1 0 2 0 0 0 0 0)
    ∷ edge (four (waiting 3 0 ∷ waiting 2 0 ∷ holding Requested 0 1 ∷ []) (3 ∷ 2 ∷ 1 ∷ [])) next_position
    (four (waiting 3 0 ∷ of_call 2 Requested 1 ∷ holding Requested 0 1 ∷ []) (3 ∷ 2 ∷ 1 ∷ []))
    (answer 0 (call_no 2) 2 3 3 0 1 0 2 0 0 0 0 0)
    -- Q-4. A call sent back to waiting is served first again.
    ∷ edge (four (waiting 3 0 ∷ waiting 2 0 ∷ waiting 1 1 ∷ []) (3 ∷ 2 ∷ 1 ∷ [])) next_position
    (four (waiting 3 0 ∷ waiting 2 0 ∷ holding Requested 0 2 ∷ []) (3 ∷ 2 ∷ 1 ∷ [])) (answer 0 (call_no 1) 3 3 3 0 2 0 2 0 0 0 0 0)
    -- Q-4. The call at position 2 is released: only the rank above it drops, and the line keeps its own.
    ∷ edge (four (waiting 3 0 ∷ waiting 2 0 ∷ waiting 1 0 ∷ []) (3 ∷ 2 ∷ 1 ∷ [])) (event 8 2 0 0 0)
    (four (waiting 3 0 ∷ free_record ∷ waiting 1 0 ∷ []) (2 ∷ 0 ∷ 1 ∷ [])) (answer 0 (call_no 2) 2 0 0 0 0 0 0 1 0 0 0 0)
    -- Q-4. A call that comes after it is the last of its side, at position 2 again.
    ∷ edge (four (waiting 3 0 ∷ free_record ∷ waiting 1 0 ∷ []) (2 ∷ 0 ∷ 1 ∷ [])) (event 1 5 0 0 0)
    (four (waiting 3 0 ∷ waiting 5 0 ∷ waiting 1 0 ∷ []) (2 ∷ 3 ∷ 1 ∷ [])) (answer 0 (call_no 5) 2 1 1 0 0 0 1 0 0 0 0 0)
    -- Q-4. A rank above the number of calls, one that stands twice, one at a free place: 25.
    ∷ refusal (four (waiting 3 0 ∷ waiting 2 0 ∷ waiting 1 0 ∷ []) (4 ∷ 2 ∷ 1 ∷ [])) next_position (answer 25 no_call 0 0 0 0 0 0 0 0 0 0 0 0)
    ∷ refusal (four (waiting 3 0 ∷ waiting 2 0 ∷ waiting 1 0 ∷ []) (3 ∷ 1 ∷ 1 ∷ [])) next_position (answer 25 no_call 0 0 0 0 0 0 0 0 0 0 0 0)
    ∷ refusal (four (waiting 3 0 ∷ free_record ∷ waiting 1 0 ∷ []) (2 ∷ 3 ∷ 1 ∷ [])) next_position (answer 25 no_call 0 0 0 0 0 0 0 0 0 0 0 0)
    ∷ []

-- the step from the edge's table is the edge's answer and table
abbrev pub IsRight : Edge → Type 0
IsRight x = step_of x.from x.event ≡ record { table = x.after; answer = x.answer }

-- THE STATEMENT
abbrev pub AllRight : List Edge → Type 0
AllRight [] = Unit {0}
AllRight (x ∷ xs) = IsRight x × AllRight xs
