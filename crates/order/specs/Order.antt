-- The paper's table of refusals row by row (document 01, "Refusal numbers", "exactly when", "Checked in this order from the top; 0 is done."),
-- and the first row that holds. This is a second reading of the same rules beside the machine; `in_order`, proofs/Order.antt, shows
-- that the machine's number is always this one.
use Rattle.std.specs.Prelude.{◌≡◌, Bool, true, false, cond, not, ◌&&◌, ◌||◌, Option, Some, None, List, [], ◌∷◌, ℕ, eqb, ltb, leb}
use Rattle.table.specs.declared.State.{State}
use Rattle.table.specs.declared.State.TheVariants.{Free, ParkWaiting, LineWaiting, Requested, RemoteRequested, HandedOver}
use Rattle.table.specs.declared.Side.{Side}
use Rattle.table.specs.declared.Side.TheVariants.{Position, Line}
use Rattle.table.specs.declared.Record.{Record}
use Rattle.table.specs.declared.Table.{Table}
use Rattle.table.specs.Places.{same_state, side_at, free_record, record_at}
use Rattle.table.specs.Timers.{timer_set}
use Rattle.table.specs.Search.{find_call, lowest_in}
use Rattle.table.specs.Ranks.{next_waiting}
use Rattle.table.specs.Sound.{is_sound}
use Rattle.events.specs.declared.Event.{Event}
use Rattle.events.specs.Turn.{is_outstanding, runs}
use Rattle.events.specs.Sought.{is_timer}
use Rattle.step.specs.Step.{step_of}
use Rattle.step.specs.Promises.{Full}

pub record Row : Type 0 where
  pub number : ℕ
  pub when : Bool

abbrev pub row : ℕ → Bool → Row
row n b = record { number = n; when = b }

abbrev pub first_of : List Row → ℕ
first_of [] = 0
first_of (r ∷ rs) = cond r.when r.number (first_of rs)

-- ---- what the rows ask

abbrev pub is_found : Option ℕ → Bool
is_found (Some i) = true
is_found None = false

-- the record that a search finds, and its side; where it finds none, anything
abbrev pub record_found : Table → Option ℕ → Record
record_found t (Some i) = record_at t i
record_found t None = free_record

abbrev pub side_found : Option ℕ → Side
side_found (Some i) = side_at i
side_found None = Position

-- "state .. 3 or 4"
abbrev pub is_asked : State → Bool
is_asked Free = false
is_asked ParkWaiting = false
is_asked LineWaiting = false
is_asked Requested = true
is_asked RemoteRequested = true
is_asked HandedOver = false

module _ (t : Table) (e : Event) where
  abbrev pub held : Option ℕ
  held = find_call t e.call

  abbrev pub state : State
  state = (record_found t held).state

  abbrev pub is_kind : ℕ → Bool
  is_kind n = eqb e.kind n

  -- kinds 1, 2; kinds 3, 4; kinds 5, 6; kinds 5 to 10
  abbrev pub is_new : Bool
  is_new = is_kind 1 || is_kind 2

  abbrev pub is_pickup : Bool
  is_pickup = is_kind 3 || is_kind 4

  abbrev pub is_reply_kind : Bool
  is_reply_kind = is_kind 5 || is_kind 6

  abbrev pub is_later : Bool
  is_later = leb 5 e.kind && leb e.kind 10

  abbrev pub by_choice_0 : Bool
  by_choice_0 = is_pickup && eqb e.choice 0

  -- THE TABLE OF REFUSALS, from 1 on
  abbrev pub event_rows : List Row
  event_rows =
      -- kind not 1 to 10
      row 1 (not (leb 1 e.kind && leb e.kind 10))
      -- kinds 3, 4: choice above 2; kind 10: timer not 3, 6 or 9
      ∷ row 2 (is_pickup && ltb 2 e.choice || is_kind 10 && not (is_timer e.timer))
      -- kinds 1, 2: call already in the table
      ∷ row 3 (is_new && is_found held)
      -- kinds 1, 2: no place of that side is free
      ∷ row 4 (is_new && not (is_found (lowest_in t (cond (is_kind 1) Position Line) Free)))
      -- kinds 3, 4 with choice 0, and 5 to 10: call not in the table
      ∷ row 5 ((by_choice_0 || is_later) && not (is_found held))
      -- choice 1 or 2: nothing waits there
      ∷ row 6 (is_pickup && (eqb e.choice 1 || eqb e.choice 2) && not (is_found (next_waiting t (cond (eqb e.choice 1) Position Line))))
      -- choice 0: call in state 3, 4 or 5. Q-3: "Keep 7 for state 3, and use 11 for state 4 and 12 for state 5."
      ∷ row 7 (by_choice_0 && same_state state Requested)
      ∷ row 11 (by_choice_0 && same_state state RemoteRequested)
      ∷ row 12 (by_choice_0 && same_state state HandedOver)
      -- kinds 5, 6: state not 3 or 4; kind 9: state not 2
      ∷ row 8 (is_reply_kind && not (is_asked state) || is_kind 9 && not (same_state state LineWaiting))
      -- kinds 5, 6: invoke is not the outstanding number
      ∷ row 9 (is_reply_kind && not (is_outstanding (record_found t held) e.invoke))
      -- kind 10: that timer is not running
      ∷ row 10 (is_kind 10 && not (runs (timer_set (side_found held) state) e.timer))
      ∷ []

  -- .. and of an event at a table
  abbrev pub rows : List Row
  rows =
      -- table not sound
      row 25 (not (is_sound t))
      ∷ event_rows

-- `in_order`: the number of an answer is that of the first row that holds, or 0
abbrev pub InOrder : Type 0
InOrder = (t : Table) (e : Event) → Full t → (step_of t e).answer.number ≡ first_of (rows t e)
