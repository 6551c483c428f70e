-- One record: what the record of a stage is like, that a turn which goes on is one of the five moves, and what a result does in state 4.
use mathlib.Core.Path.{◌≡◌, refl, sym, ap, ◌∙◌}
use mathlib.Core.Bool.{Bool, true, false, true≢false}
use mathlib.Core.Logic.{◌⊎◌, inl, inr}
use Rattle.std.specs.Prelude.{Option, Some, Ok, Err}
use Rattle.laws.proofs.Bools.{impossible, never, not_both}
use Rattle.table.specs.declared.Invoke.{Invoke}
use Rattle.table.specs.declared.State.{State}
use Rattle.table.specs.declared.State.TheVariants.{Free, ParkWaiting, LineWaiting, Requested, RemoteRequested, HandedOver}
use Rattle.table.specs.declared.Side.{Side}
use Rattle.table.specs.declared.Side.TheVariants.{Position, Line}
use Rattle.table.specs.declared.Record.{Record}
use Rattle.table.specs.Places.{state_number, is_free, waiting_on, no_connection}
use Rattle.table.specs.Sound.{fits_side}
use Rattle.events.specs.declared.Event.{Event}
use Rattle.events.specs.declared.rule.Signal.{Signal}
use Rattle.events.specs.declared.rule.Signal.TheVariants.{PickupResult}
use Rattle.events.specs.declared.message.Message.{Message}
use Rattle.events.specs.declared.message.Message.TheVariants.{PickResult}
use Rattle.events.specs.declared.refusal.Refusal.TheVariants.{NotOutstanding}
use Rattle.events.specs.declared.turn.Stage.{Stage}
use Rattle.events.specs.declared.turn.Stage.TheVariants.{Waits, AskedHere, AskedFrom, Taken}
use Rattle.events.specs.declared.turn.Outcome.TheVariants.{Becomes}
use Rattle.events.specs.Turn.{stage_by, stage_of, state_at, connection_at, is_outstanding, if_outstanding, turn_on}
use Rattle.events.proofs.Outcomes.{GoesOn, asked_here, asked_from, handed_over, turned_down, does}
use Rattle.step.specs.Promises.{offered, Move, starts, goes_on, hands_over, ends, is_left}

pub stage_fits : (a : Side) (g : Stage) → fits_side a (state_at a g) ≡ true
stage_fits Position Waits = refl
stage_fits Line Waits = refl
stage_fits Position AskedHere = refl
stage_fits Line AskedHere = refl
stage_fits Position (AskedFrom c) = refl
stage_fits Line (AskedFrom c) = refl
stage_fits Position Taken = refl
stage_fits Line Taken = refl

pub waiting_offered : (a : Side) → offered (waiting_on a) ≡ true
waiting_offered Position = refl
waiting_offered Line = refl

pub stage_occupied : (a : Side) (g : Stage) → is_free (state_at a g) ≡ false
stage_occupied Position Waits = refl
stage_occupied Line Waits = refl
stage_occupied a AskedHere = refl
stage_occupied a (AskedFrom c) = refl
stage_occupied a Taken = refl

-- only state 4 has a connection
pub stage_connection : (a : Side) (g : Stage) → (state_number (state_at a g) ≡ 4 → ⊥) → connection_at g ≡ no_connection
stage_connection a Waits h = refl
stage_connection a AskedHere h = refl
stage_connection a (AskedFrom c) h = absurd (h refl)
stage_connection a Taken h = refl

-- ---- moves

-- the end of a stay
pub move_end : (s : State) → is_free s ≡ false → Move s Free
move_end Free h = absurd (true≢false h)
move_end ParkWaiting h = ends refl
move_end LineWaiting h = ends refl
move_end Requested h = ends refl
move_end RemoteRequested h = ends refl
move_end HandedOver h = is_left

offered_busy : (s : State) → offered s ≡ true → is_free s ≡ false
offered_busy Free o = never o
offered_busy ParkWaiting o = refl
offered_busy LineWaiting o = refl
offered_busy Requested o = refl
offered_busy RemoteRequested o = refl
offered_busy HandedOver o = refl

-- a place that becomes free was held
pub left_held : (s u : State) → Move s u → is_free u ≡ true → is_free s ≡ false
left_held s u (starts o) f = absurd (not_both f (offered_busy u o))
left_held s u (goes_on o n) f = offered_busy s o
left_held s u (hands_over o) f = offered_busy s o
left_held s u (ends o) f = offered_busy s o
left_held s u is_left f = refl

move_stage : (a : Side) (g : Stage) {s : State} → offered s ≡ true → Move s (state_at a g)
move_stage a Waits h = goes_on h (waiting_offered a)
move_stage a AskedHere h = goes_on h refl
move_stage a (AskedFrom c) h = goes_on h refl
move_stage a Taken h = hands_over h

-- from state 5 a stay only ends
taken_ends : (k : Signal) (a : Side) (r : Record) (e : Event) (g : Stage) (n : Invoke) (m : Option Message) → r.state ≡ HandedOver → turn_on k a r e ≡ Ok (Becomes g n m) → ⊥
taken_ends k a r e g n m q h = by g n m (rw h at (does k a r e))
  where
    taken : stage_of r ≡ Taken
    taken = ap (λ s. stage_by s r.connection) q

    by : (g : Stage) (n : Invoke) (m : Option Message) → GoesOn k r e g n m → ⊥
    by g n m (asked_here x w) = impossible (cc (sym taken ∙ w))
    by g n m (asked_from x w) = impossible (cc (sym taken ∙ w))
    by g n m (handed_over c w) = impossible (cc (sym taken ∙ w))
    by g n m (turned_down x c w) = impossible (cc (sym taken ∙ w))

-- a stay that goes on
pub move_on : (k : Signal) (a : Side) (r : Record) (e : Event) (g : Stage) (n : Invoke) (m : Option Message) → is_free r.state ≡ false
    → turn_on k a r e ≡ Ok (Becomes g n m) → Move r.state (state_at a g)
move_on k a r e g n m f h = move_stage a g (by r.state refl f)
  where
    by : (s : State) → r.state ≡ s → is_free s ≡ false → offered s ≡ true
    by Free q w = absurd (true≢false w)
    by ParkWaiting q w = refl
    by LineWaiting q w = refl
    by Requested q w = refl
    by RemoteRequested q w = refl
    by HandedOver q w = absurd (taken_ends k a r e g n m q h)

-- ---- a result in state 4

pub result_in_4 : (a : Side) (r : Record) (e : Event) → r.state ≡ RemoteRequested
    → (turn_on PickupResult a r e ≡ Err NotOutstanding) ⊎ (turn_on PickupResult a r e ≡ Ok (Becomes Taken r.count (Some (PickResult r.connection))))
result_in_4 a r e q = rw q (by (is_outstanding r e.invoke))
  where
    by : (b : Bool) → (if_outstanding b (Becomes Taken r.count (Some (PickResult r.connection))) ≡ Err NotOutstanding)
        ⊎ (if_outstanding b (Becomes Taken r.count (Some (PickResult r.connection))) ≡ Ok (Becomes Taken r.count (Some (PickResult r.connection))))
    by true = inr refl
    by false = inl refl
