-- What a signal does at a held call, seen as what it is: it is refused, or the stay goes on or ends in one of four ways each, with the stage that
-- the call was at. What is promised of one turn goes by these cases.
use Rattle.std.proofs.Common.{◌≡◌, Bool, true, false, cond, eqb, refl, ap}
use Rattle.table.specs.declared.Connection.{Connection}
use Rattle.table.specs.declared.Invoke.{Invoke}
use Rattle.table.specs.declared.State.{State}
use Rattle.table.specs.declared.State.TheVariants.{Free, ParkWaiting, LineWaiting, Requested, RemoteRequested, HandedOver}
use Rattle.table.specs.declared.Side.{Side}
use Rattle.table.specs.declared.Record.{Record}
use Rattle.table.specs.Timers.{timer_set}
use Rattle.events.specs.declared.Event.{Event}
use Rattle.events.specs.declared.rule.Signal.{Signal}
use Rattle.events.specs.declared.rule.Signal.TheVariants.{LocalPickup, PickRequest, PickupResult, PickupError, ErrorInRelease, Release, Answered, Expiry}
use Rattle.events.specs.declared.message.Message.{Message}
use Rattle.events.specs.declared.message.Message.TheVariants.{Connect, Facility, PickResult, PickError, ReleaseComplete}
use Rattle.events.specs.declared.message.ErrorValue.TheVariants.{Undefined}
use Rattle.std.specs.Prelude.{Option, Some, None, Result, Ok, Err}
use Rattle.laws.proofs.Bools.{impossible}
use Rattle.events.specs.declared.refusal.Refusal.{Refusal}
use Rattle.events.specs.declared.refusal.Refusal.TheVariants.{TimerNotRunning}
use Rattle.events.specs.declared.turn.Stage.{Stage}
use Rattle.events.specs.declared.turn.Stage.TheVariants.{Waits, AskedHere, AskedFrom, Taken}
use Rattle.events.specs.declared.turn.Outcome.{Outcome}
use Rattle.events.specs.declared.turn.Outcome.TheVariants.{Freed, Becomes}
use Rattle.events.specs.Turn.{stage_by, stage_of, up, picked_up, is_outstanding, if_outstanding, resulted, failed, released, answered, runs, timed_out, turn_on}
use Rattle.events.proofs.Released.{error_in_release}

-- the pickup that the call waits for is asked for over a connection
abbrev pub is_out : Stage → Bool
is_out Waits = false
is_out AskedHere = false
is_out (AskedFrom c) = true
is_out Taken = false

-- the stage, count and message with which a stay goes on
pub data GoesOn (k : Signal) (r : Record) (e : Event) : Stage → Invoke → Option Message → Type 0 where
  asked_here : k ≡ LocalPickup → stage_of r ≡ Waits → GoesOn k r e AskedHere (up r.count) (Some (Connect (up r.count)))
  asked_from : k ≡ PickRequest → stage_of r ≡ Waits → GoesOn k r e (AskedFrom e.connection) (up r.count) (Some (Facility (up r.count)))
  handed_over : (c : Connection) → stage_of r ≡ AskedFrom c → GoesOn k r e Taken r.count (Some (PickResult c))
  turned_down : (k ≡ PickupResult → ⊥) → (c : Connection) → stage_of r ≡ AskedFrom c → GoesOn k r e Waits r.count (Some (PickError c Undefined))

-- the messages with which it ends; where a picker waits, it is told
pub data Ends (r : Record) : Option Message → Option Message → Type 0 where
  freed : is_out (stage_of r) ≡ false → Ends r None None
  cut_off : is_out (stage_of r) ≡ false → Ends r (Some ReleaseComplete) None
  freed_and_told : (c : Connection) → stage_of r ≡ AskedFrom c → Ends r (Some (PickError c Undefined)) None
  cut_off_and_told : (c : Connection) → stage_of r ≡ AskedFrom c → Ends r (Some ReleaseComplete) (Some (PickError c Undefined))

abbrev pub Does : Signal → Record → Event → Result Outcome Refusal → Type 0
Does k r e (Err w) = Unit {0}
Does k r e (Ok (Becomes g n m)) = GoesOn k r e g n m
Does k r e (Ok (Freed first second)) = Ends r first second

module _ (k : Signal) (r : Record) (e : Event) where
  pickup_does : (f : Stage) → stage_of r ≡ f → (to : Stage) (n : Invoke) (m : Option Message) → (stage_of r ≡ Waits → GoesOn k r e to n m) → Does k r e (picked_up f to n m)
  pickup_does Waits q to n m h = h q
  pickup_does AskedHere q to n m h = tt
  pickup_does (AskedFrom c) q to n m h = tt
  pickup_does Taken q to n m h = tt

  if_does : (right : Bool) (u : Outcome) → Does k r e (Ok u) → Does k r e (if_outstanding right u)
  if_does true u h = h
  if_does false u h = tt

  result_does : (f : Stage) → stage_of r ≡ f → (right : Bool) → Does k r e (resulted f right r.count)
  result_does Waits q right = tt
  result_does AskedHere q right = if_does right (Freed None None) (freed (ap is_out q))
  result_does (AskedFrom c) q right = if_does right (Becomes Taken r.count (Some (PickResult c))) (handed_over c q)
  result_does Taken q right = tt

  error_does : (k ≡ PickupResult → ⊥) → (f : Stage) → stage_of r ≡ f → (right : Bool) → Does k r e (failed f right r.count)
  error_does x Waits q right = tt
  error_does x AskedHere q right = if_does right (Freed (Some ReleaseComplete) None) (cut_off (ap is_out q))
  error_does x (AskedFrom c) q right = if_does right (Becomes Waits r.count (Some (PickError c Undefined))) (turned_down x c q)
  error_does x Taken q right = tt

  release_does : (f : Stage) → stage_of r ≡ f → Does k r e (Ok (released f))
  release_does Waits q = freed (ap is_out q)
  release_does AskedHere q = freed (ap is_out q)
  release_does (AskedFrom c) q = freed_and_told c q
  release_does Taken q = freed (ap is_out q)

  answer_does : (s : State) → r.state ≡ s → Does k r e (answered s)
  answer_does Free q = tt
  answer_does ParkWaiting q = tt
  answer_does LineWaiting q = freed (ap (λ s. is_out (stage_by s r.connection)) q)
  answer_does Requested q = tt
  answer_does RemoteRequested q = tt
  answer_does HandedOver q = tt

  time_out_does : (f : Stage) → stage_of r ≡ f → Does k r e (Ok (timed_out f))
  time_out_does Waits q = cut_off (ap is_out q)
  time_out_does AskedHere q = cut_off (ap is_out q)
  time_out_does (AskedFrom c) q = cut_off_and_told c q
  time_out_does Taken q = cut_off (ap is_out q)

  expiry_does : (k ≡ PickupResult → ⊥) → (running nine : Bool) → Does k r e (cond running (cond nine (failed (stage_of r) true r.count) (Ok (timed_out (stage_of r)))) (Err TimerNotRunning))
  expiry_does x true true = error_does x (stage_of r) refl true
  expiry_does x true false = time_out_does (stage_of r) refl
  expiry_does x false nine = tt

-- THE VIEW
pub does : (k : Signal) (a : Side) (r : Record) (e : Event) → Does k r e (turn_on k a r e)
does LocalPickup a r e = pickup_does LocalPickup r e (stage_of r) refl AskedHere (up r.count) (Some (Connect (up r.count))) (asked_here refl)
does PickRequest a r e =
    pickup_does PickRequest r e (stage_of r) refl (AskedFrom e.connection) (up r.count) (Some (Facility (up r.count))) (asked_from refl)
does PickupResult a r e = result_does PickupResult r e (stage_of r) refl (is_outstanding r e.invoke)
does PickupError a r e = error_does PickupError r e (λ q. impossible (cc q)) (stage_of r) refl (is_outstanding r e.invoke)
does ErrorInRelease a r e = rw error_in_release (release_does ErrorInRelease r e (stage_of r) refl)
does Release a r e = release_does Release r e (stage_of r) refl
does Answered a r e = answer_does Answered r e r.state refl
does Expiry a r e =
    expiry_does Expiry r e (λ q. impossible (cc q)) (runs (timer_set a r.state) e.timer) (eqb e.timer 9)
