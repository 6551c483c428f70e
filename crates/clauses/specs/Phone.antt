-- What is promised of each phone, said once over any: a refusal changes nothing, a timer runs exactly in the state that names it (crate `timers`), and
-- an expiry leads back to idle.
use Rattle.std.specs.Prelude.{◌≡◌, Bool, true, false, cond, List, [], ◌∷◌, eqb, Option, Some, None, Result, Ok, Err, is_ok}
use Rattle.timers.specs.Timers.{TimedMachine, RunsWhereNamed, ExpiryWhereRuns, ExpiryStops}
use Rattle.clauses.specs.declared.Timer.{Timer}
use Rattle.clauses.specs.declared.Answer.{Answer}
use Rattle.clauses.specs.declared.NoStep.{NoStep}
use Rattle.clauses.specs.Answer.{timer_number, refusal, answer_number}

-- A phone: a machine of one call.
pub record Phone : Type 1 where
  pub State : Type 0
  pub Event : Type 0
  pub idle : State
  pub next : State → Event → State
  pub answer : State → Event → Result Answer NoStep
  -- the timer that clause 10.4 has run in the state, if it has one
  pub timer : State → Option Timer
  -- the timer whose expiry the event is, if it is one
  pub expiry : Event → Option Timer

-- what it answers to a list of events, one after the other
abbrev pub answers : (p : Phone) → p.State → List p.Event → List (Result Answer NoStep)
answers p s [] = []
answers p s (e ∷ es) = p.answer s e ∷ answers p (p.next s e) es

-- there is a timer x, and it is t
abbrev pub is_timer : Option Timer → Timer → Bool
is_timer None t = false
is_timer (Some x) t = eqb (timer_number x) (timer_number t)

-- which timer an answer starts and which it stops; a refusal does neither
abbrev pub started_by : Result Answer NoStep → Option Timer
started_by (Ok a) = a.started
started_by (Err e) = None

abbrev pub stopped_by : Result Answer NoStep → Option Timer
stopped_by (Ok a) = a.stopped
stopped_by (Err e) = None

abbrev pub timed : Phone → TimedMachine
timed p = record {
  State = p.State;
  Event = p.Event;
  Timer = Timer;
  idle = p.idle;
  next = p.next;
  accepts = λ s e. is_ok (p.answer s e);
  starts = λ s e t. is_timer (started_by (p.answer s e)) t;
  stops = λ s e t. is_timer (stopped_by (p.answer s e)) t;
  names = λ s t. is_timer (p.timer s) t;
  expires = λ e t. is_timer (p.expiry e) t;
}

-- `parking_keeps`: of the parking endpoint, and `parked_keeps` of the parked one. Which events are done in which states is not said here: that is the
-- clause table.
pub record Promises (p : Phone) : Type 0 where
  -- an event that is not done is answered by 33, and the state stays; a refusal has nothing to send, start, stop or tell
  pub refused_keeps : (s : p.State) (e : p.Event) → (answer_number (p.answer s e) ≡ 0 → ⊥) → (p.next s e ≡ s) × (p.answer s e ≡ Err refusal)
  -- 0 is the number where the event is done, and 33 where it is not
  pub numbered : (s : p.State) (e : p.Event) → answer_number (p.answer s e) ≡ cond (is_ok (p.answer s e)) 0 33
  -- Q-7: "a timer runs exactly in the state that names it"
  pub runs_where_named : RunsWhereNamed (timed p)
  -- an expiry is accepted exactly where its timer runs, and then stops it
  pub expiry_where_runs : ExpiryWhereRuns (timed p)
  pub expiry_stops : ExpiryStops (timed p)
  -- and ends what was begun: no phone waits on for ever
  pub expiry_ends : (s : p.State) (e : p.Event) (t : Timer) → is_timer (p.expiry e) t ≡ true → is_ok (p.answer s e) ≡ true → p.next s e ≡ p.idle
