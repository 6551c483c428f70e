-- A timer runs exactly in the state that names it (document 02, Q-7), said of any machine that takes one event at a time and whose answers say which
-- timers start and which stop. Whether a timer runs is told from the answers alone, as a host does that starts and stops what they say. The theorems
-- (proofs/Timers.antt) ask of a machine four laws, of idle and of single events.
use Rattle.std.specs.Prelude.{◌≡◌, Bool, true, false, cond, List, [], ◌∷◌}

pub record TimedMachine : Type 1 where
  pub State : Type 0
  pub Event : Type 0
  pub Timer : Type 0
  pub idle : State
  pub next : State → Event → State
  -- is the event accepted in the state
  pub accepts : State → Event → Bool
  -- does the answer to the event start the timer; does it stop it
  pub starts : State → Event → Timer → Bool
  pub stops : State → Event → Timer → Bool
  -- does the paper have the timer run in the state
  pub names : State → Timer → Bool
  -- is the event an expiry of the timer
  pub expires : Event → Timer → Bool

module _ (m : TimedMachine) where
  open m use {State, Event, Timer, idle, next, accepts, starts, stops, names, expires}

  -- the state after the events
  abbrev pub final : State → List Event → State
  final s [] = s
  final s (e ∷ es) = final (next s e) es

  -- Does the timer run after an answer, where it ran before it or did not? Timers are stopped first and started after that. A timer that runs may
  -- be started anew.
  abbrev pub runs_after : Bool → State → Event → Timer → Bool
  runs_after on s e t = cond (starts s e t) true (cond (stops s e t) false on)

  -- does it run after the events
  abbrev pub runs : Bool → State → List Event → Timer → Bool
  runs on s [] t = on
  runs on s (e ∷ es) t = runs (runs_after on s e t) (next s e) es t

  -- `runs_where_named`: over any events from idle, where no timer runs, a timer runs exactly in the state that names it
  abbrev pub RunsWhereNamed : Type 0
  RunsWhereNamed = (es : List Event) (t : Timer) → runs false idle es t ≡ names (final idle es) t

  -- `expiry_where_runs`: over any events from idle, an expiry is accepted exactly where its timer runs
  abbrev pub ExpiryWhereRuns : Type 0
  ExpiryWhereRuns = (es : List Event) (e : Event) (t : Timer) → expires e t ≡ true → accepts (final idle es) e ≡ runs false idle es t

  -- `expiry_stops`: the answer to an accepted expiry stops its timer. With `runs_where_named`: the machine is then in a state that does not name the
  -- timer, or the answer has started the timer anew. A host whose timer ends by itself at its expiry sees no difference.
  abbrev pub ExpiryStops : Type 0
  ExpiryStops = (s : State) (e : Event) (t : Timer) → expires e t ≡ true → accepts s e ≡ true → stops s e t ≡ true

  -- the timer does run after some events, and some event is its expiry
  abbrev pub DoesRun : Timer → Type 0
  DoesRun t = ((es : List Event) × (runs false idle es t ≡ true)) × ((e : Event) × (expires e t ≡ true))
