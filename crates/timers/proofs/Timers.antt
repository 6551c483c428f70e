-- A timer runs exactly in the state that names it: proved once, of any machine that keeps four laws. What runs and what the state names agree at idle,
-- and each event keeps it so.
use mathlib.Core.Path.{◌≡◌, refl, sym, ap, ◌∙◌}
use mathlib.Core.Bool.{Bool, true, false}
use mathlib.Core.List.{List, [], ◌∷◌}
use Rattle.timers.specs.Timers.{TimedMachine, final, runs_after, runs, RunsWhereNamed, ExpiryWhereRuns, ExpiryStops}

module _ (m : TimedMachine) where
  open m use {State, Event, Timer, idle, next, accepts, starts, stops, names, expires}

  -- what the theorems ask of a machine
  pub record Laws : Type 0 where
    -- idle names no timer
    pub at_idle : (t : Timer) → names idle t ≡ false
    -- where the timers run that the state names, those run after an event that the next state names
    pub at_event : (s : State) (e : Event) (t : Timer) → runs_after m (names s t) s e t ≡ names (next s e) t
    -- an expiry is accepted in the states that name its timer
    pub at_expiry : (s : State) (e : Event) (t : Timer) → expires e t ≡ true → accepts s e ≡ names s t
    -- and then stops it
    pub at_end : (s : State) (e : Event) (t : Timer) → expires e t ≡ true → accepts s e ≡ true → stops s e t ≡ true

  module _ (laws : Laws) where
    open laws use {at_idle, at_event, at_expiry, at_end}

    runs_from : (s : State) (es : List Event) (t : Timer) → runs m (names s t) s es t ≡ names (final m s es) t
    runs_from s [] t = refl
    runs_from s (e ∷ es) t = ap (λ (on : Bool). runs m on (next s e) es t) (at_event s e t) ∙ runs_from (next s e) es t

    pub runs_where_named : RunsWhereNamed m
    runs_where_named es t = ap (λ (on : Bool). runs m on idle es t) (sym (at_idle t)) ∙ runs_from idle es t

    pub expiry_where_runs : ExpiryWhereRuns m
    expiry_where_runs es e t x = at_expiry (final m idle es) e t x ∙ sym (runs_where_named es t)

    pub expiry_stops : ExpiryStops m
    expiry_stops = at_end
