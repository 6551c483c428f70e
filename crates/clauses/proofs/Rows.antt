-- The promises of a phone, from its clause table row by row. Of each row it is shown how the event went (`Course`): refused, or done with the timer of
-- the state before stopped and that of the state after started. Of each expiry it is shown that it is accepted exactly in the states that name its timer,
-- and then leads to idle (`Expiry`). All else is said once, over any phone.
use mathlib.Core.Path.{◌≡◌, refl, sym, ap, ◌∙◌}
use mathlib.Core.Bool.{Bool, true, false, cond, true≢false}
use Prim.Native.Nat.{ℕ}
use borrow.Author.Tests.{eqb-true}
use lib.Dec.{eqb}
use Rattle.std.specs.Prelude.{Option, Some, None, Result, Ok, Err, is_ok}
use Rattle.timers.specs.Timers.{runs_after}
use Rattle.timers.proofs.Timers.{Laws, runs_where_named, expiry_where_runs, expiry_stops}
use Rattle.clauses.specs.declared.Timer.{Timer}
use Rattle.clauses.specs.declared.Answer.{Answer}
use Rattle.clauses.specs.declared.NoStep.{NoStep}
use Rattle.clauses.specs.Answer.{timer_number, refusal, answer_number}
use Rattle.clauses.specs.Phone.{Phone, is_timer, started_by, stopped_by, timed, Promises}

none_is : (t : Timer) → is_timer None t ≡ false
none_is t = refl

-- a timer of the same number as another is the one that a state names where that one is
as_expired : (named : Option Timer) (x t : Timer) → is_timer (Some x) t ≡ true → is_timer named t ≡ is_timer named x
as_expired None x t h = refl
as_expired (Some y) x t h = ap (λ (n : ℕ). eqb (timer_number y) n) (sym (eqb-true (timer_number x) (timer_number t) h))

-- a refusal is not done
pub never : {A : Type 0} → false ≡ true → A
never h = absurd (true≢false (sym h))

number_of_done : (a : Result Answer NoStep) → is_ok a ≡ true → answer_number a ≡ 0
number_of_done (Ok a) good = refl
number_of_done (Err e) good = never good

numbered : (a : Result Answer NoStep) → answer_number a ≡ cond (is_ok a) 0 33
numbered (Ok a) = refl
numbered (Err e) = refl

-- stopped, and then started
stop_start : (x y : Bool) → cond x true (cond y false y) ≡ x
stop_start true y = refl
stop_start false true = refl
stop_start false false = refl

module _ (p : Phone) where
  open p use {State, Event, idle, next, answer, timer, expiry}

  pub data Course (s : State) (e : Event) : Type 0 where
    refused : next s e ≡ s → answer s e ≡ Err refusal → Course s e
    done : is_ok (answer s e) ≡ true → stopped_by (answer s e) ≡ timer s → started_by (answer s e) ≡ timer (next s e) → Course s e

  -- an event is no expiry, or it is that of a timer, is accepted in the states that name the timer, and then leads to idle
  pub data Expiry (s : State) (e : Event) : Type 0 where
    no_expiry : expiry e ≡ None → Expiry s e
    expiry_of : (x : Timer) → expiry e ≡ Some x → is_ok (answer s e) ≡ is_timer (timer s) x → (is_ok (answer s e) ≡ true → next s e ≡ idle) → Expiry s e

  module _ (idles : timer idle ≡ None) (course : (s : State) (e : Event) → Course s e) (expires : (s : State) (e : Event) → Expiry s e) where
    not_both : {A : Type 0} (s : State) (e : Event) → is_ok (answer s e) ≡ true → is_ok (answer s e) ≡ false → A
    not_both s e good bad = absurd (true≢false (sym good ∙ bad))

    refused_keeps : (s : State) (e : Event) → (answer_number (answer s e) ≡ 0 → ⊥) → (next s e ≡ s) × (answer s e ≡ Err refusal)
    refused_keeps s e bad = by (course s e)
      where
        by : Course s e → (next s e ≡ s) × (answer s e ≡ Err refusal)
        by (refused stays is) = (stays, is)
        by (done good off on) = absurd (bad (number_of_done (answer s e) good))

    at_event : (s : State) (e : Event) (t : Timer) → runs_after (timed p) (is_timer (timer s) t) s e t ≡ is_timer (timer (next s e)) t
    at_event s e t = by (course s e)
      where
        by : Course s e → runs_after (timed p) (is_timer (timer s) t) s e t ≡ is_timer (timer (next s e)) t
        by (refused stays is) = rw (is, stays)
        by (done good off on) = rw (off, on) (stop_start (is_timer (timer (next s e)) t) (is_timer (timer s) t))

    -- an expiry of a timer is one of the table's expiries
    as_row : {A : Type 0} (s : State) (e : Event) (t : Timer)
        → is_timer (expiry e) t ≡ true
        → (is_ok (answer s e) ≡ is_timer (timer s) t → (is_ok (answer s e) ≡ true → next s e ≡ idle) → A)
        → A
    as_row {A} s e t h then = by (expires s e)
      where
        by : Expiry s e → A
        by (no_expiry none) = never (sym (ap (λ (x : Option Timer). is_timer x t) none) ∙ h)
        by (expiry_of x is right ends) =
            then (right ∙ sym (as_expired (timer s) x t (sym (ap (λ (y : Option Timer). is_timer y t) is) ∙ h))) ends

    at_expiry : (s : State) (e : Event) (t : Timer) → is_timer (expiry e) t ≡ true → is_ok (answer s e) ≡ is_timer (timer s) t
    at_expiry s e t h = as_row s e t h (λ right ends. right)

    at_end : (s : State) (e : Event) (t : Timer) → is_timer (expiry e) t ≡ true → is_ok (answer s e) ≡ true → is_timer (stopped_by (answer s e)) t ≡ true
    at_end s e t h taken = by (course s e)
      where
        by : Course s e → is_timer (stopped_by (answer s e)) t ≡ true
        by (refused stays is) = not_both s e taken (ap (λ (a : Result Answer NoStep). is_ok a) is)
        by (done good off on) = rw off (sym (at_expiry s e t h) ∙ taken)

    expiry_ends : (s : State) (e : Event) (t : Timer) → is_timer (expiry e) t ≡ true → is_ok (answer s e) ≡ true → next s e ≡ idle
    expiry_ends s e t h taken = as_row s e t h (λ right ends. ends taken)

    laws : Laws (timed p)
    laws = record {
      at_idle = λ t. ap (λ (x : Option Timer). is_timer x t) idles;
      at_event = at_event;
      at_expiry = at_expiry;
      at_end = at_end;
    }

    pub promises : Promises p
    promises = record {
      refused_keeps = refused_keeps;
      numbered = λ s e. numbered (answer s e);
      runs_where_named = runs_where_named (timed p) laws;
      expiry_where_runs = expiry_where_runs (timed p) laws;
      expiry_stops = expiry_stops (timed p) laws;
      expiry_ends = expiry_ends;
    }
