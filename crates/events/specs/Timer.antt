-- The timers of a held call by their numbers (document 01, "Events").
use Rattle.std.specs.Prelude.{ℕ, cond, Result, Ok, Err, ◌==◌}
use Rattle.events.specs.declared.timer.Timer.{Timer}
use Rattle.events.specs.declared.timer.Timer.TheVariants.{T3, T6, T9}
use Rattle.events.specs.declared.refusal.Refusal.{Refusal}
use Rattle.events.specs.declared.refusal.Refusal.TheVariants.{ChoiceOrTimer}

abbrev pub timer_number : Timer → ℕ
timer_number T3 = 3
timer_number T6 = 6
timer_number T9 = 9

-- "timer not 3, 6 or 9" is refused by 2
abbrev pub timer_of : ℕ → Result Timer Refusal
timer_of n = cond (n == 3) (Ok T3) (cond (n == 6) (Ok T6) (cond (n == 9) (Ok T9) (Err ChoiceOrTimer)))
