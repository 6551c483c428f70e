-- What an event looks for in the table (document 01, "Events" and refusals 1 and 2): the place that holds its call, the next waiting call of
-- a side, a free place of a side; or it is refused whatever the table is.
use Rattle.std.specs.Prelude.{ℕ, Bool, cond, Option, Some, None, Result, Ok, Err, ◌||◌, ◌==◌}
use Rattle.table.specs.declared.Side.TheVariants.{Position, Line}
use Rattle.events.specs.declared.Event.{Event}
use Rattle.events.specs.declared.rule.Rule.{Rule}
use Rattle.events.specs.declared.rule.Rule.TheVariants.{Start, On}
use Rattle.events.specs.declared.rule.Signal.{Signal}
use Rattle.events.specs.declared.rule.Signal.TheVariants.{LocalPickup, PickRequest, PickupResult, PickupError, ErrorInRelease, Release, Answered, Expiry}
use Rattle.events.specs.declared.refusal.Refusal.{Refusal}
use Rattle.events.specs.declared.refusal.Refusal.TheVariants.{UnknownKind, ChoiceOrTimer}
use Rattle.events.specs.declared.sought.Sought.{Sought}
use Rattle.events.specs.declared.sought.Sought.TheVariants.{Held, Waiting, Room}
use Rattle.events.specs.Rule.{rule_of}

-- kinds 3 and 4: "Choice 0 takes the named call"; 1 the next waiting call of the positions, 2 of the lines (Q-4 says which that is); "choice
-- above 2" is refused by 2
abbrev pub sought_pickup : ℕ → Result Sought Refusal
sought_pickup choice = cond (choice == 0) (Ok Held) (cond (choice == 1) (Ok (Waiting Position)) (cond (choice == 2) (Ok (Waiting Line)) (Err ChoiceOrTimer)))

-- "timer not 3, 6 or 9" is refused by 2
abbrev pub is_timer : ℕ → Bool
is_timer n = n == 3 || (n == 6 || n == 9)

-- kind 10
abbrev pub sought_expiry : ℕ → Result Sought Refusal
sought_expiry timer = cond (is_timer timer) (Ok Held) (Err ChoiceOrTimer)

abbrev pub sought_on : Signal → Event → Result Sought Refusal
sought_on LocalPickup e = sought_pickup e.choice
sought_on PickRequest e = sought_pickup e.choice
sought_on PickupResult e = Ok Held
sought_on PickupError e = Ok Held
sought_on ErrorInRelease e = Ok Held
sought_on Release e = Ok Held
sought_on Answered e = Ok Held
sought_on Expiry e = sought_expiry e.timer

abbrev pub sought_by : Option Rule → Event → Result Sought Refusal
sought_by (Some (Start d)) e = Ok (Room d)
sought_by (Some (On s)) e = sought_on s e
sought_by None e = Err UnknownKind

abbrev pub sought : Event → Result Sought Refusal
sought e = sought_by (rule_of e.kind) e
