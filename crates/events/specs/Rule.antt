-- The rule of an event's kind (document 01, "Events").
use Rattle.std.specs.Prelude.{ℕ, cond, Option, Some, None, ◌==◌}
use Rattle.table.specs.declared.Side.TheVariants.{Position, Line}
use Rattle.events.specs.declared.rule.Rule.{Rule}
use Rattle.events.specs.declared.rule.Rule.TheVariants.{Start, On}
use Rattle.events.specs.declared.rule.Signal.TheVariants.{LocalPickup, PickRequest, PickupResult, PickupError, ErrorInRelease, Release, Answered, Expiry}

-- kinds 1 to 10, in the paper's order; any other number has no rule
abbrev pub rule_of : ℕ → Option Rule
rule_of kind =
    cond (kind == 1) (Some (Start Position))
    (cond (kind == 2) (Some (Start Line))
    (cond (kind == 3) (Some (On LocalPickup))
    (cond (kind == 4) (Some (On PickRequest))
    (cond (kind == 5) (Some (On PickupResult))
    (cond (kind == 6) (Some (On PickupError))
    (cond (kind == 7) (Some (On ErrorInRelease))
    (cond (kind == 8) (Some (On Release))
    (cond (kind == 9) (Some (On Answered))
    (cond (kind == 10) (Some (On Expiry))
    None)))))))))
