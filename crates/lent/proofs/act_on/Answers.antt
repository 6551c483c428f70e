-- The event at the place that it is for, which is one of the table (`aim_inside`).
use Rattle.std.proofs.Common.{sym, ◌∙◌}
use Rattle.events.specs.Rule.{rule_of}
use Rattle.step.proofs.Aims.{aim_inside}
use Rattle.image.specs.Image.{table_from}
use Rattle.image.proofs.Round.{fit_from}
use Rattle.lent.proofs.act_on.Goals as goal

pub act_at-requires : goal.act_at-requires
act_at-requires c =
    let s = c.args in
    aim_inside (table_from s.image.now) (fit_from s.image.now c.told-image).size (rule_of s.e.kind) s.e _ (sym c.aim_of.ensures ∙ c.in-Ok.is)
