-- The line is read, and its event stepped; at the image of a sound table that is the machine's step (`line_kept`).
use Rattle.std.proofs.Common.{sym, ap, ◌∙◌, rules}
use Rattle.lent.specs.Kept.{answer_to_read, image_after_read}
use Rattle.lent.proofs.Kept.{line_kept}
use Rattle.lent.proofs.step_line.Goals as goal

pub returns-in-Ok : goal.returns-in-Ok
returns-in-Ok c =
    let s = c.args in
    let kept = line_kept s.image.now (λ j h. search rules) c.requires s.line.now in
    let read = sym c.in-Ok.is ∙ c.read_event.ensures in (
      c.act_on.ensures.0 ∙ ap (answer_to_read s.image.now) read ∙ kept.0,
      c.act_on.ensures.1 ∙ ap (image_after_read s.image.now) read ∙ kept.1,
    )
