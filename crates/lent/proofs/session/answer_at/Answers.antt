-- An image that is read is stepped, and stays read (`stays_read`); no answer is longer than the room (`on_short`).
use Rattle.std.proofs.Common.{◌≡◌, ℕ, true, false, None, length, sym, ap, ◌∙◌, arith, rules}
use Rattle.events.specs.declared.Answer.{Answer}
use Rattle.events.specs.Answers.{saying}
use Rattle.lines.specs.AnswerLine.{answer_line}
use Rattle.image.specs.Image.{is_sound_image}
use Rattle.lent.specs.Lent.{step_on, left_on}
use Rattle.lent.proofs.Short.{on_short}
use Rattle.lent.proofs.Tables.{stays_read}
use Rattle.lent.proofs.session.answer_at.Goals as goal

pub returns-then-sound : goal.returns-then-sound
returns-then-sound c =
    let s = c.args in
    let good : is_sound_image s.image.now ≡ true = sym c.requires ∙ c.if-sound.true in (
      c.step_line.ensures.0,
      c.step_line.ensures.1,
      c.if-sound.true ∙ sym (stays_read s.image.now s.line.now (λ j h. search rules) good),
      omega (arith, on_short s.image.now s.line.now (λ j. search rules), ap (λ (a : Answer). length (answer_line a)) c.step_line.ensures.0),
    )

pub returns-else-sound : goal.returns-else-sound
returns-else-sound c =
    let s = c.args in
    let bad : is_sound_image s.image.now ≡ false = sym c.requires ∙ c.if-sound.false in
    let said : c.only_number.result ≡ (step_on s.image.now s.line.now).answer = rw bad (c.only_number.ensures ∙ ap (λ (n : ℕ). saying n None) c.from.ensures) in
    let left : left_on s.image.now s.line.now ≡ s.image.now = rw bad in (
      said,
      sym left,
      c.requires ∙ ap is_sound_image (sym left),
      omega (arith, on_short s.image.now s.line.now (λ j. search rules), ap (λ (a : Answer). length (answer_line a)) said),
    )
