-- The answer fits the buffer (`on_short`), so it is written.
use Rattle.std.proofs.Common.{◌≡◌, ℕ, ◌≤◌, List, length, ap, ◌∙◌, arith, rules, le-ltb}
use Rattle.lines.specs.AnswerLine.{answer_line, answer_room}
use Rattle.lent.specs.Lent.{step_on}
use Rattle.lent.proofs.Short.{on_short}
use Rattle.entry.proofs.park_step.Goals as goal

pub returns : goal.returns
returns c =
    let s = c.args in
    let text : List ℕ = answer_line (step_on s.image.now s.line.now).answer in
    let short : length text ≤ answer_room = omega (arith, on_short s.image.now s.line.now (λ j. search rules)) in
    let long = le-ltb (length s.answer.now) answer_room c.if-answer-lt-ANSWER_ROOM.false in
    let given : answer_line c.answer_line-a.result ≡ text = ap answer_line c.answer_line-a.ensures.0 in
    let fits = le-ltb (length s.answer.now) (length text) (omega (arith, short)) in
    let count : c.write_answer.result ≡ length text = c.write_answer.ensures.0 ∙ rw (given, fits) in (
      rw long count,
      rw long c.answer_line-a.ensures.1,
      rw long (c.write_answer.ensures.1 ∙ rw (given, fits)),
      omega (arith, short, count),
    )
