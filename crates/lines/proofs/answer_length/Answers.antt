-- No field has more than 32 octets.
use Rattle.std.proofs.Common.{◌≡◌, length, arith, rules}
use lib.Dec.{lit≤}
use Rattle.fields.proofs.Texts.{any_call, line_few}
use Rattle.lines.specs.AnswerLine.{answer_fields, answer_values}
use Rattle.lines.proofs.answer_length.Goals as goal

pub overflow_add-result : goal.overflow_add-result
overflow_add-result c =
    let a = c.args.a in
    let long : length a.call ≡ 16 = search rules in
    omega (arith, c.length.ensures, any_call answer_fields (answer_values a) a.call long, line_few answer_fields (answer_values a) (lit≤ tt))
