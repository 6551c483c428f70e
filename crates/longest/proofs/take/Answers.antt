-- The length that is offered fits the array: no answer at an image has a longer line (`on_short`).
use Rattle.std.proofs.Common.{◌≡◌, ℕ, ◌<◌, ◌≤◌, List, length, get_or, arith, rules, sym, ap}
use Rattle.std.proofs.Math.ListN.{replicate}
use Rattle.std.proofs.lemmas.List.{length-take-le}
use Rattle.events.specs.declared.Answer.{Answer}
use Rattle.lines.specs.AnswerLine.{answer_line}
use Rattle.lent.specs.Lent.{step_on}
use Rattle.lent.proofs.Short.{on_short}
use Rattle.longest.proofs.take.Goals as goal

fits :
    (image line : List ℕ) (a : Answer) (n : ℕ)
    → ((k : ℕ) → get_or image k 0 < 256)
    → a ≡ (step_on image line).answer
    → n ≡ length (answer_line a)
    → n ≤ 77
fits image line a n octets same count =
    omega (arith, count, ap (λ (x : Answer). length (answer_line x)) same, on_short image line octets)

pub slice_bounds-room-end : goal.slice_bounds-room-end
slice_bounds-room-end g c =
    fits c.args.image.now c.args.line.now _ _ (λ j. search rules) c.answer_line-a.ensures.0 c.answer_length-offered.ensures

pub slice_bounds-print_answer-end : goal.slice_bounds-print_answer-end
slice_bounds-print_answer-end g c =
    sym
    (length-take-le
    c.answer_length-offered.result
    (replicate 77 0)
    (fits c.args.image.now c.args.line.now _ _ (λ j. search rules) c.answer_line-a.ensures.0 c.answer_length-offered.ensures))
