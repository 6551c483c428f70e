-- There is room for the answer, so it is written, and written into the part from the index on it is a run of stores there
-- (`part_sets`).
use Rattle.std.proofs.Common.{◌≡◌, ℕ, ◌-◌, ◌≤◌, List, length, take, drop, ap, ◌∙◌, arith, rules, length-drop, le-ltb}
use Rattle.std.proofs.lemmas.List.Edits.{sets}
use Rattle.laws.proofs.Runs.{part_rest}
use Rattle.image.specs.Image.{is_sound_image}
use Rattle.lines.specs.AnswerLine.{answer_line, answer_room}
use Rattle.lent.specs.Lent.{step_on, left_on}
use Rattle.lent.specs.Session.{pending, end_line}
use Rattle.lent.proofs.Ends.{part_sets}
use Rattle.lent.proofs.KeepLaws.{take_at_most}
use Rattle.lent.proofs.session.Session.end_line.Goals as goal

pub returns : goal.returns
returns c =
    let s = c.args.self.now in
    let w = c.write_answer in
    let a = c.answer_at-answer in
    let out : List ℕ = c.args.out.now in
    let size : length s.kept ≡ 63 = search rules in
    let line : take c.min.result s.kept ≡ pending s = ap (λ (n : ℕ). take n s.kept) c.min.ensures ∙ take_at_most s.len s.kept size in
    let text : List ℕ = answer_line (end_line s).answer in
    let part : List ℕ = take (length out - c.args.at) (drop c.args.at out) in
    let long : length part ≡ length out - c.args.at = ap length (part_rest out c.args.at) ∙ length-drop c.args.at out in
    let given : answer_line a.result ≡ text = ap answer_line (a.ensures.0 ∙ ap (λ (l : List ℕ). (step_on s.image l).answer) line) in
    let short : length text ≤ answer_room = omega (arith, a.ensures.3, ap length given) in
    let fits = le-ltb (length part) (length text) (omega (arith, long)) in
    let count : w.result ≡ length text = w.ensures.0 ∙ rw (given, fits) in
    let last : w.new.out ≡ sets part 0 text = w.ensures.1 ∙ rw (given, fits) in (
      count,
      rw last (part_sets out text c.args.at (omega arith)),
      omega arith,
      λ j. record { image = (a.ensures.1 ∙ ap (left_on s.image) line) j; kept = s.kept; len = 0 },
      a.ensures.2 ∙ ap (λ (l : List ℕ). is_sound_image (left_on s.image l)) line,
    )
