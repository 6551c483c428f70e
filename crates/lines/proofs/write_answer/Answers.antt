-- The line is written into all of the buffer but its last octet, and the feed after it (`Feed`).
use Rattle.std.proofs.Common.{◌≡◌, ◌-◌, ◌<◌, length, take, arith, rules}
use Rattle.events.specs.declared.Answer.{Answer}
use Rattle.fields.specs.Line.{Writes}
use Rattle.laws.proofs.Runs.{length_snoc}
use Rattle.lines.specs.AnswerLine.{answer_text, answer_line}
use Rattle.lines.proofs.Lengths.{length_answer}
use Rattle.lines.proofs.Feed.{none_written, feed_written}
use Rattle.lines.proofs.write_answer.Goals as goal

-- no line is empty
some : (a : Answer) → length a.call ≡ 16 → 0 < length (answer_text a)
unfolding answer_line
some a h = omega (arith, length_snoc (answer_text a) 10, length_answer a h)

pub returns-then-n-eq0 : goal.returns-then-n-eq0
unfolding answer_line
returns-then-n-eq0 c =
    let a = c.args.a in
    let out = c.args.out.now in
    let long : length a.call ≡ 16 = search rules in
    let wrote : Writes (take (length out - 1) out) (answer_text a) c.write-n.result c.write-n.new.out = c.write-n.ensures in
    none_written out (answer_text a) _ _ (omega arith) (some a long) wrote c.if-n-eq0.true

pub returns : goal.returns
unfolding answer_line
returns c =
    let a = c.args.a in
    let out = c.args.out.now in
    let long : length a.call ≡ 16 = search rules in
    let wrote : Writes (take (length out - 1) out) (answer_text a) c.write-n.result c.write-n.new.out = c.write-n.ensures in
    feed_written out (answer_text a) _ _ (omega arith) (some a long) wrote c.if-n-eq0.false
