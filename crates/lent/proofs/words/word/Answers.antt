-- The kit's number of eight octets (`eight`).
use Rattle.std.proofs.Common.{take, drop, ap, ◌∙◌, arith, length-drop}
use Rattle.std.specs.Int.{w64, from_le_bytes}
use lib.Seq.{length-take-le}
use Rattle.lent.proofs.Bytes.{eight}
use Rattle.lent.proofs.words.word.Goals as goal

pub returns : goal.returns
returns c =
    let rest = drop c.args.at c.args.octets.now in
    c.from_le_bytes.ensures ∙ ap (from_le_bytes w64) c.run.ensures ∙ eight (take 8 rest) (length-take-le 8 rest (omega (arith, length-drop c.args.at c.args.octets.now)))
