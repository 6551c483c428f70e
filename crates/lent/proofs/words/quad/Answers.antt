-- The kit's number of four octets (`four`).
use Rattle.std.proofs.Common.{take, drop, ap, ◌∙◌, arith, length-drop}
use Rattle.std.specs.Int.{w32, from_le_bytes}
use lib.Seq.{length-take-le}
use Rattle.lent.proofs.Bytes.{four}
use Rattle.lent.proofs.words.quad.Goals as goal

pub returns : goal.returns
returns c =
    let rest = drop c.args.at c.args.octets.now in
    c.from_le_bytes.ensures ∙ ap (from_le_bytes w32) c.run.ensures ∙ four (take 4 rest) (length-take-le 4 rest (omega (arith, length-drop c.args.at c.args.octets.now)))
