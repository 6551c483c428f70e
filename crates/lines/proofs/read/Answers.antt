-- What is read is within the ranges of the fields.
use Rattle.std.proofs.Common.{◌≡◌, Ok}
use Rattle.std.proofs.lemmas.Result.{IfOk-at_ok}
use Rattle.fields.specs.Line.{read_fields}
use Rattle.fields.specs.Round.{Ranged}
use Rattle.fields.proofs.Ranged.{read_ranged}
use Rattle.lines.proofs.read.Goals as goal

pub of_fields-requires : goal.of_fields-requires
of_fields-requires g c =
    let ranged = read_ranged c.LONGEST.result c.kinds.result.now c.args.line.now in
    let was : read_fields c.LONGEST.result c.kinds.result.now c.args.line.now ≡ Ok c.in_ok-read_fields.field-0 =
    rw c.read_fields.ensures at c.in_ok-read_fields.was in
    rw (← c.kinds.ensures) (IfOk-at_ok (Ranged c.kinds.result.now) was ranged)
