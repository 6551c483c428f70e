-- No marks (`entering_none`).
use Rattle.std.proofs.Common.{refl}
use Rattle.table.proofs.MarkLaws.{entering_none}
use Rattle.image.specs.Image.{table_from}
use Rattle.lent.proofs.marks.Marks.none.Goals as goal

pub returns : goal.returns
returns c = (c.calls_in.ensures, entering_none (table_from c.args.image.now) _ refl)
