-- A record is its four callees' results, field by field, and stands at its place (`record_at_lem`).
use Rattle.std.proofs.Common.{sym, ◌∙◌}
use Rattle.image.specs.Image.{record_from}
use Rattle.image.proofs.Round.{record_at_lem}
use Rattle.lent.proofs.octets.read_record.Goals as goal

pub returns : goal.returns
unfolding record_from
returns c =
    (λ j. record {
      state = c.of.ensures j;
      call = c.run.ensures j;
      connection = record { 0 = c.read_pair.ensures j };
      count = record { 0 = c.read_pair-2.ensures j };
    })
    ∙ sym (record_at_lem c.args.image.now c.args.i c.requires)
