-- A part that is written is a run of stores (`part_put`).
use Rattle.std.proofs.Common.{◌+◌, ◌-◌, rules}
use Rattle.lent.proofs.Bytes.{part_put}
use Rattle.lent.proofs.octets.put_run.Goals as goal

pub returns : goal.returns
returns g c =
    part_put c.args.at (c.args.at + g.row.N - c.args.at) c.args.image.now c.copy_from_slice.new.self c.args.octets
    c.copy_from_slice.ensures.after
    (search rules)
    (search rules)
