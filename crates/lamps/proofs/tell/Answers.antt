-- The step is the table's own; the place of an accepted event is one of the table's (`accepted_inside`). That the arrays have their lengths, which a
-- search does not reach here, is taken from what is known of the argument's type.
use Rattle.std.proofs.Common.{◌≡◌, length}
use Rattle.table.specs.Places.{place_count}
use Rattle.lamps.proofs.Accepted.{accepted_inside}
use Rattle.lamps.proofs.tell.Goals as goal

pub notify-lit-requires : goal.notify-lit-requires
notify-lit-requires c =
    let t = c.args.s.table in
    let size : length t.places ≡ place_count = c.well_formed.0.1.1.0.1.1.0.1.0.1 in
    let ranks : length t.ranks ≡ place_count = c.well_formed.0.1.1.0.1.1.1.0.1.0.1 in
    accepted_inside t c.args.e c.single_step-done.result (size, ranks) c.single_step-done.ensures c.if-answer-eq0.true
