-- The places are written, and the test of what is written is the test of the table (`tested`); the tally of a table's image is the table's.
use Rattle.std.proofs.Common.{ℕ, Ok, List, sym, ap, ◌∙◌}
use Rattle.table.specs.Status.{tally_of}
use Rattle.image.specs.Image.{table_from}
use Rattle.image.proofs.Round.{table_back}
use Rattle.lent.proofs.Kept.{tested}
use Rattle.lent.proofs.status.status_of.Goals as goal

pub returns-then-places_sound : goal.returns-then-places_sound
returns-then-places_sound c =
    let there = c.octets_of-octets.ensures in
    let sound = tested c.places_sound.ensures there in
    rw (sym sound ∙ c.if-places_sound.true) (ap Ok (c.tally.ensures ∙ ap (λ (s : List ℕ). tally_of (table_from s)) there.0 ∙ ap tally_of (table_back _ there.1)))

pub returns-else-places_sound : goal.returns-else-places_sound
returns-else-places_sound c =
    let there = c.octets_of-octets.ensures in
    let sound = tested c.places_sound.ensures there in
    rw (sym sound ∙ c.if-places_sound.false)
