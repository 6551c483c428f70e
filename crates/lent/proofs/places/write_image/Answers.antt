-- The test of a table's image is the test of the table (`tested`).
use Rattle.std.proofs.Common.{refl, sym, ◌∙◌, eq-eqb}
use Rattle.image.specs.Image.{image_octets}
use Rattle.lent.proofs.Kept.{tested}
use Rattle.lent.proofs.places.write_image.Goals as goal

pub returns-then-not-places_sound : goal.returns-then-not-places_sound
returns-then-not-places_sound c =
    let there = c.octets_of-octets.ensures in
    let sound = tested c.places_sound.ensures there in
    rw (eq-eqb _ image_octets c.if-out-ne-IMAGE_OCTETS.false, sym sound ∙ c.if-not-places_sound.true) (refl, refl)

pub returns : goal.returns
returns c =
    let there = c.octets_of-octets.ensures in
    let sound = tested c.places_sound.ensures there in
    rw (eq-eqb _ image_octets c.if-out-ne-IMAGE_OCTETS.false, sym sound ∙ c.if-not-places_sound.false) (refl, c.copy_from_slice.ensures.after ∙ there.0)
