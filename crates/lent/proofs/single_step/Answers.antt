-- The places are written, and the test of what is written is the test of the table (`tested`); the event at a sound table's image, read back,
-- is the step at the table (`step_back`).
use Rattle.std.proofs.Common.{◌≡◌, length, sym, ◌∙◌, rules}
use Rattle.lent.proofs.Kept.{tested, step_back}
use Rattle.lent.proofs.single_step.Goals as goal

pub returns-then-places_sound : goal.returns-then-places_sound
returns-then-places_sound c =
    let there = c.octets_of-octets.ensures in
    let long : length c.args.e.call ≡ 16 = search rules in
    let sound = tested c.places_sound.ensures there in
    rw (c.read_places.ensures, c.act_on-answer.ensures.0, c.act_on-answer.ensures.1, there.0)
    (step_back c.args.t there.1 (sym sound ∙ c.if-places_sound.true) c.args.e long)

pub returns-else-places_sound : goal.returns-else-places_sound
returns-else-places_sound c =
    let there = c.octets_of-octets.ensures in
    let sound = tested c.places_sound.ensures there in
    rw (sym sound ∙ c.if-places_sound.false, c.decline.ensures)
