-- The closure gives the timer of a member that has still to reply, or has not.
use Rattle.std.proofs.Common.{◌≡◌, false, length, rules}
use Rattle.lamps.specs.Members.{timer_in, gp_in}
use Rattle.lamps.proofs.Maps.{map_same}
use Rattle.lamps.proofs.members.Lamp.timers.Goals as goal

pub returns : goal.returns
returns c =
    let x = c.args.self in
    let many : length x.pending ≡ 8 = search rules in
    map_same _ (λ pending. timer_in (gp_in x.indication pending)) _ (λ p t f k. search rules) x.pending c.map.result false 8 many c.map.ensures.items
