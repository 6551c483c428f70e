-- What was found before has the lower rank octet, or this place has.
use Rattle.std.proofs.Common.{le-ltb, lt-ltb}
use Rattle.image.proofs.Round.{rank_at_lem}
use Rattle.lent.proofs.search.earlier_of.Goals as goal

pub returns-in-Some : goal.returns-in-Some
returns-in-Some c =
    let here = rank_at_lem c.args.image.now c.args.n c.requires.0 in
    let there = rank_at_lem c.args.image.now _ (c.requires.1 _ c.in-Some.is) in
    rw (c.in-Some.is, here, there, le-ltb _ _ c.if-image-i.true)

pub returns-in_default : goal.returns-in_default
returns-in_default c =
    let here = rank_at_lem c.args.image.now c.args.n c.requires.0 in
    let there = rank_at_lem c.args.image.now _ (c.requires.1 _ c.in-Some.is) in
    rw (c.in-Some.is, here, there, lt-ltb _ _ c.if-image-i.false)
