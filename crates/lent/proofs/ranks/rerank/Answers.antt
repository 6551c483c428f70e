-- Each of the four ways is a clause of the definition. A side has at most 96 calls, and so one more has a rank that is an octet.
use Rattle.std.proofs.Common.{sym, ap, ◌∙◌, arith, eq-eqb, ne_eqb}
use Rattle.table.specs.Places.{side_at}
use Rattle.table.specs.Ranks.{calls_on}
use Rattle.table.proofs.RankLaws.{calls_few}
use Rattle.image.specs.Image.{place_start, table_from}
use Rattle.image.proofs.Round.{size_from}
use Rattle.image.proofs.PlaceLaws.{free_octet}
use Rattle.lent.proofs.ranks.rerank.Goals as goal

pub overflow_add-image : goal.overflow_add-image
overflow_add-image c =
    let s = c.args.image.now in
    let calls = c.calls_of.ensures ∙ ap (calls_on (table_from s)) c.at-a.ensures in
    omega (arith, calls, calls_few (table_from s) (side_at c.args.i), size_from s)

pub returns-then-not-is_free : goal.returns-then-not-is_free
returns-then-not-is_free c =
    let s = c.args.image.now in
    let calls = c.calls_of.ensures ∙ ap (calls_on (table_from s)) c.at-a.ensures in
    let was = free_octet s (place_start c.args.i) ∙ eq-eqb _ 0 c.if-image-at-eq0.true in
    let is = sym c.is_free.ensures ∙ c.if-not-is_free.true in
    rw (was, is, calls)

pub returns-else-not-is_free : goal.returns-else-not-is_free
returns-else-not-is_free c =
    let s = c.args.image.now in
    let was = free_octet s (place_start c.args.i) ∙ eq-eqb _ 0 c.if-image-at-eq0.true in
    let is = sym c.is_free.ensures ∙ c.if-not-is_free.false in
    rw (was, is)

pub returns-then-is_free : goal.returns-then-is_free
returns-then-is_free c =
    let s = c.args.image.now in
    let was = free_octet s (place_start c.args.i) ∙ ne_eqb _ 0 c.if-image-at-eq0.false in
    let is = sym c.is_free-else-image-at-eq0.ensures ∙ c.if-is_free.true in
    rw (was, is) (rw (c.close_up.ensures, c.at-a.ensures))

pub returns-else-is_free : goal.returns-else-is_free
returns-else-is_free c =
    let s = c.args.image.now in
    let was = free_octet s (place_start c.args.i) ∙ ne_eqb _ 0 c.if-image-at-eq0.false in
    let is = sym c.is_free-else-image-at-eq0.ensures ∙ c.if-is_free.false in
    rw (was, is)
