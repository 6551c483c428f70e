-- The call is compared with all of the octets given (`whole_call`), and the state octet is 0 where the place is free.
use Rattle.std.proofs.Common.{◌≡◌, ◌+◌, ◌*◌, length, take, drop, sym, ap, ◌∙◌, rules}
use Rattle.table.specs.Search.{same_call}
use Rattle.image.specs.Image.{place_octets}
use Rattle.image.proofs.Looks.{holds_same, holds_other, whole_call}
use Rattle.lent.proofs.search.holds_call.Goals as goal

pub returns-then-same_call : goal.returns-then-same_call
returns-then-same_call c =
    let a = c.args in
    let long : length a.call.now ≡ 16 = search rules in
    let agrees = c.same_call.ensures ∙ ap (same_call (take 16 (drop (a.i * place_octets + 1) a.image.now))) (whole_call a.call.now long) in
    sym (holds_same a.image.now a.i a.call.now (sym agrees ∙ c.if-same_call.true))

pub returns-else-same_call : goal.returns-else-same_call
returns-else-same_call c =
    let a = c.args in
    let long : length a.call.now ≡ 16 = search rules in
    let agrees = c.same_call.ensures ∙ ap (same_call (take 16 (drop (a.i * place_octets + 1) a.image.now))) (whole_call a.call.now long) in
    c.if-same_call.false ∙ sym (holds_other a.image.now a.i a.call.now (sym agrees ∙ c.if-same_call.false))
