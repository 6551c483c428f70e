-- A turn gives the first of the lines that are left.
use Rattle.std.proofs.Common.{sym, ◌∙◌}
use Rattle.input.proofs.FirstLine.{line_at, last_line, goes, not_empty}
use Rattle.input.proofs.LinesIterator.next.Goals as goal

pub returns-in-Some-clause-steps : goal.returns-in-Some-clause-steps
returns-in-Some-clause-steps c =
    sym c.self.view_is ∙ line_at c.self.inside.rest.now c.in-Some.end c.in-Some.ensures (not_empty _ _ c.is_empty.ensures c.if-is_empty.false)

pub returns-in-Some-clause-goes : goal.returns-in-Some-clause-goes
returns-in-Some-clause-goes c =
    goes
    _
    (λ _. tt)
    _
    _
    _
    (sym c.self.view_is ∙ line_at c.self.inside.rest.now c.in-Some.end c.in-Some.ensures (not_empty _ _ c.is_empty.ensures c.if-is_empty.false))

pub returns-in-None-clause-steps : goal.returns-in-None-clause-steps
returns-in-None-clause-steps c =
    sym c.self.view_is ∙ last_line c.self.inside.rest.now c.in-None.ensures (not_empty _ _ c.is_empty.ensures c.if-is_empty.false)

pub returns-in-None-clause-goes : goal.returns-in-None-clause-goes
returns-in-None-clause-goes c =
    goes
    _
    (λ _. tt)
    _
    _
    _
    (sym c.self.view_is ∙ last_line c.self.inside.rest.now c.in-None.ensures (not_empty _ _ c.is_empty.ensures c.if-is_empty.false))
