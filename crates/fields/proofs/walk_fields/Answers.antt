-- A turn goes on by a field or ends the walk, by the laws of `Walk`.
use Rattle.std.proofs.Common.{◌≡◌, ◌+◌, ◌-◌, ◌<◌, length, drop, sym, ap, ap₂, ◌∙◌, arith, None}
use Rattle.std.proofs.lemmas.Result.{err_from_is_err_and}
use Rattle.std.proofs.Math.ListN.{length-set}
use Rattle.laws.proofs.Runs.{part_rest}
use Rattle.fields.specs.declared.Kind.TheVariants.{Call, Number}
use Rattle.fields.specs.declared.Fault.TheVariants.{BadField}
use Rattle.fields.specs.Parts.{before}
use Rattle.fields.specs.Calls.{call_of}
use Rattle.fields.specs.Numbers.{number_of}
use Rattle.fields.specs.Line.{walk}
use Rattle.fields.proofs.Walk.{blamed, at_kind, call_bad, number_bad, call_good, number_good, tab_on}
use Rattle.fields.proofs.walk_fields.Goals as goal
use Rattle.fields.proofs.walk_fields.Goals.{in-Call+in_ok-call-in-Call, in-Number+in_ok-value-in-Number}

pub returns-in_err-call-in-Call : goal.returns-in_err-call-in-Call
returns-in_err-call-in-Call c =
    let line = c.args.line.now in
    let l = c.loop-i in
    let field = c.first_field-field.ensures ∙ ap before (part_rest line l.at) in
    let none : c.read_call.result ≡ None = c.in_err-call-in-Call.ensures.ok_part in
    let here = at_kind c.args.description.now l.i Call Call c.loop-i-test.true c.in-Call.is in
    let p = err_from_is_err_and c.from_residual.result c.from_residual.ensures.1 in
    let blamed : c.in_err-call-in-Call.field-0.0 ≡ BadField (l.i + 1) = blamed c.read_call.result _ _ none c.in_err-call-in-Call.ensures.value in
    rw (p.1, p.2, blamed)
    (sym (call_bad line _ _ l.values l.call l.at l.i here (sym (c.read_call.ensures ∙ ap call_of field) ∙ none)) ∙ l.invariant.3)

pub returns-in_err-value-in-Number : goal.returns-in_err-value-in-Number
returns-in_err-value-in-Number c =
    let line = c.args.line.now in
    let l = c.loop-i in
    let most = c.in-Number.most in
    let field = c.first_field-field.ensures ∙ ap before (part_rest line l.at) in
    let none : c.read_number.result ≡ None = c.in_err-value-in-Number.ensures.ok_part in
    let here = at_kind c.args.description.now l.i Call (Number most) c.loop-i-test.true c.in-Number.is in
    let p = err_from_is_err_and c.from_residual-in_err-value-in-Number.result c.from_residual-in_err-value-in-Number.ensures.1 in
    let blamed : c.in_err-value-in-Number.field-0.0 ≡ BadField (l.i + 1) = blamed c.read_number.result _ _ none c.in_err-value-in-Number.ensures.value in
    rw (p.1, p.2, blamed)
    (sym (number_bad line _ _ l.values l.call l.at l.i most here (sym (c.read_number.ensures ∙ ap₂ number_of field c.from.ensures) ∙ none)) ∙ l.invariant.3)

pub loop-i-preserved : goal.loop-i-preserved
loop-i-preserved c =
    let line = c.args.line.now in
    let kinds = c.args.description.now in
    let l = c.loop-i in
    let at = l.at in
    let i = l.i in
    let part = c.first_field-field.result.now in
    let within : i < length kinds = c.loop-i-test.true in
    let field : part ≡ before (drop at line) = c.first_field-field.ensures ∙ ap before (part_rest line at) in
    let e = length part in
    let ends : e ≡ length (before (drop at line)) = ap length field in
    let here = l.invariant.2 within in (
      omega arith,
      elim c.match-kind.branch [
        | in-Call+in_ok-call-in-Call w ↦ ap length w.values-is ∙ l.invariant.1
        | in-Number+in_ok-value-in-Number w ↦ ap length w.values-is ∙ length-set l.values i _ ∙ l.invariant.1
      ],
      λ more. let t = tab_on line at e (length kinds - (i + 1) - 1) here.0 ends (omega arith) in (t.0, omega arith),
      elim c.match-kind.branch [
        | in-Call+in_ok-call-in-Call w ↦
            ap₂ (walk (drop (i + 1) kinds) (i + 1) (drop (at + (e + 1)) line)) w.values-is w.call-is
            ∙ sym (call_good line _ _ l.values l.call at i e ends w.in_ok-call-in-Call.call (at_kind kinds i Call Call within w.in-Call.is)
            (sym (w.read_call.ensures ∙ ap call_of field) ∙ w.in_ok-call-in-Call.ensures.ok_part))
        | in-Number+in_ok-value-in-Number w ↦
            ap₂ (walk (drop (i + 1) kinds) (i + 1) (drop (at + (e + 1)) line)) w.values-is w.call-is
            ∙ sym (number_good line _ _ l.values l.call at i e ends w.in-Number.most w.in_ok-value-in-Number.value
            (at_kind kinds i Call (Number w.in-Number.most) within w.in-Number.is)
            (sym (w.read_number.ensures ∙ ap₂ number_of field w.from.ensures) ∙ w.in_ok-value-in-Number.ensures.ok_part))
      ] ∙ l.invariant.3,
    )
