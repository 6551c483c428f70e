-- A turn writes the two digits of the next octet.
use Rattle.std.proofs.Common.{◌≡◌, ℕ, ◌+◌, ◌*◌, length, take, set, sym, ap, ap₂, ◌∙◌, arith, rules, length-take-le}
use Rattle.std.proofs.lemmas.List.Edits.{sets}
use Rattle.laws.proofs.Runs.{sets_two}
use Rattle.fields.specs.Calls.{hex_of}
use Rattle.fields.proofs.Hexadecimal.{length_hex, hex_more}
use Rattle.fields.proofs.calls.put_call.Goals as goal

pub loop-i-preserved : goal.loop-i-preserved
loop-i-preserved c =
    let l = c.loop-i in
    let long : length c.args.call ≡ 16 = search rules in
    let place : l.i * 2 ≡ 0 + length (hex_of (take l.i c.args.call)) =
    omega (arith, length_hex (take l.i c.args.call), length-take-le l.i c.args.call (omega arith)) in
    ap₂ (λ (x y : ℕ). set (set l.out (l.i * 2) x) (l.i * 2 + 1) y) c.digit.ensures c.digit-in-loop-i.ensures
    ∙ sets_two (hex_of (take l.i c.args.call)) c.args.out.now l.out 0 (l.i * 2) _ _ place l.invariant
    ∙ ap (sets c.args.out.now 0) (sym (hex_more c.args.call l.i (omega arith)))
