-- The length is that of the line with any call; a description of more than fourteen fields has no line.
use Rattle.std.proofs.Common.{◌≡◌, length, sym, ap, ◌∙◌, arith, rules}
use Rattle.fields.proofs.Texts.{any_call, line_whole}
use Rattle.fields.proofs.write_fields.Goals as goal

pub put_fields-requires : goal.put_fields-requires
put_fields-requires c =
    let a = c.args in
    let long : length a.fields.call ≡ 16 = search rules in
    let counted = c.fields_length.ensures ∙ sym (any_call a.description.now a.fields.values a.fields.call long) in
    let few = c.if-description-gt-MOST_FIELDS.false in
    (few, omega (arith, counted, ap length (line_whole a.description.now a.fields.values a.fields.call few)))
