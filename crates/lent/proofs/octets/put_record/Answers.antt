-- The parts of a record are one run of its octets (`record_parts`).
use Rattle.std.proofs.Common.{◌≡◌, ℕ, ◌+◌, List, length, ap, ◌∙◌, rules}
use Rattle.std.proofs.lemmas.List.Edits.{sets}
use Rattle.table.specs.Places.{call_octets}
use Rattle.image.specs.Image.{place_start, connection_offset, count_offset}
use Rattle.image.proofs.Fills.{length_octets}
use Rattle.lent.proofs.Bytes.{pair_written, record_parts}
use Rattle.lent.proofs.octets.put_record.Goals as goal

pub returns : goal.returns
returns c =
    let r = c.args.r in
    let at : ℕ = place_start c.args.i in
    let long : length r.call ≡ call_octets = search rules in
    let connection = c.to_be_bytes.ensures ∙ pair_written r.connection.0 (search rules) in
    let count = c.to_be_bytes-2.ensures ∙ pair_written r.count.0 (search rules) in (
      c.put_run-3.ensures
          ∙ ap (λ (l : List ℕ). sets l (at + count_offset) c.to_be_bytes-2.result)
          (c.put_run-2.ensures ∙ ap (λ (l : List ℕ). sets l (at + connection_offset) c.to_be_bytes.result) c.put_run.ensures)
          ∙ record_parts c.args.image.now at c.from.result r c.to_be_bytes.result c.to_be_bytes-2.result long c.from.ensures connection count,
      length_octets r long,
    )
