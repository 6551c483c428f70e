-- The event, or that of all zeros.
use Rattle.std.proofs.Common.{◌≡◌, sym, ap, ◌∙◌, Ok, Err, Result}
use Rattle.std.specs.Result.{ResultUnwrapsOrElse}
use Rattle.std.proofs.Math.Seq.{ext_get_or}
use Rattle.laws.proofs.Runs.{zeros_get}
use Rattle.events.specs.contracts.EventDefault.TheImpl.{is_default-value}
use Rattle.events.specs.declared.Event.{Event}
use Rattle.lines.specs.declared.BadLine.{BadLine}
use Rattle.table.specs.Places.{no_call}
use Rattle.lines.specs.EventLine.{event_or_zeros, event_said}
use Rattle.lines.proofs.event_said.Goals as goal

or_zeros : (r : Result Event BadLine) (e : Event) → ResultUnwrapsOrElse r is_default-value.it e → e ≡ event_or_zeros r
or_zeros (Ok x) e h = h
or_zeros (Err b) e h =
    let all = h.1.0 in
    let call : e.call ≡ no_call = ext_get_or 0 e.call no_call all.long (λ i within. all.at i 0 (rw all.long at within) ∙ sym (zeros_get 16 i)) in
    let ids = h.1.1 in
    λ i. record {
      kind = h.0 i;
      call = call i;
      place = record { 0 = ids.0 i };
      choice = ids.1.0 i;
      connection = record { 0 = ids.1.1.0 i };
      invoke = record { 0 = ids.1.1.1.0 i };
      timer = ids.1.1.1.1 i;
    }

pub returns : goal.returns
unfolding event_said
returns c = or_zeros _ _ c.unwrap_or_default.ensures ∙ ap event_or_zeros c.read_event.ensures
