-- What comes of reading any line: its number is at most 24, and its event, of a refused one too, is within the ranges of its fields.
use mathlib.Core.List.{List}
use Prim.Native.Nat.{ℕ, ◌≤◌}
use Rattle.std.specs.Prelude.{IfOk, Result}
use Rattle.events.specs.declared.Event.{Event}
use Rattle.lines.specs.declared.BadLine.{BadLine}
use Rattle.lines.specs.EventLine.{number_in, read_line, event_or_zeros}
use Rattle.lines.specs.Round.{EventInRange}
use Rattle.lines.proofs.Faults.{number_most}
use Rattle.lines.proofs.Round.{event_read_range, event_or_zeros_range}

pub record Ranged (r : Result Event BadLine) : Type 0 where
  pub number : number_in r ≤ 24
  pub event : IfOk r EventInRange
  -- of a refused line that of all zeros
  pub said : EventInRange (event_or_zeros r)

pub read_ranged : (line : List ℕ) → Ranged (read_line line)
read_ranged line = record {
  number = number_most (read_line line);
  event = event_read_range line;
  said = event_or_zeros_range (read_line line) (event_read_range line);
}
