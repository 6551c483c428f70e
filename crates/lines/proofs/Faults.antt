-- The numbers of refusals: at most 24, and of a line 0 only where it reads. A line that is too long is refused with 21, whatever stands in it.
use mathlib.Core.Path.{◌≡◌, refl, ap}
use mathlib.Core.List.{List}
use Prim.Native.Nat.{ℕ, ◌≤◌, ◌<◌}
use native.Mathlib.Omega.{arith}
use lib.Dec.{lit≤}
use lib.ListN.{length}
use Rattle.std.specs.Prelude.{Result, Ok, Err}
use Rattle.events.specs.declared.Event.{Event}
use Rattle.fields.proofs.Walk.{line_long}
use Rattle.lines.specs.declared.BadLine.{BadLine}
use Rattle.lines.specs.declared.BadLine.TheVariants.{TooLong, WrongCount, BadNumber, BadCall}
use Rattle.lines.specs.EventLine.{event_fields, longest_event, reading, taken, refusal_number, number_in, read_line}

pub refusal_most : (b : BadLine) → refusal_number b ≤ 24
refusal_most TooLong = lit≤ tt
refusal_most WrongCount = lit≤ tt
refusal_most BadNumber = lit≤ tt
refusal_most BadCall = lit≤ tt

pub number_most : (r : Result Event BadLine) → number_in r ≤ 24
number_most (Ok e) = lit≤ tt
number_most (Err b) = refusal_most b

refusal_above : (b : BadLine) → 0 < refusal_number b
refusal_above TooLong = omega arith
refusal_above WrongCount = omega arith
refusal_above BadNumber = omega arith
refusal_above BadCall = omega arith

pub is_read : (r : Result Event BadLine) → number_in r ≡ 0 → (e : Event) × (r ≡ Ok e)
is_read (Ok e) h = (e, refl)
is_read (Err b) h = absurd (omega (arith, refusal_above b))

-- a line that is too long says nothing else
pub long_line : (s : List ℕ) → longest_event < length s → read_line s ≡ Err TooLong
unfolding read_line reading
long_line s h = ap taken (line_long longest_event event_fields s h)
