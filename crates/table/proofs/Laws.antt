-- Two calls, compared from an index on and past their end; bounds of the numbers of a side and of a place's share in the sums.
use mathlib.Core.Path.{◌≡◌}
use mathlib.Core.Bool.{Bool, true, false, cond, ◌&&◌}
use mathlib.Core.List.{List}
use Prim.Native.Nat.{ℕ, ◌+◌, ◌-◌, ◌<◌, ◌≤◌, ◌^◌}
use native.Mathlib.Numerals.{add-one}
use native.Mathlib.Omega.{arith}
use Rattle.std.specs.Int.Bits.{bit_and}
use Rattle.std.proofs.lemmas.Nat.{and-not, and_comm}
use lib.Dec.{eqb, lit<, lit≤}
use lib.Count.{ones, ones-le}
use lib.ListN.{length, drop, get_or, drop_of_length-le}
use lib.Seq.{drop-cons}
use Rattle.table.specs.declared.State.{State}
use Rattle.table.specs.declared.State.TheVariants.{Free, ParkWaiting, LineWaiting, Requested, RemoteRequested, HandedOver}
use Rattle.table.specs.declared.Side.{Side}
use Rattle.table.specs.declared.Side.TheVariants.{Position, Line}
use Rattle.table.specs.Places.{side_index, call_octets}
use Rattle.table.specs.Timers.{timer_set, without}
use Rattle.table.specs.Search.{same_call}
use Rattle.table.specs.Status.{waits_in}

pub same_at : (a b : List ℕ) (i : ℕ) → i < length a → i < length b
    → same_call (drop i a) (drop i b) ≡ eqb (get_or a i 0) (get_or b i 0) && same_call (drop (i + 1) a) (drop (i + 1) b)
same_at a b i ha hb = rw (add-one, drop-cons a i 0, drop-cons b i 0)

pub same_end : (a b : List ℕ) (i : ℕ) → length a ≤ i → length b ≤ i → same_call (drop i a) (drop i b) ≡ true
same_end a b i ha hb = rw (drop_of_length-le a ha, drop_of_length-le b hb)

-- past the last octet two calls agree, as the loop over them begins
pub same_past : (a b : List ℕ) → length a ≡ call_octets → length b ≡ call_octets
    → (call_octets ≤ call_octets) × (same_call (drop call_octets a) (drop call_octets b) ≡ true)
same_past a b ha hb = (lit≤ tt, same_end a b call_octets (omega arith) (omega arith))

pub side_below : (a : Side) → side_index a < 2
side_below Position = lit< tt
side_below Line = lit< tt

pub one_or_none : (b : Bool) → cond {A = ℕ} b 1 0 ≤ 1
one_or_none true = lit≤ tt
one_or_none false = lit≤ tt

pub waits_le : (s : State) → waits_in s ≤ 1
waits_le Free = lit≤ tt
waits_le ParkWaiting = lit≤ tt
waits_le LineWaiting = lit≤ tt
waits_le Requested = lit≤ tt
waits_le RemoteRequested = lit≤ tt
waits_le HandedOver = lit≤ tt

pub timer_below : (a : Side) (s : State) → timer_set a s < 2 ^ 3
timer_below Position Free = lit< tt
timer_below Position ParkWaiting = lit< tt
timer_below Position LineWaiting = lit< tt
timer_below Position Requested = lit< tt
timer_below Position RemoteRequested = lit< tt
timer_below Position HandedOver = lit< tt
timer_below Line Free = lit< tt
timer_below Line ParkWaiting = lit< tt
timer_below Line LineWaiting = lit< tt
timer_below Line Requested = lit< tt
timer_below Line RemoteRequested = lit< tt
timer_below Line HandedOver = lit< tt

-- the bits of a set that are not in another, by the complement of that
pub without_is : (a b : ℕ) → a < 256 → b < 256 → bit_and a (255 - b) ≡ without a b
without_is a b ha hb = omega (arith, and-not 8 b a hb ha, and_comm a (255 - b), and_comm a b)

-- a place runs at most three timers
pub ones_few : (a : Side) (s : State) → ones (timer_set a s) ≤ 3
ones_few a s = ones-le 3 (timer_set a s) (timer_below a s)
