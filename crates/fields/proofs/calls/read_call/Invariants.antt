-- The first loop has the value of each octet that it passed, none above the largest, and where the largest is no digit's the call is bad.
-- In the second the call of the whole is the octets so far, read on through the rest of the digits.
use Rattle.std.proofs.Common.{◌≡◌, ℕ, ◌*◌, ◌<◌, length, take, drop, None}
use Rattle.fields.specs.Calls.{call_of, call_from}
use Rattle.fields.proofs.CallLaws.{Stored}
use Rattle.fields.proofs.calls.read_call.Given as goal

abbrev pub invariant-loop-k : goal.invariant-loop-k
invariant-loop-k l = (length l.values ≡ 32) × (15 < l.most → call_of l.part ≡ None) × ((n : ℕ) → n < l.k → Stored l.part l.values l.most n)

abbrev pub invariant-loop-i : goal.invariant-loop-i
invariant-loop-i l = (length l.octet-items ≡ 16) × (call_from (take l.i l.octet-items) (drop (l.i * 2) l.part) ≡ call_of l.part)
