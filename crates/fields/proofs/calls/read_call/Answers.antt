-- A turn of the first loop keeps the value of one octet more, and a turn of the second makes an octet of two values.
use Rattle.std.proofs.Common.{ℕ, ◌+◌, ◌*◌, ◌<◌, List, drop, get_or, sym, ap, ◌∙◌, arith}
use Rattle.std.proofs.Math.ListN.{length-set}
use Rattle.laws.proofs.Runs.{fill_more}
use Rattle.fields.specs.Calls.{call_from}
use Rattle.fields.proofs.CallLaws.{Stored, bad_digit, bad_largest, stored_more, call_on}
use Rattle.fields.proofs.calls.read_call.Goals as goal

pub loop-k-preserved : goal.loop-k-preserved
loop-k-preserved c =
    let s = c.args.part.now in
    let l = c.loop-k in
    let v = c.nibble-v.result in (
      length-set l.values l.k v ∙ l.invariant.0,
      bad_largest s l.most v _ c.max-most.ensures l.invariant.1 (λ b. bad_digit s l.k (omega arith) (omega (arith, c.nibble-v.ensures))),
      stored_more s l.values l.most l.k v _ (omega arith) c.nibble-v.ensures (omega arith) (omega arith) l.invariant.2,
    )

pub loop-i-preserved : goal.loop-i-preserved
loop-i-preserved c =
    let s = c.args.part.now in
    let values = c.loop-k.values in
    let i = c.loop-i.i in
    let a = c.loop-i.octet-items in
    let value = λ (n : ℕ). get_or values n 0 in
    let stored = λ (n : ℕ) (h : n < 32).
    let g = c.loop-k.invariant.2 n (omega arith) in
    let both : Stored s values 15 n = (g.0, omega (arith, g.1, c.if-most-gt15.false)) in both in
    let high = stored (i * 2) (omega arith) in
    let low = stored (i * 2 + 1) (omega arith) in
    let v = value (i * 2) * 16 + value (i * 2 + 1) in (
      length-set a i v ∙ c.loop-i.invariant.0,
      ap (λ (l : List ℕ). call_from l (drop ((i + 1) * 2) s)) (fill_more a i v (omega arith))
          ∙ sym (call_on s _ i (value (i * 2)) (value (i * 2 + 1)) (omega arith) high.0 low.0 high.1 low.1)
          ∙ c.loop-i.invariant.1,
    )
