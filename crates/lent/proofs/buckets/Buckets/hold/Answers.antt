-- A walk through the places of a bucket, from the last one down. The places before a place are the lower ones.
use Rattle.std.proofs.Common.{◌≡◌, ℕ, suc, ◌<◌, List, sym, ap, ◌∙◌, arith}
use Rattle.laws.proofs.Bools.{not_both}
use Rattle.table.specs.Search.{same_call}
use Rattle.table.proofs.Calls.{same_is, same_self}
use Rattle.image.specs.Quick.{call_at}
use Rattle.image.proofs.Apart.{one_call_twice}
use Rattle.image.proofs.Buckets.{enter_first, walk_start, walk_busy, walk_less, walk_on}
use Rattle.lent.proofs.buckets.Buckets.hold.Goals as goal

pub loop-k-init : goal.loop-k-init
loop-k-init c = walk_start (enter_first c.requires.place.2 c.requires.bucket.0 c.requires.bucket.1)

pub returns-then-same_call-clause-held : goal.returns-then-same_call-clause-held
returns-then-same_call-clause-held c e =
    let s = c.args.image.now in
    let k = c.in-Some.k in
    let at : c.loop-k.next ≡ suc k = omega (arith, c.in-Some.ensures) in
    let low : k < c.args.i = omega (arith, c.loop-k.invariant.low) in
    let same : call_at s k ≡ call_at s c.args.i = same_is _ _ (sym c.same_call.ensures ∙ c.if-same_call.true) in
    one_call_twice s k c.args.i low c.requires.place.0 (walk_busy c.loop-k.invariant at) c.requires.place.1 same

pub loop-k-smaller : goal.loop-k-smaller
loop-k-smaller c =
    let at : c.loop-k.next ≡ suc c.in-Some.k = omega (arith, c.in-Some.ensures) in
    walk_less c.loop-k.invariant at c.args.self.now.before c.requires.place.2.linked

pub loop-k-preserved : goal.loop-k-preserved
loop-k-preserved c =
    let s = c.args.image.now in
    let call = call_at s c.args.i in
    let at : c.loop-k.next ≡ suc c.in-Some.k = omega (arith, c.in-Some.ensures) in
    let other : call_at s c.in-Some.k ≡ call_at s c.args.i → ⊥ =
    λ e. not_both (c.same_call.ensures ∙ ap (λ (l : List ℕ). same_call l call) e ∙ same_self call) c.if-same_call.false in
    walk_on c.loop-k.invariant at c.args.self.now.before c.requires.place.2.linked other
