-- The count of octets up to the end found, as far as there is room, is the count that the definitions keep (`kept_run`, `len_run`).
use Rattle.std.proofs.Common.{◌≡◌, ℕ, ◌+◌, ◌-◌, List, length, take, drop, ap, ◌∙◌, arith, length-drop}
use lib.Seq.{sets, length-take-le}
use Rattle.lent.specs.Keep.{kept_from, len_from}
use Rattle.lent.proofs.Bytes.{part_put}
use Rattle.lent.proofs.KeepLaws.{count_kept, kept_run, kept_within, len_run}
use Rattle.lent.proofs.session.Session.keep.Goals as goal

pub returns : goal.returns
returns c =
    let s = c.args.self.now in
    let piece : List ℕ = c.args.piece.now in
    let rest : List ℕ = drop c.args.from piece in
    let start : ℕ = c.min-start.result in
    let kept : ℕ = c.min-count.result in
    let count : kept ≡ count_kept s.len rest = omega arith in
    let len : s.len + kept ≡ len_from s.len rest = omega (arith, len_run rest s.len) in
    let part : c.copy_from_slice.new.self ≡ take kept rest =
    c.copy_from_slice.ensures.after ∙ (let same : c.args.from + kept - c.args.from ≡ kept = omega arith in rw same) in
    let long : length (take kept rest) ≡ start + kept - start = length-take-le kept rest (omega (arith, length-drop c.args.from piece)) ∙ omega arith in
    let moved : sets s.kept start (take kept rest) ≡ sets s.kept s.len (take kept rest) =
    ap (λ (n : ℕ). sets s.kept n (take kept rest)) c.min-start.ensures ∙ kept_within s.len kept s.kept rest (omega arith) in
    let run : sets s.kept s.len (take kept rest) ≡ kept_from s.kept s.len rest = rw (kept_run rest s.kept s.len, ← count) in
    let keeps = part_put start (start + kept - start) s.kept c.copy_from_slice.new.self (take kept rest) part long (omega arith) ∙ moved ∙ run in
    (c.find_feed-end.ensures.0, λ j. record { image = s.image; kept = keeps j; len = len j })
