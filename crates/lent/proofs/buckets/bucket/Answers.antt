-- The definition, at the two words that the callee gives.
use Rattle.std.proofs.Common.{ℕ, ◌+◌, ◌%◌, ◌^◌, ◌∙◌, ap₂, arith}
use Rattle.image.specs.Quick.{bucket_of}
use Rattle.image.proofs.WordLaws.{first_word, second_word}
use Rattle.lent.proofs.buckets.bucket.Goals as goal

pub returns : goal.returns
unfolding bucket_of
returns c =
    let s = c.args.image.now in
    let first = c.word.ensures ∙ first_word s c.args.at in
    let second = c.word-2.ensures ∙ second_word s c.args.at in
    (ap₂ (λ (x y : ℕ). (x + y) % 2 ^ 64 % 509) first second, omega arith)
