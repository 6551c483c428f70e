-- A line written into the part of a buffer that starts at an index is a run of stores from that index on.
use Rattle.std.proofs.Common.{◌≡◌, ℕ, ◌+◌, ◌-◌, ◌≤◌, List, [], ◌∷◌, ◌++◌, length, take, drop, sym, refl, ap, ◌∙◌, append_assoc, append-nil, zero-add, arith, length-drop, drop_of_length-le, drop-drop}
use lib.Seq.{sets, sets-eq}
use borrow.Rule.Slice.PartMut.{put_mid}
use Rattle.laws.proofs.Runs.{part_rest}

pub none_taken : (l : List ℕ) → take 0 l ≡ []
none_taken [] = refl
none_taken (x ∷ l) = refl

pub part_sets : (out text : List ℕ) (at : ℕ) → at + length text ≤ length out
    → put_mid at (length out - at) out (sets (take (length out - at) (drop at out)) 0 text) ≡ sets out at text
part_sets out text at h =
    let part = part_rest out at in
    let run : sets (drop at out) 0 text ≡ text ++ drop (at + length text) out =
    sets-eq text (drop at out) 0 (omega (arith, length-drop at out))
    ∙ ap (λ f. f ++ text ++ drop (0 + length text) (drop at out)) (none_taken (drop at out))
    ∙ ap (λ n. text ++ drop n (drop at out)) (zero-add (length text))
    ∙ ap (λ r. text ++ r) (drop-drop (length text) at out) in
    let none : drop (length out - at) (drop at out) ≡ [] = drop_of_length-le (drop at out) {i = length out - at} (omega (arith, length-drop at out)) in
    rw (part, run, none, append-nil (text ++ drop (at + length text) out)) (sym (append_assoc (take at out) text (drop (at + length text) out)) ∙ sym (sets-eq text out at h))
