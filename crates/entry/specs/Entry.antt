-- The C entry (document 01, "The signalling stack is written in C and passes an image, a line and an answer buffer."): the line at the
-- image, its answer written as a line. Refusals in order: 26, 25, 21 to 24, 1 to 12.
use Rattle.std.specs.Prelude.{◌≡◌, Bool, cond, List, ℕ, ◌≤◌, ltb, length}
use Rattle.std.proofs.lemmas.List.Edits.{sets}
use Rattle.lines.specs.AnswerLine.{answer_line, answer_room}
use Rattle.lent.specs.Lent.{step_on, left_on}

-- 26: "answer buffer of the C entry shorter than" `answer_room` octets
abbrev pub is_short : List ℕ → Bool
is_short answer = ltb (length answer) answer_room

-- "The result is the count of octets written, line feed included; 0 only with refusal 26, which writes nothing."
abbrev pub count_of : List ℕ → List ℕ → List ℕ → ℕ
count_of image line answer = cond (is_short answer) 0 (length (answer_line (step_on image line).answer))

-- "Octets beyond the answer stay."
abbrev pub answer_after : List ℕ → List ℕ → List ℕ → List ℕ
answer_after image line answer = cond (is_short answer) answer (sets answer 0 (answer_line (step_on image line).answer))

-- "An accepted event leaves the image of the new table." Any other leaves the image as it was.
abbrev pub image_after : List ℕ → List ℕ → List ℕ → List ℕ
image_after image line answer = cond (is_short answer) image (left_on image line)

-- WHAT `park_step` GIVES AND LEAVES: the count, the image and the answer buffer; the count is never above the room
abbrev pub ParkStep : List ℕ → List ℕ → List ℕ → ℕ → List ℕ → List ℕ → Type 0
ParkStep image line answer count newImage newAnswer =
    (count ≡ count_of image line answer)
    × (newImage ≡ image_after image line answer)
    × (newAnswer ≡ answer_after image line answer)
    × (count ≤ answer_room)
