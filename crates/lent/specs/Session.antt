-- A session: the table as its image, and as much of the line that is coming as is needed to answer it. 63 octets are enough: a longer line is
-- refused by 21 whatever follows. Octets come in pieces of any size.
use Rattle.std.specs.Prelude.{◌≡◌, ℕ, ◌+◌, ◌/◌, ◌≤◌, Bool, true, false, cond, Result, Ok, Err, List, [], ◌∷◌, ◌++◌, length, take, drop, replicate, ◌==◌, nat_lt, slice_set}
use Rattle.std.proofs.lemmas.List.Edits.{sets}
use Rattle.image.specs.Image.{image_octets, is_sound_image}
use Rattle.events.specs.declared.Answer.{Answer}
use Rattle.step.specs.declared.Step.{Step}
use Rattle.lines.specs.AnswerLine.{answer_line, answer_room}
use Rattle.lent.specs.Lent.{step_on, left_on}
use Rattle.lent.specs.declared.session.Session.{Session}
use Rattle.lent.specs.declared.session.Fed.{Fed}
use Rattle.lent.specs.declared.session.NoRoom.{NoRoom}
use Rattle.lent.specs.Keep.{kept_from, len_from, until_feed}
use Rattle.lent.specs.Stream.{answers_to}

abbrev pub started : Session
started = record { image = replicate image_octets 0; kept = replicate 63 0; len = 0 }

-- what has come of the line
abbrev pub pending : Session → List ℕ
pending s = take s.len s.kept

abbrev pub end_line : Session → Step
end_line s = step_on s.image (pending s)

-- an octet is kept as long as there is room
abbrev pub keep : Session → ℕ → Session
keep s o = cond (nat_lt s.len 63) (record { image = s.image; kept = slice_set s.kept s.len o; len = s.len + 1 }) s

-- the line is answered, and the image is what it leaves
abbrev pub restart : Session → Session
restart s = record { image = left_on s.image (pending s); kept = s.kept; len = 0 }

-- the session after an octet, and what it says to it
abbrev pub next : Session → ℕ → Session
next s o = cond (o == 10) (restart s) (keep s o)

abbrev pub says_to : Session → ℕ → List ℕ
says_to s o = cond (o == 10) (answer_line (end_line s).answer) []

-- the session after a piece, and what it says to it
abbrev pub after_piece : Session → List ℕ → Session
after_piece s [] = s
after_piece s (o ∷ os) = after_piece (next s o) os

abbrev pub said : Session → List ℕ → List ℕ
said s [] = []
said s (o ∷ os) = says_to s o ++ said (next s o) os

-- what it says at the end of the stream, to a last line that lacks its feed
abbrev pub said_last : Session → List ℕ
said_last s = cond (s.len == 0) [] (answer_line (end_line s).answer)

-- ---- pieces and buffers

-- room for an answer for each octet of the piece is enough: an empty line is one octet, and no answer is longer
abbrev pub is_enough : List ℕ → List ℕ → Bool
is_enough piece out = cond (nat_lt (length out / answer_room) (length piece)) false true

abbrev pub fed : Session → List ℕ → List ℕ → Result Fed NoRoom
fed s piece out = cond (is_enough piece out) (Ok (record { session = after_piece s piece; written = length (said s piece) })) (Err (record {}))

abbrev pub fed_out : Session → List ℕ → List ℕ → List ℕ
fed_out s piece out = cond (is_enough piece out) (sets out 0 (said s piece)) out

abbrev pub finished_out : Session → List ℕ → List ℕ
finished_out s out = cond (nat_lt (length out) answer_room) out (sets out 0 (said_last s))

abbrev pub finished_count : Session → List ℕ → ℕ
finished_count s out = cond (nat_lt (length out) answer_room) 0 (length (said_last s))

-- ---- the statement

-- all the pieces of a stream, one after the other
abbrev pub joined_pieces : List (List ℕ) → List ℕ
joined_pieces [] = []
joined_pieces (p ∷ ps) = p ++ joined_pieces ps

-- what is said to pieces, and at their end
abbrev pub said_to_all : Session → List (List ℕ) → List ℕ
said_to_all s [] = said_last s
said_to_all s (p ∷ ps) = said s p ++ said_to_all (after_piece s p) ps

-- `cut_anyhow`: the answers to a stream, however it is cut into pieces
abbrev pub CutAnyhow : Type 0
CutAnyhow = (pieces : List (List ℕ)) → said_to_all started pieces ≡ answers_to (joined_pieces pieces)

-- ---- contracts of what a session calls

-- a line at an image of which it is known whether it is sound: no line changes that, and there is room for the answer
abbrev pub AnswersKnown : Bool → List ℕ → List ℕ → Answer → List ℕ → Type 0
AnswersKnown sound image line answer after =
    (answer ≡ (step_on image line).answer)
    × (after ≡ left_on image line)
    × (sound ≡ is_sound_image (left_on image line))
    × (length (answer_line answer) ≤ answer_room)

-- the same of the line that has come, and the answer's line written from an index of a buffer on
abbrev pub EndsLine : Bool → Session → List ℕ → ℕ → ℕ → Session → List ℕ → Type 0
EndsLine sound s out at count after written =
    (count ≡ length (answer_line (end_line s).answer))
    × (written ≡ sets out at (answer_line (end_line s).answer))
    × (count ≤ answer_room)
    × (after ≡ restart s)
    × (sound ≡ is_sound_image (restart s).image)

-- the session that has kept the octets of its line, as far as there is room
abbrev pub kept_by : Session → List ℕ → Session
kept_by s os = record { image = s.image; kept = kept_from s.kept s.len os; len = len_from s.len os }

-- the octets of the next line kept, of a piece from an index on
abbrev pub KeepsLine : Session → List ℕ → ℕ → ℕ → Session → Type 0
KeepsLine s piece from end after = (end ≡ from + until_feed (drop from piece)) × (after ≡ kept_by s (drop from piece))
