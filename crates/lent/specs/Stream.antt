-- What is answered to a whole stream of octets (document 01, "Lines end with a line feed; a last line may lack it; nothing after the
-- last feed is no line." and "prints one answer line each"). Nothing here knows of pieces or buffers.
use Rattle.std.specs.Prelude.{ℕ, cond, List, [], ◌∷◌, ◌++◌, ◌==◌}
use Rattle.table.specs.declared.Table.{Table}
use Rattle.table.specs.Places.{empty_table}
use Rattle.lines.specs.AnswerLine.{answer_line}
use Rattle.lent.specs.LineStep.{line_step}

-- what has come of a line, if anything has
abbrev pub last_line : List ℕ → List (List ℕ)
last_line [] = []
last_line (o ∷ os) = (o ∷ os) ∷ []

-- the lines of a stream, where some octets of a line have come already
abbrev pub lines_from : List ℕ → List ℕ → List (List ℕ)
lines_from line [] = last_line line
lines_from line (o ∷ os) = cond (o == 10) (line ∷ lines_from [] os) (lines_from (line ++ (o ∷ [])) os)

abbrev pub lines_of : List ℕ → List (List ℕ)
lines_of stream = lines_from [] stream

-- the lines answered one after the other, each at the table that the one before it left
abbrev pub answers_from : Table → List (List ℕ) → List ℕ
answers_from t [] = []
answers_from t (line ∷ lines) = answer_line (line_step t line).answer ++ answers_from (line_step t line).table lines

-- THE ANSWERS TO A STREAM, from the empty table
abbrev pub answers_to : List ℕ → List ℕ
answers_to stream = answers_from empty_table (lines_of stream)
