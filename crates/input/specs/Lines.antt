-- How a text is cut into lines: at each line feed, and a last line without one counts.
use Rattle.std.specs.Prelude.{ℕ, List, [], ◌∷◌, ◌==◌, if◌then◌else◌}

-- an octet before the first of some lines, or alone on one
abbrev pub before_lines : ℕ → List (List ℕ) → List (List ℕ)
before_lines octet [] = (octet ∷ []) ∷ []
before_lines octet (line ∷ others) = (octet ∷ line) ∷ others

-- the lines of a text, without their feeds
abbrev pub lines_of : List ℕ → List (List ℕ)
lines_of [] = []
lines_of (octet ∷ rest) = if octet == 10 then [] ∷ lines_of rest else before_lines octet (lines_of rest)
