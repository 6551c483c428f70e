-- However a stream is cut into pieces, a session says to them what is answered to the whole stream. What a session keeps of a line is
-- its first 63 octets, and a line is read as those are: with fewer they are the line, with more it is refused by 21.
use Rattle.std.proofs.Common.{◌≡◌, ℕ, suc, ◌+◌, ◌<◌, ◌≤◌, Bool, true, false, cond, eqb, ltb, List, [], ◌∷◌, ◌++◌, length, take, set, sym, refl, ap, ◌∙◌, ⊎_elim, append_assoc, append-nil, add-one, arith, length-append, length-set, length-take-le, take_all, take-suc-set, ltb-false, ltb-true, ne_eqb}
use lib.Seq.{take-append-le}
use Rattle.laws.proofs.Bools.{less_or}
use Rattle.table.specs.declared.Table.{Table}
use Rattle.table.specs.Places.{empty_table}
use Rattle.lines.specs.EventLine.{read_line}
use Rattle.lines.proofs.Faults.{long_line}
use Rattle.lent.specs.LineStep.{step_read, line_step}
use Rattle.lines.specs.AnswerLine.{answer_line}
use Rattle.image.specs.Image.{image_of}
use Rattle.lent.specs.Lent.{step_on, left_on}
use Rattle.lent.proofs.Tables.{Good, on_image, left_image, line_good, empty_good, empty_image}
use Rattle.lent.specs.declared.session.Session.{Session}
use Rattle.lent.specs.Stream.{last_line, lines_from, answers_from}
use Rattle.lent.specs.Session.{started, pending, end_line, keep, restart, next, says_to, after_piece, said, said_last, joined_pieces, said_to_all, CutAnyhow}

-- ---- pieces one after the other

after_append : (s : Session) (p q : List ℕ) → after_piece s (p ++ q) ≡ after_piece (after_piece s p) q
after_append s [] q = refl
after_append s (o ∷ p) q = after_append (next s o) p q

said_append : (s : Session) (p q : List ℕ) → said s (p ++ q) ≡ said s p ++ said (after_piece s p) q
said_append s [] q = refl
said_append s (o ∷ p) q = ap (λ x. says_to s o ++ x) (said_append (next s o) p q) ∙ sym (append_assoc (says_to s o) (said (next s o) p) (said (after_piece (next s o) p) q))

-- what is said to a whole stream, and at its end
abbrev whole : Session → List ℕ → List ℕ
whole s stream = said s stream ++ said_last (after_piece s stream)

pieces_whole : (s : Session) (ps : List (List ℕ)) → said_to_all s ps ≡ whole s (joined_pieces ps)
pieces_whole s [] = refl
pieces_whole s (p ∷ ps) =
    ap (λ x. said s p ++ x) (pieces_whole (after_piece s p) ps)
    ∙ sym (append_assoc (said s p) (said (after_piece s p) (joined_pieces ps)) (said_last (after_piece (after_piece s p) (joined_pieces ps))))
    ∙ rw (said_append s p (joined_pieces ps), after_append s p (joined_pieces ps))

-- ---- a line is read by its first 63 octets

read_by_63 : (line : List ℕ) → read_line (take 63 line) ≡ read_line line
read_by_63 line =
    ⊎_elim
    (λ short. rw (take_all 63 line (omega arith)))
    (λ long.
    let cut : length (take 63 line) ≡ 63 = length-take-le 63 line long in
    long_line (take 63 line) (omega arith) ∙ sym (long_line line (omega arith)))
    (less_or (length line) 63)

step_by_63 : (t : Table) (line : List ℕ) → line_step t (take 63 line) ≡ line_step t line
step_by_63 t line = ap (step_read t) (read_by_63 line)

-- ---- a session that holds what has come of a line

record Holds (s : Session) (t : Table) (line : List ℕ) : Type 0 where
  good : Good t
  image : s.image ≡ image_of t
  size : length s.kept ≡ 63
  below : s.len ≤ 63
  text : pending s ≡ take 63 line

module _ (s : Session) (t : Table) (line : List ℕ) (h : Holds s t line) where
  held_length : length (take 63 line) ≡ s.len
  held_length = ap length (sym h.text) ∙ length-take-le s.len s.kept (omega (arith, h.size, h.below))

  held_step : end_line s ≡ line_step t line
  held_step =
      ap (λ o. step_on o (pending s)) h.image
      ∙ ap (step_on (image_of t)) h.text
      ∙ on_image t h.good (take 63 line)
      ∙ step_by_63 t line

  held_image : left_on s.image (pending s) ≡ image_of (line_step t line).table
  held_image =
      ap (λ o. left_on o (pending s)) h.image
      ∙ ap (left_on (image_of t)) h.text
      ∙ left_image t h.good (take 63 line)
      ∙ ap (λ r. image_of r.table) (step_by_63 t line)

  restart_holds : Holds (restart s) (line_step t line).table []
  restart_holds = record { good = line_good t h.good line; image = held_image; size = h.size; below = omega arith; text = refl }

  keep_holds : (o : ℕ) → Holds (keep s o) t (line ++ (o ∷ []))
  keep_holds o = by (ltb s.len 63) refl
    where
      by : (b : Bool) → ltb s.len 63 ≡ b → Holds (cond b (record { image = s.image; kept = set s.kept s.len o; len = s.len + 1 }) s) t (line ++ (o ∷ []))
      by true q =
          let room : s.len < 63 = ltb-true s.len 63 q in
          let short : length line < 63 = ⊎_elim (λ a. a) (λ b. absurd (omega (arith, held_length, length-take-le 63 line b))) (less_or (length line) 63) in
          let all : take 63 line ≡ line = take_all 63 line (omega arith) in
          let more : take 63 (line ++ (o ∷ [])) ≡ line ++ (o ∷ []) = take_all 63 (line ++ (o ∷ [])) (omega (arith, length-append line (o ∷ []))) in
          let stored : take (suc s.len) (set s.kept s.len o) ≡ take s.len s.kept ++ (o ∷ []) = take-suc-set s.kept s.len o (omega (arith, h.size)) in
          record {
            good = h.good;
            image = h.image;
            size = length-set s.kept s.len o ∙ h.size;
            below = omega arith;
            text = rw (add-one s.len, stored, h.text, all, more);
          }
      by false q =
          let full : 63 ≤ s.len = ltb-false s.len 63 q in
          let long : 63 ≤ length line = ⊎_elim (λ a. absurd (omega (arith, held_length, ap length (take_all 63 line (omega arith)), h.below))) (λ b. b) (less_or (length line) 63) in
          record { good = h.good; image = h.image; size = h.size; below = h.below; text = h.text ∙ sym (take-append-le 63 line (o ∷ []) long) }

-- the last line
said_last_lem : (s : Session) (t : Table) (line : List ℕ) → Holds s t line → said_last s ≡ answers_from t (last_line line)
said_last_lem s t [] h = let none : s.len ≡ 0 = sym (held_length s t [] h) in rw none
said_last_lem s t (o ∷ os) h =
    let some : s.len ≡ suc (length (take 62 os)) = sym (held_length s t (o ∷ os) h) in
    let more : eqb s.len 0 ≡ false = ne_eqb s.len 0 (λ z. omega arith) in
    rw (more, held_step s t (o ∷ os) h, append-nil (answer_line (line_step t (o ∷ os)).answer))

-- THE WHOLE STREAM, where some octets of a line have come
whole_stream : (stream : List ℕ) (s : Session) (t : Table) (line : List ℕ) → Holds s t line → whole s stream ≡ answers_from t (lines_from line stream)
whole_stream [] s t line h = said_last_lem s t line h
whole_stream (o ∷ os) s t line h = by (eqb o 10) (whole_stream os)
  where
    by : (b : Bool) → ((u : Session) (v : Table) (l : List ℕ) → Holds u v l → whole u os ≡ answers_from v (lines_from l os))
        → (cond b (answer_line (end_line s).answer) [] ++ said (cond b (restart s) (keep s o)) os) ++ said_last (after_piece (cond b (restart s) (keep s o)) os)
        ≡ answers_from t (cond b (line ∷ lines_from [] os) (lines_from (line ++ (o ∷ [])) os))
    by true later =
        let rest = later (restart s) (line_step t line).table [] (restart_holds s t line h) in
        append_assoc (answer_line (end_line s).answer) (said (restart s) os) (said_last (after_piece (restart s) os))
        ∙ ap (λ x. answer_line (end_line s).answer ++ x) rest
        ∙ ap (λ r. answer_line r.answer ++ answers_from (line_step t line).table (lines_from [] os)) (held_step s t line h)
    by false later = later (keep s o) t (line ++ (o ∷ [])) (keep_holds s t line h o)

-- the empty table is good, and its image is all zeros
started_holds : Holds started empty_table []
started_holds = record { good = empty_good; image = sym empty_image; size = refl; below = omega arith; text = refl }

pub cut_anyhow : CutAnyhow
cut_anyhow ps = pieces_whole started ps ∙ whole_stream (joined_pieces ps) started empty_table [] started_holds
