-- Keeping a line: where its feed is, what is kept of it as one run of stores, and what the kept octets are to a session. Then a whole line
-- of a piece, up to its feed.
use Rattle.std.proofs.Common.{◌≡◌, ℕ, suc, ◌+◌, ◌-◌, ◌<◌, ◌≤◌, min, Bool, true, false, cond, eqb, ltb, List, [], ◌∷◌, ◌++◌, length, get_or, take, drop, set, sym, refl, ap, ◌∙◌, ⊎_elim, not-suc-le-zero, add-one, arith, length-drop, length-set, drop_of_length-le, get_or-drop, take_all, drop-cons, drop-drop, ltb-false, ltb-true, eqb-true, eq-eqb, ne_eqb}
use native.Mathlib.Nat.{zero-min, min-zero}
use lib.Seq.{sets, take-nil}
use Rattle.laws.proofs.Bools.{less_or}
use Rattle.laws.proofs.Runs.{at_step}
use Rattle.lent.specs.declared.session.Session.{Session}
use Rattle.lent.specs.Session.{restart, end_line, after_piece, said, kept_by}
use Rattle.lent.specs.Keep.{kept_from, len_from, until_feed}
use Rattle.lines.specs.AnswerLine.{answer_line}
use Rattle.lent.proofs.Ends.{none_taken}

-- ---- looking for the feed

pub until_within : (os : List ℕ) → until_feed os ≤ length os
until_within [] = omega arith
until_within (o ∷ os) = by (eqb o 10) (until_within os)
  where
    by : (b : Bool) → until_feed os ≤ length os → cond b 0 (suc (until_feed os)) ≤ length (o ∷ os)
    by true h = omega arith
    by false h = omega arith

module _ (piece : List ℕ) (i : ℕ) where
  module _ (h : i < length piece) where
    pub feed_until : get_or piece i 0 ≡ 10 → until_feed (drop i piece) ≡ 0
    feed_until q = rw (at_step piece i h, eq-eqb (get_or piece i 0) 10 q)

    pub more_until : (get_or piece i 0 ≡ 10 → ⊥) → until_feed (drop i piece) ≡ suc (until_feed (drop (i + 1) piece))
    more_until q = rw (at_step piece i h, ne_eqb (get_or piece i 0) 10 q)

  pub end_until : length piece ≤ i → until_feed (drop i piece) ≡ 0
  end_until h = rw (drop_of_length-le piece h)

-- ---- the octets before the feed, all at once: as many as there is room for

abbrev pub count_kept : ℕ → List ℕ → ℕ
count_kept len os = min (until_feed os) (63 - len)

pub kept_run : (os kept : List ℕ) (len : ℕ) → kept_from kept len os ≡ sets kept len (take (count_kept len os) os)
kept_run [] kept len = rw take-nil
kept_run (o ∷ os) kept len = by (eqb o 10) (ltb len 63) refl (λ k n. kept_run os k n)
  where
    by : (b c : Bool) → ltb len 63 ≡ c → ((k : List ℕ) (n : ℕ) → kept_from k n os ≡ sets k n (take (count_kept n os) os))
        → cond b kept (cond c (kept_from (set kept len o) (len + 1) os) (kept_from kept len os))
        ≡ sets kept len (take (min (cond b 0 (suc (until_feed os))) (63 - len)) (o ∷ os))
    by true c r later = rw zero-min
    by false true r later =
        let room : min (suc (until_feed os)) (63 - len) ≡ suc (count_kept (len + 1) os) = omega (arith, ltb-true len 63 r) in
        rw room (later (set kept len o) (len + 1) ∙ rw add-one)
    by false false r later =
        let full : 63 - len ≡ 0 = omega (arith, ltb-false len 63 r) in
        rw (full, min-zero) (later kept len ∙ rw (full, min-zero))

pub len_run : (os : List ℕ) (len : ℕ) → len_from len os ≡ len + count_kept len os
len_run [] len = omega arith
len_run (o ∷ os) len = by (eqb o 10) (ltb len 63) refl (λ n. len_run os n)
  where
    by : (b c : Bool) → ltb len 63 ≡ c → ((n : ℕ) → len_from n os ≡ n + count_kept n os)
        → cond b len (cond c (len_from (len + 1) os) (len_from len os)) ≡ len + min (cond b 0 (suc (until_feed os))) (63 - len)
    by true c r later = omega arith
    by false true r later = omega (arith, ltb-true len 63 r, later (len + 1))
    by false false r later = omega (arith, ltb-false len 63 r, later len)

-- ---- what is kept, to a session

-- the two equations below at an octet, with b where it is a feed and c where there is room for it
abbrev GoesOn : Session → ℕ → List ℕ → Bool → Bool → Type 0
GoesOn s o os b c =
    let u : Session = cond b (restart s) (cond c (record { image = s.image; kept = set s.kept s.len o; len = s.len + 1 }) s) in
    let k : Session = record {
      image = s.image;
      kept = cond b s.kept (cond c (kept_from (set s.kept s.len o) (s.len + 1) os) (kept_from s.kept s.len os));
      len = cond b s.len (cond c (len_from (s.len + 1) os) (len_from s.len os));
    } in
    let rest : List ℕ = drop (cond b 0 (suc (until_feed os))) (o ∷ os) in
    (after_piece u os ≡ after_piece k rest) × (cond b (answer_line (end_line s).answer) [] ++ said u os ≡ said k rest)

-- a session that has kept the line's octets goes on at its feed
pub kept_goes_on : (s : Session) (os : List ℕ) → (after_piece s os ≡ after_piece (kept_by s os) (drop (until_feed os) os)) × (said s os ≡ said (kept_by s os) (drop (until_feed os) os))
kept_goes_on s [] = (refl, refl)
kept_goes_on s (o ∷ os) = by (eqb o 10) (ltb s.len 63) refl refl (λ u. kept_goes_on u os)
  where
    by : (b c : Bool) → eqb o 10 ≡ b → ltb s.len 63 ≡ c → ((u : Session) → (after_piece u os ≡ after_piece (kept_by u os) (drop (until_feed os) os)) × (said u os ≡ said (kept_by u os) (drop (until_feed os) os))) → GoesOn s o os b c
    by true c q r later = (rw q, rw q)
    by false true q r later = later (record { image = s.image; kept = set s.kept s.len o; len = s.len + 1 })
    by false false q r later = later s

-- where a feed is found, it stands there
pub feed_found : (os : List ℕ) → until_feed os < length os → get_or os (until_feed os) 0 ≡ 10
feed_found [] h = absurd (not-suc-le-zero h)
feed_found (o ∷ os) h = by (eqb o 10) refl (λ g. feed_found os g) h
  where
    by : (b : Bool) → eqb o 10 ≡ b → (until_feed os < length os → get_or os (until_feed os) 0 ≡ 10) → cond b 0 (suc (until_feed os)) < length (o ∷ os)
        → get_or (o ∷ os) (cond b 0 (suc (until_feed os))) 0 ≡ 10
    by true q later g = eqb-true o 10 q
    by false q later g = later (omega arith)

-- the buffer keeps its size
pub kept_size : (kept : List ℕ) (n : ℕ) (os : List ℕ) → length (kept_from kept n os) ≡ length kept
kept_size kept n [] = refl
kept_size kept n (o ∷ os) = by (eqb o 10) (ltb n 63) (kept_size (set kept n o) (n + 1) os) (kept_size kept n os)
  where
    by : (b c : Bool) → length (kept_from (set kept n o) (n + 1) os) ≡ length (set kept n o) → length (kept_from kept n os) ≡ length kept
        → length (cond b kept (cond c (kept_from (set kept n o) (n + 1) os) (kept_from kept n os))) ≡ length kept
    by true c p q = refl
    by false true p q = p ∙ length-set kept n o
    by false false p q = q

pub at_most_le : (n : ℕ) → min n 63 ≤ 63
at_most_le n = omega arith

-- all of a buffer of 63 is what at most 63 octets of it are
pub take_at_most : (n : ℕ) (kept : List ℕ) → length kept ≡ 63 → take (min n 63) kept ≡ take n kept
take_at_most n kept size =
    ⊎_elim
    (λ low. let all : min n 63 ≡ n = omega arith in rw all)
    (λ high. let all : min n 63 ≡ 63 = omega arith in rw all (take_all 63 kept (omega arith) ∙ sym (take_all n kept (omega arith))))
    (less_or n 63)

-- past its end none is kept
pub kept_within : (n k : ℕ) (kept os : List ℕ) → k ≤ 63 - n → sets kept (min n 63) (take k os) ≡ sets kept n (take k os)
kept_within n k kept os h =
    ⊎_elim
    (λ low. let all : min n 63 ≡ n = omega arith in rw all)
    (λ high. let zero : k ≡ 0 = omega arith in let none : take k os ≡ [] = ap (λ (m : ℕ). take m os) zero ∙ none_taken os in rw none)
    (less_or n 63)

-- ---- a line of a piece, from index i up to its feed at e

module _ (s : Session) (piece : List ℕ) (i e : ℕ) (there : e ≡ i + until_feed (drop i piece)) where
  from_there : drop (until_feed (drop i piece)) (drop i piece) ≡ drop e piece
  from_there = drop-drop (until_feed (drop i piece)) i piece ∙ rw (← there)

  pub line_after : after_piece s (drop i piece) ≡ after_piece (kept_by s (drop i piece)) (drop e piece)
  line_after = (kept_goes_on s (drop i piece)).0 ∙ ap (after_piece (kept_by s (drop i piece))) from_there

  pub line_said : said s (drop i piece) ≡ said (kept_by s (drop i piece)) (drop e piece)
  line_said = (kept_goes_on s (drop i piece)).1 ∙ ap (said (kept_by s (drop i piece))) from_there

  module _ (inside : e < length piece) where
    feed_there : drop e piece ≡ 10 ∷ drop (e + 1) piece
    feed_there =
        let short : until_feed (drop i piece) < length (drop i piece) = omega (arith, length-drop i piece) in
        let octet : get_or piece e 0 ≡ 10 = rw there (sym (get_or-drop i piece (until_feed (drop i piece)) 0) ∙ feed_found (drop i piece) short) in
        rw (add-one e) (drop-cons piece e 0 inside ∙ ap (λ o. o ∷ drop (suc e) piece) octet)

    pub feed_after : after_piece s (drop i piece) ≡ after_piece (restart (kept_by s (drop i piece))) (drop (e + 1) piece)
    feed_after = line_after ∙ rw feed_there

    pub feed_said : said s (drop i piece) ≡ answer_line (end_line (kept_by s (drop i piece))).answer ++ said (restart (kept_by s (drop i piece))) (drop (e + 1) piece)
    feed_said = line_said ∙ rw feed_there

  module _ (out : length piece ≤ e) where
    nothing_there : drop e piece ≡ []
    nothing_there = drop_of_length-le piece out

    pub last_after_lem : after_piece s (drop i piece) ≡ kept_by s (drop i piece)
    last_after_lem = line_after ∙ rw nothing_there

    pub last_said : said s (drop i piece) ≡ []
    last_said = line_said ∙ rw nothing_there
