-- The loop of `feed`: between two lines of a piece, what is left of the piece decides what is said to all of it. It starts so, goes on so
-- past each feed, and ends where no feed is left.
use Rattle.std.proofs.Common.{◌≡◌, ℕ, ◌+◌, ◌*◌, ◌/◌, ◌<◌, ◌≤◌, List, ◌++◌, length, drop, sym, refl, ap, ◌∙◌, arith, length-append}
use lib.Seq.{sets, length-sets}
use Rattle.laws.proofs.Runs.{sets_append}
use Rattle.lines.specs.AnswerLine.{answer_line, answer_room}
use Rattle.lent.specs.declared.session.Session.{Session}
use Rattle.lent.specs.Session.{end_line, restart, after_piece, said, kept_by}
use Rattle.lent.specs.Keep.{until_feed}
use Rattle.lent.proofs.KeepLaws.{kept_size, feed_after, feed_said, last_after_lem, last_said}

-- a piece, the buffer and the session before it; the session, the buffer, the count of octets written and the index now
pub record Feeding (piece out₀ : List ℕ) (s₀ s : Session) (out : List ℕ) (at i : ℕ) : Type 0 where
  pub inside : i ≤ length piece
  pub size : length s.kept ≡ 63
  pub same : length out ≡ length out₀
  pub room : at ≤ answer_room * i
  pub session : after_piece s (drop i piece) ≡ after_piece s₀ piece
  pub count : at + length (said s (drop i piece)) ≡ length (said s₀ piece)
  pub text : sets out at (said s (drop i piece)) ≡ sets out₀ 0 (said s₀ piece)

-- the same of a session and a buffer that are equal to these
pub feeding_same : {piece out₀ : List ℕ} {s₀ s u : Session} {out b : List ℕ} {at i : ℕ} → s ≡ u → out ≡ b → Feeding piece out₀ s₀ u b at i → Feeding piece out₀ s₀ s out at i
feeding_same p q f = rw (p, q) f

-- room for an answer for each octet of the piece
pub room_for : (o p : ℕ) → p ≤ o / answer_room → answer_room * p ≤ o
room_for o p h = omega arith

module _ (piece out₀ : List ℕ) (s₀ : Session) where
  pub feeding_start : length s₀.kept ≡ 63 → Feeding piece out₀ s₀ s₀ out₀ 0 0
  feeding_start size = record { inside = omega arith; size = size; same = refl; room = omega arith; session = refl; count = omega arith; text = refl }

  module _ {s : Session} {out : List ℕ} {at i : ℕ} (f : Feeding piece out₀ s₀ s out at i) (e : ℕ) (there : e ≡ i + until_feed (drop i piece)) where
    abbrev now : Session
    now = kept_by s (drop i piece)

    pub feeding_end : length piece ≤ e → (now ≡ after_piece s₀ piece) × (at ≡ length (said s₀ piece)) × (out ≡ sets out₀ 0 (said s₀ piece))
    feeding_end none =
        let quiet = last_said s piece i e there none in (
          sym (last_after_lem s piece i e there none) ∙ f.session,
          omega (arith, ap length quiet, f.count),
          rw quiet at f.text,
        )

    pub feeding_on : e < length piece → (count : ℕ) → count ≡ length (answer_line (end_line now).answer) → count ≤ answer_room
        → Feeding piece out₀ s₀ (restart now) (sets out at (answer_line (end_line now).answer)) (at + count) (e + 1)
    feeding_on inside count long short =
        let line : List ℕ = answer_line (end_line now).answer in
        let rest : List ℕ = said (restart now) (drop (e + 1) piece) in
        let says : said s (drop i piece) ≡ line ++ rest = feed_said s piece i e there inside in
        record {
          inside = omega arith;
          size = kept_size s.kept s.len (drop i piece) ∙ f.size;
          same = length-sets out at line ∙ f.same;
          room = omega (arith, f.room);
          session = sym (feed_after s piece i e there inside) ∙ f.session;
          count = omega (arith, f.count, ap length says, length-append line rest);
          text = rw long (sets_append line rest out at ∙ ap (sets out at) (sym says) ∙ f.text);
        }
