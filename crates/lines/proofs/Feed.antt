-- A line and its feed, where the line is written into all of a buffer but the last octet: the feed then has room exactly if the line had. Which
-- of the two it is shows in the count of octets written, since no line is empty.
use mathlib.Core.Path.{◌≡◌, refl, sym, ap, ◌∙◌}
use mathlib.Core.Bool.{Bool, true, false}
use mathlib.Core.List.{List, [], ◌∷◌, ◌++◌}
use Prim.Native.Nat.{ℕ, suc, ◌+◌, ◌-◌, ◌≤◌, ◌<◌}
use native.Mathlib.Omega.{arith}
use lib.Dec.{ltb}
use lib.ListN.{length, take, drop, set, length-set, take-append-drop}
use lib.Seq.{sets, set-append_left, length-take-le}
use borrow.Author.Tests.{lt-ltb, le-ltb, ltb-true, ltb-false}
use Rattle.fields.specs.Line.{Writes}
use Rattle.laws.proofs.Runs.{length_snoc, sets_more, sets_length}

-- a run of stores within the front of a list
sets_front : (f a b : List ℕ) (i : ℕ) → i + length f ≤ length a → sets (a ++ b) i f ≡ sets a i f ++ b
sets_front [] a b i h = refl
sets_front (x ∷ f) a b i h =
    ap (λ (l : List ℕ). sets l (suc i) f) (set-append_left a b i x (omega arith))
    ∙ sets_front f (set a i x) b (suc i) (omega (arith, length-set a i x))

module _ (out line now : List ℕ) (n : ℕ) where
  abbrev front : List ℕ
  front = take (length out - 1) out

  abbrev rest : List ℕ
  rest = drop (length out - 1) out

  abbrev full : List ℕ
  full = line ++ (10 ∷ [])

  module _ (octets : 0 < length out) (some : 0 < length line) (wrote : Writes front line n now) where
    front_long : length front ≡ length out - 1
    front_long = length-take-le (length out - 1) out (omega arith)

    -- nothing was written
    pub none_written : n ≡ 0 → Writes out full 0 (now ++ rest)
    none_written z = by (ltb (length front) (length line)) refl
      where
        by : (b : Bool) → ltb (length front) (length line) ≡ b → Writes out full 0 (now ++ rest)
        by true q =
            let short : length out < length full = omega (arith, length_snoc line 10, front_long, ltb-true (length front) (length line) q) in
            let same : now ≡ front = rw q at wrote.1 in
            (rw (lt-ltb (length out) (length full) short), rw (lt-ltb (length out) (length full) short, same) (take-append-drop (length out - 1) out))
        by false q = let all : n ≡ length line = rw q at wrote.0 in
            absurd (omega (arith, some, z))

    module _ (w : n ≡ 0 → ⊥) where
      -- the line was written
      enough : length line ≤ length front
      enough = by (ltb (length front) (length line)) refl
        where
          by : (b : Bool) → ltb (length front) (length line) ≡ b → length line ≤ length front
          by true q = absurd (w (rw q at wrote.0))
          by false q = ltb-false (length front) (length line) q

      fits : ltb (length front) (length line) ≡ false
      fits = le-ltb (length front) (length line) enough

      counted : n ≡ length line
      counted = rw fits at wrote.0

      written : now ++ rest ≡ sets out 0 line
      written =
          ap (λ (l : List ℕ). l ++ rest) (rw fits at wrote.1)
          ∙ sym (sets_front line front rest 0 (omega (arith, enough)))
          ∙ ap (λ (l : List ℕ). sets l 0 line) (take-append-drop (length out - 1) out)

      pub room_left : n < length (now ++ rest)
      room_left = omega (arith, counted, enough, front_long, sets_length out (now ++ rest) line 0 written)

      pub feed_written : Writes out full (n + 1) (set (now ++ rest) n 10)
      feed_written =
          let all = le-ltb (length out) (length full) (omega (arith, length_snoc line 10, enough, front_long)) in (
            rw all (omega (arith, counted, length_snoc line 10)),
            rw all (sets_more line out (now ++ rest) 0 n 10 (omega (arith, counted)) written),
          )
