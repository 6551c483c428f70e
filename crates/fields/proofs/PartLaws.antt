-- A slice's fields: the parts before and after the first tab as cuts of the slice. They go by induction, with the test of the first octet in two
-- cases.
use mathlib.Core.Path.{◌≡◌, refl, sym, ap, ◌∙◌}
use mathlib.Core.List.{List, [], ◌∷◌}
use mathlib.Core.Bool.{Bool, true, false, cond}
use Prim.Native.Nat.{ℕ, suc, ◌+◌, ◌<◌, ◌≤◌}
use native.Mathlib.Omega.{arith}
use lib.Dec.{eqb, ltb}
use lib.ListN.{length, take, drop, get_or}
use lib.Seq.{drop-drop}
use borrow.Author.Tests.{ltb-false, eq-eqb, ne_eqb}
use Rattle.laws.proofs.Runs.{at_step, at_end}
use Rattle.std.specs.Prelude.{◌==◌, position, unwrap_or, Some, None}
use Rattle.std.proofs.lemmas.List.Recursion.{is_position_or_len}
use Rattle.std.specs.List.{position_or_len}
use Rattle.fields.specs.Parts.{before, after, tabs}

pub before_tab : (s : List ℕ) (i : ℕ) → i < length s → get_or s i 0 ≡ 9 → length (before (drop i s)) ≡ 0
before_tab s i h e = rw (at_step s i h, eq-eqb (get_or s i 0) 9 e)

pub before_other : (s : List ℕ) (i : ℕ) → i < length s → (get_or s i 0 ≡ 9 → ⊥)
    → length (before (drop i s)) ≡ suc (length (before (drop (i + 1) s)))
before_other s i h e = rw (at_step s i h, ne_eqb (get_or s i 0) 9 e)

pub before_end : (s : List ℕ) (i : ℕ) → length s ≤ i → length (before (drop i s)) ≡ 0
before_end s i h = rw (at_end s i h)

pub tabs_tab : (s : List ℕ) (i : ℕ) → i < length s → get_or s i 0 ≡ 9 → tabs (drop i s) ≡ suc (tabs (drop (i + 1) s))
tabs_tab s i h e = rw (at_step s i h, eq-eqb (get_or s i 0) 9 e)

pub tabs_other : (s : List ℕ) (i : ℕ) → i < length s → (get_or s i 0 ≡ 9 → ⊥) → tabs (drop i s) ≡ tabs (drop (i + 1) s)
tabs_other s i h e = rw (at_step s i h, ne_eqb (get_or s i 0) 9 e)

pub tabs_end : (s : List ℕ) (i : ℕ) → length s ≤ i → tabs (drop i s) ≡ 0
tabs_end s i h = rw (at_end s i h)

-- the part before the first tab, and the part after it, as cuts of the slice
pub cut_before : (s : List ℕ) → take (length (before s)) s ≡ before s
cut_before [] = refl
cut_before (x ∷ s) = go (eqb x 9) (cut_before s)
  where
    go : (b : Bool) → take (length (before s)) s ≡ before s
        → take (length (cond b [] (x ∷ before s))) (x ∷ s) ≡ cond b [] (x ∷ before s)
    go true ih = refl
    go false ih = ap (λ (l : List ℕ). x ∷ l) ih

pub before_within : (s : List ℕ) → length (before s) ≤ length s
before_within [] = omega arith
before_within (x ∷ s) = go (eqb x 9) (before_within s)
  where
    go : (b : Bool) → length (before s) ≤ length s → length (cond b [] (x ∷ before s)) ≤ suc (length s)
    go true ih = omega arith
    go false ih = omega arith

-- where the first tab is, or the length where there is none
abbrev is_tab : ℕ → Bool
is_tab x = x == 9

tab_at : (s : List ℕ) → length (before s) ≡ position_or_len is_tab s
tab_at = is_position_or_len (λ (s : List ℕ). length (before s)) is_tab refl (λ x s. go x s (eqb x 9))
  where
    go : (x : ℕ) (s : List ℕ) (b : Bool) → length (cond b [] (x ∷ before s)) ≡ cond b 0 (1 + length (before s))
    go x s true = refl
    go x s false = omega arith

pub cut_first : (s : List ℕ) → take (unwrap_or (position is_tab s) (length s)) s ≡ before s
cut_first s = rw (by (ltb (position_or_len is_tab s) (length s)) refl) (rw (← tab_at s) (cut_before s))
  where
    by : (b : Bool) → ltb (position_or_len is_tab s) (length s) ≡ b
        → unwrap_or (cond b (Some (position_or_len is_tab s)) None) (length s) ≡ position_or_len is_tab s
    by true q = refl
    by false q = omega (arith, ltb-false (position_or_len is_tab s) (length s) q, tab_at s, before_within s)

cut_after : (s : List ℕ) → drop (suc (length (before s))) s ≡ after s
cut_after [] = refl
cut_after (x ∷ s) = go (eqb x 9) (cut_after s)
  where
    go : (b : Bool) → drop (suc (length (before s))) s ≡ after s
        → drop (suc (length (cond b [] (x ∷ before s)))) (x ∷ s) ≡ cond b s (after s)
    go true ih = refl
    go false ih = ih

-- what is after the field that starts at an index, as the slice from a later index on
pub after_field : (s : List ℕ) (at e : ℕ) → e ≡ length (before (drop at s)) → after (drop at s) ≡ drop (at + (e + 1)) s
after_field s at e h =
    let n : at + suc (length (before (drop at s))) ≡ at + (e + 1) = omega arith in
    sym (cut_after (drop at s)) ∙ drop-drop (suc (length (before (drop at s)))) at s ∙ ap (λ (k : ℕ). drop k s) n
