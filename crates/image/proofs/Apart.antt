-- The calls of an image's table are apart where no two occupied places have one call: from the octets to the test of soundness, and to
-- its facts.
use mathlib.Core.Path.{◌≡◌, refl, sym, ap, ap₂, ◌∙◌}
use mathlib.Core.Bool.{Bool, true, false, not, ◌&&◌}
use mathlib.Core.List.{List}
use Prim.Native.Nat.{ℕ, ◌<◌}
use native.Mathlib.Omega.{arith}
use lib.Dec.{eqb}
use borrow.Author.Tests.{eqb-false, ne_eqb}
use Rattle.laws.proofs.Bools.{and_both}
use Rattle.laws.proofs.Lists.{below_make}
use Rattle.table.specs.declared.Record.{Record}
use Rattle.table.specs.Places.{is_free, place_count, record_at}
use Rattle.table.specs.Search.{same_call}
use Rattle.table.specs.Sound.{clash, calls_differ, record_sound, is_sound}
use Rattle.table.specs.Ranks.{is_ranked}
use Rattle.table.proofs.Calls.{same_is}
use Rattle.table.proofs.Facts.{facts_of_test}
use Rattle.image.specs.Image.{place_start, record_from, state_octet, record_in, table_from, places_sound}
use Rattle.image.specs.Quick.{place_fits, Busy, call_at, Apart}
use Rattle.image.proofs.Round.{record_at_lem}
use Rattle.image.proofs.PlaceLaws.{free_octet, states_fit_lem, record_fits_lem}

call_of_lem : (s : List ℕ) (k : ℕ) → (record_in s k).call ≡ call_at s k
unfolding record_from
call_of_lem s k = refl

-- ---- to the test

unlike_places : (s : List ℕ) (m k : ℕ) → Apart s k m → not (clash (record_in s m) (record_in s k)) ≡ true
unlike_places s m k apart =
    rw (free_octet s (place_start m), free_octet s (place_start k), call_of_lem s m, call_of_lem s k)
    (by (eqb (state_octet s m) 0) (eqb (state_octet s k) 0) (same_call (call_at s k) (call_at s m)) refl refl refl)
  where
    by : (a b c : Bool) → eqb (state_octet s m) 0 ≡ a → eqb (state_octet s k) 0 ≡ b → same_call (call_at s k) (call_at s m) ≡ c
        → not (not a && (not b && c)) ≡ true
    by true b c p q e = refl
    by false true c p q e = refl
    by false false false p q e = refl
    by false false true p q e =
        absurd (apart (eqb-false (state_octet s k) 0 q) (eqb-false (state_octet s m) 0 p) (same_is (call_at s k) (call_at s m) e))

-- places that fit, calls that are apart and ranks that are right make an image of a sound table
pub places_sound_lem : (s : List ℕ) → ((i : ℕ) → i < place_count → place_fits s i ≡ true) → ((m : ℕ) → m < place_count → (k : ℕ) → k < m → Apart s k m)
    → is_ranked (table_from s) ≡ true → places_sound s ≡ true
places_sound_lem s fits apart ranked =
    let t = table_from s in
    let differ : (m : ℕ) → m < place_count → (k : ℕ) → k < m → calls_differ (table_from s) m k ≡ true = λ m h k l.
    ap₂ (λ (r x : Record). not (clash r x)) (record_at_lem s m h) (record_at_lem s k (omega arith)) ∙ unlike_places s m k (apart m h k l) in
    and_both (states_fit_lem s fits)
    (and_both
    (below_make (record_sound t) place_count (λ i h. and_both (record_fits_lem s i h (fits i h)) (below_make (calls_differ t i) i (differ i h))))
    ranked)

-- ---- to the facts

pub one_call_twice : (s : List ℕ) (k m : ℕ) → k < m → m < place_count → Busy s k → Busy s m → call_at s k ≡ call_at s m → is_sound (table_from s) ≡ false
one_call_twice s k m l h bk bm c = by (is_sound (table_from s)) refl
  where
    busy : (j : ℕ) → j < place_count → Busy s j → is_free (record_at (table_from s) j).state ≡ false
    busy j i b = ap (λ (r : Record). is_free r.state) (record_at_lem s j i) ∙ free_octet s (place_start j) ∙ ne_eqb (state_octet s j) 0 b

    call : (j : ℕ) → j < place_count → (record_at (table_from s) j).call ≡ call_at s j
    call j i = ap (λ (r : Record). r.call) (record_at_lem s j i) ∙ call_of_lem s j

    by : (b : Bool) → is_sound (table_from s) ≡ b → b ≡ false
    by false q = refl
    by true q =
        let first : k < place_count = omega arith in
        let same : k ≡ m = (facts_of_test (table_from s) q).one_place k m first h (busy k first bk) (busy m h bm) (call k first ∙ c ∙ sym (call m h)) in
        absurd (omega arith)
