-- The octets of a place by its state octet: what the definition of a sound place says of each. The side is that of the index, the state
-- that of the octet, and the rest by cases of the definition.
use mathlib.Core.Path.{◌≡◌, refl, sym, ap, ◌∙◌}
use mathlib.Core.Bool.{Bool, true, false, cond, not, ◌&&◌}
use mathlib.Core.List.{List}
use mathlib.Core.Logic.{⊎_elim}
use Prim.Native.Nat.{ℕ, zero, suc, ◌+◌, ◌<◌, ◌≤◌}
use native.Mathlib.Omega.{arith}
use lib.Dec.{eqb}
use lib.ListN.{get_or}
use borrow.Author.Tests.{lt-ltb, le-ltb, eq-eqb, ne_eqb}
use Rattle.laws.proofs.Bools.{and_left, and_right, and_both, less_or}
use Rattle.laws.proofs.Lists.{below_get, below_make}
use Rattle.table.specs.declared.State.{State}
use Rattle.table.specs.declared.State.TheVariants.{Free, RemoteRequested, HandedOver}
use Rattle.table.specs.declared.Side.{Side}
use Rattle.table.specs.declared.Side.TheVariants.{Position, Line}
use Rattle.table.specs.declared.Record.{Record}
use Rattle.table.specs.Places.{state_number, same_state, is_free, is_state, state_of, waiting_on, missing_on, place_count, side_at, record_at}
use Rattle.table.specs.Search.{is_at}
use Rattle.table.specs.Sound.{fits_side, all_zeros, tidy_in, record_fits, record_sound, records_sound}
use Rattle.table.specs.Ranks.{held_on}
use Rattle.table.proofs.Facts.{free_fits}
use Rattle.table.proofs.Sides.{same_side_lem}
use Rattle.table.proofs.States.{state_back, number_back}
use Rattle.image.specs.Image.{connection_offset, place_start, pair_at, record_from, state_octet, record_in, table_from, states_fit, places_sound}
use Rattle.image.specs.Quick.{place_fits}
use Rattle.image.proofs.Round.{record_at_lem}

-- ---- a state by its octet

-- an octet above 5 is read as state 5
above : (n : ℕ) → 6 ≤ n → state_of n ≡ HandedOver
above n h =
    rw (
      ne_eqb n 0 (λ e. absurd (omega (arith, e))),
      ne_eqb n 1 (λ e. absurd (omega (arith, e))),
      ne_eqb n 2 (λ e. absurd (omega (arith, e))),
      ne_eqb n 3 (λ e. absurd (omega (arith, e))),
      ne_eqb n 4 (λ e. absurd (omega (arith, e))),
    )

-- a state but the last is told by its octet, whatever the octet
octet_tells : (u : State) (n : ℕ) → state_number u < 5 → same_state (state_of n) u ≡ eqb n (state_number u)
octet_tells u n last =
    ⊎_elim
    (λ low. ap (λ (m : ℕ). eqb m (state_number u)) (number_back n low))
    (λ high. ap (λ (x : State). same_state x u) (above n high) ∙ ne_eqb 5 (state_number u) (λ e. absurd (omega (arith, e))) ∙ sym (ne_eqb n (state_number u) (λ e. absurd (omega (arith, e)))))
    (less_or n 6)

-- a record is free where its state octet is 0
pub free_octet : (s : List ℕ) (i : ℕ) → is_free (record_from s i).state ≡ eqb (get_or s i 0) 0
unfolding record_from
free_octet s i = octet_tells Free (get_or s i 0) (omega arith)

-- the state of a place
pub state_in : (s : List ℕ) (i : ℕ) → (record_in s i).state ≡ state_of (state_octet s i)
unfolding record_from
state_in s i = refl

waiting_low : (a : Side) → state_number (waiting_on a) < 5
waiting_low Position = omega arith
waiting_low Line = omega arith

module _ (s : List ℕ) (a : Side) (i : ℕ) where
  -- a place of the side is free exactly where its state octet is 0
  pub free_at : side_at i ≡ a → is_at a Free i (record_in s i) ≡ eqb (state_octet s i) 0
  unfolding record_from
  free_at side = rw (same_side_lem (side_at i) a side) (octet_tells Free (state_octet s i) (omega arith))

  -- a call waits at a place of the side exactly where the state octet is that of the side
  pub waits_octet : i < place_count → side_at i ≡ a → is_at a (waiting_on a) i (record_at (table_from s) i) ≡ eqb (state_octet s i) (state_number (waiting_on a))
  unfolding record_from
  waits_octet h side =
      ap (λ (r : Record). is_at a (waiting_on a) i r) (record_at_lem s i h)
      ∙ rw (same_side_lem (side_at i) a side) (octet_tells (waiting_on a) (state_octet s i) (waiting_low a))

  -- a call is counted on the side of its place
  pub counted : side_at i ≡ a → held_on a i (record_in s i) ≡ cond (not (eqb (state_octet s i) 0)) 1 0
  counted side = rw (same_side_lem (side_at i) a side, free_octet s (place_start i))

-- ---- the test of a place

remote_fits : (a : Side) → fits_side a RemoteRequested ≡ true
remote_fits Position = refl
remote_fits Line = refl

-- a record that is neither free nor in state 4
no_connection_lem : (n : ℕ) (r : Record) → n < 6 → (n ≡ 0 → ⊥) → (n ≡ 4 → ⊥) → tidy_in (state_of n) r ≡ eqb r.connection.0 0
no_connection_lem zero r h a b = absurd (a refl)
no_connection_lem (suc zero) r h a b = refl
no_connection_lem (suc (suc zero)) r h a b = refl
no_connection_lem (suc (suc (suc zero))) r h a b = refl
no_connection_lem (suc (suc (suc (suc zero)))) r h a b = absurd (b refl)
no_connection_lem (suc (suc (suc (suc (suc zero))))) r h a b = refl
no_connection_lem (suc (suc (suc (suc (suc (suc n)))))) r h a b = absurd (omega arith)

second_fails : (a b c : Bool) → b ≡ false → (a && (b && c)) ≡ false
second_fails true b c e = rw e
second_fails false b c e = refl

module _ (s : List ℕ) (i : ℕ) where
  pub fits_free : state_octet s i ≡ 0 → place_fits s i ≡ all_zeros (record_in s i)
  unfolding record_from
  fits_free e = rw (e, free_fits (side_at i))

  pub fits_none : 6 ≤ state_octet s i → place_fits s i ≡ false
  fits_none h = rw (le-ltb (state_octet s i) 6 h)

  pub fits_missing : state_octet s i ≡ state_number (missing_on (side_at i)) → place_fits s i ≡ false
  unfolding record_from
  fits_missing e =
      let state : state_of (state_octet s i) ≡ missing_on (side_at i) = ap state_of e ∙ state_back (missing_on (side_at i)) in
      second_fails (is_state (state_octet s i)) (fits_side (side_at i) (state_of (state_octet s i))) (tidy_in (state_of (state_octet s i)) (record_in s i))
      (ap not (eq-eqb (state_number (state_of (state_octet s i))) (state_number (missing_on (side_at i))) (ap state_number state)))

  pub fits_remote : state_octet s i ≡ 4 → place_fits s i ≡ true
  unfolding record_from
  fits_remote e = rw (e, remote_fits (side_at i))

  pub fits_other : state_octet s i < 6 → (state_octet s i ≡ state_number (missing_on (side_at i)) → ⊥) → (state_octet s i ≡ 0 → ⊥) → (state_octet s i ≡ 4 → ⊥)
      → place_fits s i ≡ eqb (pair_at s (place_start i + connection_offset)) 0
  unfolding record_from
  fits_other low side held remote =
      let fits : fits_side (side_at i) (state_of (state_octet s i)) ≡ true =
      ap not (ne_eqb (state_number (state_of (state_octet s i))) (state_number (missing_on (side_at i))) (λ e. side (sym (number_back (state_octet s i) low) ∙ e))) in
      rw (lt-ltb (state_octet s i) 6 low, fits) (no_connection_lem (state_octet s i) (record_in s i) low held remote)

-- ---- the test of all places

module _ (s : List ℕ) where
  -- in an image of a sound table each place fits
  pub places_fit : places_sound s ≡ true → (i : ℕ) → i < place_count → place_fits s i ≡ true
  places_fit test i h =
      let records = and_left (records_sound (table_from s)) _ (and_right (states_fit s) _ test) in
      let fits = and_left _ _ (below_get (record_sound (table_from s)) place_count records i h) in
      and_both (below_get (λ k. is_state (state_octet s k)) place_count (and_left (states_fit s) _ test) i h) (ap (record_fits i) (sym (record_at_lem s i h)) ∙ fits)

  pub states_fit_lem : ((i : ℕ) → i < place_count → place_fits s i ≡ true) → states_fit s ≡ true
  states_fit_lem fits = below_make (λ k. is_state (state_octet s k)) place_count (λ i h. and_left (is_state (state_octet s i)) _ (fits i h))

  pub record_fits_lem : (i : ℕ) → i < place_count → place_fits s i ≡ true → record_fits i (record_at (table_from s) i) ≡ true
  record_fits_lem i h fits = ap (record_fits i) (record_at_lem s i h) ∙ and_right (is_state (state_octet s i)) _ fits
