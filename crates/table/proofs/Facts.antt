-- Soundness twice: the test that the code runs (`is_sound`) says exactly the facts of document 01 and of Q-4 (`Sound`). What `below` says is turned
-- into what it says of each index, and each test into its fact.
use mathlib.Core.Path.{◌≡◌, refl, sym, ap, ◌∙◌}
use mathlib.Core.Bool.{Bool, true, false, not}
use mathlib.Core.Logic.{⊎_elim}
use Prim.Native.Nat.{ℕ, ◌<◌, ◌≤◌}
use native.Mathlib.Omega.{arith}
use lib.Dec.{eqb}
use lib.Count.{ones, ones_in}
use borrow.Author.Tests.{eqb-true, eq-eqb, leb-true, le-leb, not-true}
use Rattle.laws.specs.Lists.{below}
use Rattle.laws.proofs.Bools.{and_left, and_right, and_both, not_both, less_or}
use Rattle.laws.proofs.Lists.{below_get, below_make}
use Rattle.table.specs.declared.State.{State}
use Rattle.table.specs.declared.State.TheVariants.{Free, ParkWaiting, LineWaiting, Requested, RemoteRequested, HandedOver}
use Rattle.table.specs.declared.Side.{Side}
use Rattle.table.specs.declared.Side.TheVariants.{Position, Line}
use Rattle.table.specs.declared.Record.{Record}
use Rattle.table.specs.declared.Table.{Table}
use Rattle.table.specs.Places.{state_number, is_free, side_at, no_call, no_connection, free_record, empty_table, record_at, rank_at, place_count}
use Rattle.table.specs.Search.{same_call, holds}
use Rattle.table.specs.Ranks.{calls_on, rank_in, rank_fits, ranks_differ, rank_sound, is_ranked}
use Rattle.table.specs.Sound.{fits_side, all_zeros, tidy_in, clash, record_fits, calls_differ, record_sound, records_sound, is_sound, Sound, TestIsFacts}
use Rattle.table.specs.Status.{StatusOfTwo}
use Rattle.table.proofs.States.{free_state}
use Rattle.table.proofs.RankLaws.{alike, differ}
use Rattle.table.proofs.Calls.{same_is, holds_occupied, holds_same, occupied_holds}

-- ---- a tidy record

-- state 0 is a state of either side
pub free_fits : (a : Side) → fits_side a Free ≡ true
free_fits Position = refl
free_fits Line = refl

zero_connection : (r : Record) → eqb r.connection.0 0 ≡ true → r.connection ≡ no_connection
zero_connection r h i = record { 0 = eqb-true r.connection.0 0 h i }

zeros_are : (r : Record) → r.state ≡ Free → all_zeros r ≡ true → r ≡ free_record
zeros_are r s h =
    let call = same_is r.call no_call (and_left (same_call r.call no_call) _ h) in
    let rest = and_right (same_call r.call no_call) _ h in
    let connection = zero_connection r (and_left (eqb r.connection.0 0) _ rest) in
    let count = eqb-true r.count.0 0 (and_right (eqb r.connection.0 0) _ rest) in
    λ i. record { state = s i; call = call i; connection = connection i; count = record { 0 = count i } }

module _ (r : Record) (tidy : tidy_in r.state r ≡ true) where
  tidy_free : is_free r.state ≡ true → r ≡ free_record
  tidy_free f =
      let s = free_state r.state f in
      zeros_are r s (ap (λ (x : State). tidy_in x r) (sym s) ∙ tidy)

  tidy_connection : (state_number r.state ≡ 4 → ⊥) → r.connection ≡ no_connection
  tidy_connection not4 = by r.state tidy not4
    where
      by : (s : State) → tidy_in s r ≡ true → (state_number s ≡ 4 → ⊥) → r.connection ≡ no_connection
      by Free h n = zero_connection r (and_left (eqb r.connection.0 0) _ (and_right (same_call r.call no_call) _ h))
      by ParkWaiting h n = zero_connection r h
      by LineWaiting h n = zero_connection r h
      by Requested h n = zero_connection r h
      by RemoteRequested h n = absurd (n refl)
      by HandedOver h n = zero_connection r h

tidy_made : (r : Record) → (is_free r.state ≡ true → r ≡ free_record) → ((state_number r.state ≡ 4 → ⊥) → r.connection ≡ no_connection) → tidy_in r.state r ≡ true
tidy_made r zeros none = by r.state refl
  where
    empty : (state_number r.state ≡ 4 → ⊥) → eqb r.connection.0 0 ≡ true
    empty n = eq-eqb r.connection.0 0 (ap (λ c. c.0) (none n))

    by : (s : State) → r.state ≡ s → tidy_in s r ≡ true
    by Free q = rw (zeros (rw q))
    by ParkWaiting q = empty (λ h. let z : ◌≡◌ {A = ℕ} 1 4 = rw q at h in omega arith)
    by LineWaiting q = empty (λ h. let z : ◌≡◌ {A = ℕ} 2 4 = rw q at h in omega arith)
    by Requested q = empty (λ h. let z : ◌≡◌ {A = ℕ} 3 4 = rw q at h in omega arith)
    by RemoteRequested q = refl
    by HandedOver q = empty (λ h. let z : ◌≡◌ {A = ℕ} 5 4 = rw q at h in omega arith)

-- ---- two records that do not clash

-- two occupied records of one call clash
clash_made : (r x : Record) → is_free r.state ≡ false → is_free x.state ≡ false → r.call ≡ x.call → clash r x ≡ true
clash_made r x f g c = rw f (occupied_holds r.call x g (sym c))

module _ (r x : Record) (h : clash r x ≡ true) where
  clash_holds : holds r.call x ≡ true
  clash_holds = and_right (not (is_free r.state)) (holds r.call x) h

  clash_first : is_free r.state ≡ false
  clash_first = not-true (is_free r.state) (and_left (not (is_free r.state)) (holds r.call x) h)

-- ---- a rank that fits

rank_held : (free : Bool) (n rank : ℕ) → rank_in free n rank ≡ true → free ≡ eqb rank 0
rank_held true n rank h = sym h
rank_held false n rank h = sym (not-true (eqb rank 0) (and_left (not (eqb rank 0)) _ h))

pub rank_low : (free : Bool) (n rank : ℕ) → rank_in free n rank ≡ true → rank ≤ n
rank_low true n rank h = omega (arith, eqb-true rank 0 h)
rank_low false n rank h = leb-true rank n (and_right (not (eqb rank 0)) _ h)

rank_made : (free : Bool) (n rank : ℕ) → free ≡ eqb rank 0 → rank ≤ n → rank_in free n rank ≡ true
rank_made true n rank e h = sym e
rank_made false n rank e h = and_both (ap not (sym e)) (le-leb rank n h)

-- ---- the test and the facts

module _ (t : Table) where
  -- from the test
  module _ (test : is_sound t ≡ true) where
    records : records_sound t ≡ true
    records = and_left (records_sound t) (is_ranked t) test

    rank_of_lem : (i : ℕ) → i < place_count → rank_sound t i ≡ true
    rank_of_lem i h = below_get (rank_sound t) place_count (and_right (records_sound t) (is_ranked t) test) i h

    record_of : (i : ℕ) → i < place_count → record_sound t i ≡ true
    record_of i h = below_get (record_sound t) place_count records i h

    placed : (i : ℕ) → i < place_count → record_fits i (record_at t i) ≡ true
    placed i h = and_left (record_fits i (record_at t i)) _ (record_of i h)

    -- no place below has the same call
    apart : (i j : ℕ) → j < i → i < place_count → clash (record_at t i) (record_at t j) ≡ false
    apart i j lt h =
        not-true (clash (record_at t i) (record_at t j)) (below_get (calls_differ t i) i (and_right (record_fits i (record_at t i)) _ (record_of i h)) j lt)

    -- no place below has the same rank
    differs : (i j : ℕ) → j < i → i < place_count → ranks_differ t i j ≡ true
    differs i j lt h = below_get (ranks_differ t i) i (and_right (rank_fits t i) _ (rank_of_lem i h)) j lt

    pub facts_of_test : Sound t
    facts_of_test = record {
      fits = λ i h. and_left (fits_side (side_at i) (record_at t i).state) _ (placed i h);
      free_is_zeros = λ i h. tidy_free (record_at t i) (and_right (fits_side (side_at i) (record_at t i).state) _ (placed i h));
      connection_in_4_only = λ i h. tidy_connection (record_at t i) (and_right (fits_side (side_at i) (record_at t i).state) _ (placed i h));
      one_place = λ i j hi hj fi fj c.
          ⊎_elim
          (λ lt. absurd (not_both (clash_made (record_at t j) (record_at t i) fj fi (sym c)) (apart j i lt hj)))
          (λ le. ⊎_elim
          (λ gt. absurd (not_both (clash_made (record_at t i) (record_at t j) fi fj c) (apart i j gt hi)))
          (λ ge. omega arith)
          (less_or j i))
          (less_or i j);
      ranked_if_held = λ i h. rank_held (is_free (record_at t i).state) (calls_on t (side_at i)) (rank_at t i) (and_left (rank_fits t i) _ (rank_of_lem i h));
      rank_to_n = λ i h. rank_low (is_free (record_at t i).state) (calls_on t (side_at i)) (rank_at t i) (and_left (rank_fits t i) _ (rank_of_lem i h));
      one_rank = λ i j hi hj side ranked same.
          ⊎_elim
          (λ lt. absurd (not_both (differs j i lt hj) (alike t j i (sym side) (λ z. ranked (same ∙ z)) (sym same))))
          (λ le. ⊎_elim (λ gt. absurd (not_both (differs i j gt hi) (alike t i j side ranked same))) (λ ge. omega arith) (less_or j i))
          (less_or i j);
    }

  -- from the facts
  module _ (s : Sound t) where
    no_clash : (i j : ℕ) → j < i → i < place_count → calls_differ t i j ≡ true
    no_clash i j lt h = by (clash (record_at t i) (record_at t j)) refl
      where
        by : (b : Bool) → clash (record_at t i) (record_at t j) ≡ b → not b ≡ true
        by false q = refl
        by true q =
            let held = clash_holds (record_at t i) (record_at t j) q in
            let same : i ≡ j =
            s.one_place i j h (omega arith) (clash_first (record_at t i) (record_at t j) q) (holds_occupied (record_at t i).call (record_at t j) held)
            (sym (holds_same (record_at t i).call (record_at t j) held)) in
            absurd (omega arith)

    apart_ranks : (i j : ℕ) → j < i → i < place_count → ranks_differ t i j ≡ true
    apart_ranks i j lt h =
        differ t i j (λ side ranked same. let one : i ≡ j = s.one_rank i j h (omega arith) side ranked same in absurd (omega arith))

    pub test_of_facts : is_sound t ≡ true
    test_of_facts =
        and_both
        (below_make (record_sound t) place_count (λ i h.
        and_both (and_both (s.fits i h) (tidy_made (record_at t i) (s.free_is_zeros i h) (s.connection_in_4_only i h)))
        (below_make (calls_differ t i) i (λ j lt. no_clash i j lt h))))
        (below_make (rank_sound t) place_count (λ i h.
        and_both (rank_made (is_free (record_at t i).state) (calls_on t (side_at i)) (rank_at t i) (s.ranked_if_held i h) (s.rank_to_n i h))
        (below_make (ranks_differ t i) i (λ j lt. apart_ranks i j lt h))))

-- THE TWO ARE ONE
pub test_is_facts : TestIsFacts
test_is_facts t = (facts_of_test t, test_of_facts t)

pub empty_sound : is_sound empty_table ≡ true
unfolding below
empty_sound = refl

-- the example of the status
pub status_of_two : StatusOfTwo
unfolding below ones ones_in
status_of_two = refl
