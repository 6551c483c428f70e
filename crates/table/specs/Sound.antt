-- When a table is sound (document 01, "A table is sound when: .."; document 02, Q-4): the test that the code runs, and the same as facts by
-- place, four of the paper's and three of the request. The two are one (`TestIsFacts`); later proofs cite the facts.
use Rattle.std.specs.Prelude.{◌≡◌, Bool, true, false, not, ◌&&◌, ◌↔◌, Result, Ok, Err, ℕ, ◌<◌, ◌≤◌, eqb, length}
use Rattle.laws.specs.Lists.{below}
use Rattle.table.specs.declared.Unsound.{Unsound}
use Rattle.table.specs.declared.State.{State}
use Rattle.table.specs.declared.State.TheVariants.{Free, ParkWaiting, LineWaiting, Requested, RemoteRequested, HandedOver}
use Rattle.table.specs.declared.Side.{Side}
use Rattle.table.specs.declared.Record.{Record}
use Rattle.table.specs.declared.Table.{Table}
use Rattle.table.specs.Places.{state_number, same_state, is_free, missing_on, side_at, no_call, no_connection, free_record, record_at, rank_at, place_count}
use Rattle.table.specs.Search.{same_call, holds}
use Rattle.table.specs.Ranks.{calls_on, is_ranked}

-- a state that a side has
abbrev pub fits_side : Side → State → Bool
fits_side a s = not (same_state s (missing_on a))

abbrev pub all_zeros : Record → Bool
all_zeros r = same_call r.call no_call && (eqb r.connection.0 0 && eqb r.count.0 0)

-- "a free record is all zeros; the connection is 0 except in state 4"
abbrev pub tidy_in : State → Record → Bool
tidy_in Free r = all_zeros r
tidy_in ParkWaiting r = eqb r.connection.0 0
tidy_in LineWaiting r = eqb r.connection.0 0
tidy_in Requested r = eqb r.connection.0 0
tidy_in RemoteRequested r = true
tidy_in HandedOver r = eqb r.connection.0 0

-- two occupied records hold the same call
abbrev pub clash : Record → Record → Bool
clash r x = not (is_free r.state) && holds r.call x

-- the record at index i fits its side and is tidy
abbrev pub record_fits : ℕ → Record → Bool
record_fits i r = fits_side (side_at i) r.state && tidy_in r.state r

abbrev pub calls_differ : Table → ℕ → ℕ → Bool
calls_differ t i j = not (clash (record_at t i) (record_at t j))

-- "no two occupied places hold the same call": no place below this one has its call
abbrev pub record_sound : Table → ℕ → Bool
record_sound t i = record_fits i (record_at t i) && below (calls_differ t i) i

-- document 01's part of the test, which is of the records
abbrev pub records_sound : Table → Bool
records_sound t = below (record_sound t) place_count

-- THE TEST
abbrev pub is_sound : Table → Bool
is_sound t = records_sound t && is_ranked t

-- "25": the refusal where a table, or what should be the image of one, is not sound
abbrev pub unsound_number : ℕ
unsound_number = 25

-- the number that is said of a query on a table or an image: 0 where it is answered, or the refusal's
abbrev pub number_said : {A : Type 0} → Result A Unsound → ℕ
number_said (Ok x) = 0
number_said (Err w) = unsound_number

-- THE FACTS, of every place and of every two
pub record Sound (t : Table) : Type 0 where
  pub fits : (i : ℕ) → i < place_count → fits_side (side_at i) (record_at t i).state ≡ true
  pub free_is_zeros : (i : ℕ) → i < place_count → is_free (record_at t i).state ≡ true → record_at t i ≡ free_record
  pub connection_in_4_only : (i : ℕ) → i < place_count → (state_number (record_at t i).state ≡ 4 → ⊥) → (record_at t i).connection ≡ no_connection
  pub one_place : (i j : ℕ) → i < place_count → j < place_count → is_free (record_at t i).state ≡ false → is_free (record_at t j).state ≡ false
      → (record_at t i).call ≡ (record_at t j).call → i ≡ j
  -- Q-4: "a free place has 0", and a call has a rank "from 1"
  pub ranked_if_held : (i : ℕ) → i < place_count → is_free (record_at t i).state ≡ eqb (rank_at t i) 0
  -- .. to n
  pub rank_to_n : (i : ℕ) → i < place_count → rank_at t i ≤ calls_on t (side_at i)
  pub one_rank : (i j : ℕ) → i < place_count → j < place_count → side_at i ≡ side_at j → (rank_at t i ≡ 0 → ⊥) → rank_at t i ≡ rank_at t j → i ≡ j

-- `test_is_facts`: the test holds exactly when the facts do, of any table
abbrev pub TestIsFacts : Type 0
TestIsFacts = (t : Table) → (is_sound t ≡ true) ↔ Sound t

-- `every_rank`: "exactly 1 to n": each of the numbers is the rank of a place of the side
abbrev pub EveryRank : Type 0
EveryRank = (t : Table) (a : Side) (k : ℕ) → length t.places ≡ place_count → is_sound t ≡ true → 1 ≤ k → k ≤ calls_on t a
    → (i : ℕ) × (i < place_count) × (side_at i ≡ a) × (rank_at t i ≡ k)
