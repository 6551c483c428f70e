-- The table image (document 01, "Image: per place 21 octets, place 1 first: state, call, connection, count, the last two high octet
-- first."; document 02, Q-4: "The image grows by one octet per place, after the count, to 2,112."): reading and writing it, with refusal 25,
-- and a record put anew in it. Places are counted from 0 here, as indexes are.
use Rattle.std.specs.Prelude.{◌≡◌, Bool, cond, ◌&&◌, List, [], ◌∷◌, ◌++◌, ℕ, zero, suc, ◌+◌, ◌*◌, ◌/◌, ◌%◌, ◌<◌, eqb, length, get_or, set, take, drop, Result, Ok, Err, ⊤}
use Rattle.std.proofs.lemmas.List.Edits.{sets}
use Rattle.std.specs.Result.{result_unwrap_or}
use Rattle.laws.specs.Lists.{below, listed}
use Rattle.table.specs.declared.Unsound.{Unsound}
use Rattle.table.specs.declared.Side.{Side}
use Rattle.table.specs.declared.Record.{Record}
use Rattle.table.specs.declared.Table.{Table}
use Rattle.table.specs.Places.{state_number, is_free, is_state, state_of, place_count, side_at, call_octets, empty_table, record_at}
use Rattle.table.specs.Sound.{is_sound, number_said}
use Rattle.table.specs.Ranks.{calls_on, lowered, Change, comes, goes, neither, change_of}

-- ---- how large it is

-- "per place 21 octets": a state octet, the call, and two octets each for connection and count
abbrev pub connection_offset : ℕ
connection_offset = 1 + call_octets

abbrev pub count_offset : ℕ
count_offset = connection_offset + 2

abbrev pub record_octets : ℕ
record_octets = count_offset + 2

-- and by Q-4 the rank
abbrev pub place_octets : ℕ
place_octets = record_octets + 1

abbrev pub image_octets : ℕ
image_octets = place_count * place_octets

-- where a place starts, and where its rank stands
abbrev pub place_start : ℕ → ℕ
place_start i = i * place_octets

abbrev pub rank_index : ℕ → ℕ
rank_index i = place_start i + record_octets

-- ---- writing

-- a number of 16 bits, high octet first
abbrev pub pair_of : ℕ → List ℕ
pair_of n = (n / 256) ∷ (n % 256) ∷ []

-- the octets of a record
unfoldable pub octets_of : Record → List ℕ
octets_of r = (state_number r.state ∷ r.call) ++ (pair_of r.connection.0 ++ pair_of r.count.0)

-- each record's octets, and after them its rank
unfoldable pub octets_of_all : List Record → List ℕ → List ℕ
octets_of_all [] ranks = []
octets_of_all (r ∷ rs) [] = []
octets_of_all (r ∷ rs) (k ∷ ks) = octets_of r ++ (k ∷ octets_of_all rs ks)

abbrev pub image_of : Table → List ℕ
image_of t = octets_of_all t.places t.ranks

-- What the types say of a table: how many places, ranks and octets of a call there are. No bound of an octet or of a number is needed.
pub record Fit (t : Table) : Type 0 where
  pub size : length t.places ≡ place_count
  pub wide : length t.ranks ≡ place_count
  pub calls : (i : ℕ) → i < place_count → length (record_at t i).call ≡ call_octets

-- "Writing refused by 25 (an unsound table, or a buffer not 2,016 octets)", which Q-4 makes 2,112
abbrev pub is_written : Table → List ℕ → Bool
is_written t buffer = eqb (length buffer) image_octets && is_sound t

-- done, or the refusal
abbrev pub write_image : Table → List ℕ → Result ⊤ Unsound
write_image t buffer = cond (is_written t buffer) (Ok tt) (Err (record {}))

-- 0, or the refusal's number
abbrev pub written_number : Table → List ℕ → ℕ
written_number t buffer = number_said (write_image t buffer)

-- ".. leaves the buffer as found"
abbrev pub written : Table → List ℕ → List ℕ
written t buffer = cond (is_written t buffer) (image_of t) buffer

-- ---- reading

-- the two octets at i, high octet first
abbrev pub pair_at : List ℕ → ℕ → ℕ
pair_at s i = get_or s i 0 * 256 + get_or s (i + 1) 0

-- the record that stands at octet i: state, call, connection, count
unfoldable pub record_from : List ℕ → ℕ → Record
record_from s i = record {
  state = state_of (get_or s i 0);
  call = take call_octets (drop (i + 1) s);
  connection = record { 0 = pair_at s (i + connection_offset) };
  count = record { 0 = pair_at s (i + count_offset) };
}

-- the state octet, the record and the rank of a place
abbrev pub state_octet : List ℕ → ℕ → ℕ
state_octet s i = get_or s (place_start i) 0

abbrev pub record_in : List ℕ → ℕ → Record
record_in s i = record_from s (place_start i)

abbrev pub rank_octet : List ℕ → ℕ → ℕ
rank_octet s i = get_or s (rank_index i) 0

abbrev pub table_from : List ℕ → Table
table_from s = record { places = listed (record_in s) 0 place_count; ranks = listed (rank_octet s) 0 place_count }

-- a state octet that is the number of no state is not sound
abbrev pub states_fit : List ℕ → Bool
states_fit s = below (λ i. is_state (state_octet s i)) place_count

-- the octets of an image's length are those of a sound table
abbrev pub places_sound : List ℕ → Bool
places_sound s = states_fit s && is_sound (table_from s)

-- "image not 2,016 octets, or table not sound", and by Q-4 "25 reads the new size and the rank rule"
abbrev pub is_sound_image : List ℕ → Bool
is_sound_image s = eqb (length s) image_octets && places_sound s

abbrev pub read_image : List ℕ → Result Table Unsound
read_image s = cond (is_sound_image s) (Ok (table_from s)) (Err (record {}))

-- "Reading a refused image gives the empty table": what is said of it, with its number (`number_said`)
abbrev pub table_said : List ℕ → Table
table_said s = result_unwrap_or (read_image s) empty_table

-- ---- a record put anew, in an image of the right length: what `put` does to a table, done to its octets

-- the rank octets of the first n places lowered, one after the other
unfoldable pub closed_up_in : Side → ℕ → ℕ → List ℕ → List ℕ
closed_up_in a k zero s = s
closed_up_in a k (suc n) s = set (closed_up_in a k n s) (rank_index n) (lowered a k n (rank_octet s n))

-- the image with the ranks that it has by what becomes of the call at place i
abbrev pub reranked_in : List ℕ → ℕ → Change → List ℕ
reranked_in s i comes = set s (rank_index i) (calls_on (table_from s) (side_at i) + 1)
reranked_in s i goes = set (closed_up_in (side_at i) (rank_octet s i) place_count s) (rank_index i) 0
reranked_in s i neither = s

abbrev pub place_put : ℕ → Record → List ℕ → List ℕ
place_put i r s = sets (reranked_in s i (change_of (is_free (record_in s i).state) (is_free r.state))) (place_start i) (octets_of r)
