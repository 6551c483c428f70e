-- What the quick test of an image goes by: a place by its octets, octets taken eight at a time, the places by buckets of their calls, and the
-- calls of either side. (Ranks go by the marks of table/specs/Marks.)
-- For speed only: no statement about an image depends on it.
use Rattle.std.specs.Prelude.{◌≡◌, Bool, cond, not, ◌&&◌, List, [], ◌∷◌, ℕ, zero, suc, ◌+◌, ◌*◌, ◌%◌, ◌^◌, ◌<◌, eqb, length, get_or, take, drop}
use Rattle.table.specs.declared.Side.TheVariants.{Position, Line}
use Rattle.table.specs.Places.{is_state, place_count, call_octets}
use Rattle.table.specs.Sound.{record_fits}
use Rattle.table.specs.Ranks.{calls_on}
use Rattle.image.specs.declared.ranks.Calls.{Calls}
use Rattle.image.specs.Image.{place_start, state_octet, record_in, table_from}

-- ---- a place by its octets

-- the call of place k
abbrev pub call_at : List ℕ → ℕ → List ℕ
call_at s k = take call_octets (drop (place_start k + 1) s)

-- the octets of place k are those of a record that may stand there
abbrev pub place_fits : List ℕ → ℕ → Bool
place_fits s k = is_state (state_octet s k) && record_fits k (record_in s k)

-- place k is occupied
abbrev pub Busy : List ℕ → ℕ → Type 0
Busy s k = state_octet s k ≡ 0 → ⊥

-- ---- octets as one number, low octet first, so that it is one load from memory

unfoldable pub low_first : List ℕ → ℕ
low_first [] = 0
low_first (x ∷ xs) = x + low_first xs * 256

-- n octets from i on
abbrev pub run_at : ℕ → List ℕ → ℕ → ℕ
run_at n s i = low_first (take n (drop i s))

-- ---- buckets

-- the bucket of a call, one of 509
unfoldable pub bucket_of : List ℕ → ℕ
bucket_of call = (low_first (take 8 call) + low_first (drop 8 call)) % 2 ^ 64 % 509

-- place k is occupied by a call of bucket h
unfoldable pub in_bucket : List ℕ → ℕ → ℕ → Bool
in_bucket s h k = not (eqb (state_octet s k) 0) && eqb (bucket_of (call_at s k)) h

-- one more than the last place below n in bucket h, or 0 if there is none
unfoldable pub last_in : List ℕ → ℕ → ℕ → ℕ
last_in s h zero = 0
last_in s h (suc n) = cond (in_bucket s h n) (suc n) (last_in s h n)

-- ---- entering the places one by one

-- each occupied place below n knows the one before it in its bucket
abbrev pub Linked : List ℕ → ℕ → List ℕ → Type 0
Linked s n before = (k : ℕ) → k < n → Busy s k → get_or before k 0 ≡ last_in s (bucket_of (call_at s k)) k

-- places k and m are not occupied by one call
abbrev pub Apart : List ℕ → ℕ → ℕ → Type 0
Apart s k m = Busy s k → Busy s m → call_at s k ≡ call_at s m → ⊥

-- The places below n are entered: each bucket knows the last of them in it, each occupied place the one before it, and no two have
-- one call.
pub record Entered (s : List ℕ) (n : ℕ) (last before : List ℕ) : Type 0 where
  pub buckets : length last ≡ 509
  pub places : length before ≡ place_count
  pub lasts : (h : ℕ) → h < 509 → get_or last h 0 ≡ last_in s h n
  pub linked : Linked s n before
  pub apart : (m : ℕ) → m < n → (k : ℕ) → k < m → Apart s k m

-- ---- ranks

-- how many calls either side has
abbrev pub calls_in : List ℕ → Calls
calls_in s = record { positions = calls_on (table_from s) Position; lines = calls_on (table_from s) Line }
