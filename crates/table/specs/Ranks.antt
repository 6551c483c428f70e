-- Ranks (document 02, Q-4): "Each record keeps its rank among the occupied places of its side, from 1". Who is served next, what ranks a sound
-- table has, and what becomes of them when the record of a place is put anew.
use Rattle.std.specs.Prelude.{Bool, true, false, cond, not, ◌&&◌, Option, Some, None, List, ℕ, zero, suc, ◌+◌, ◌-◌, eqb, ltb, leb, set}
use Rattle.laws.specs.Lists.{mapped, below}
use Rattle.table.specs.declared.Side.{Side}
use Rattle.table.specs.declared.Record.{Record}
use Rattle.table.specs.declared.Table.{Table}
use Rattle.table.specs.Places.{is_free, same_side, waiting_on, side_at, record_at, rank_at, place_count}
use Rattle.table.specs.Search.{is_at, total}

-- ---- who is served next

-- of place n and the one that was found before it: the one that came first on their side
abbrev pub earlier : Table → ℕ → Option ℕ → Option ℕ
earlier t n None = Some n
earlier t n (Some i) = cond (ltb (rank_at t n) (rank_at t i)) (Some n) (Some i)

-- among the places below n
unfoldable pub earliest : Table → Side → ℕ → Option ℕ
earliest t a zero = None
earliest t a (suc n) = cond (is_at a (waiting_on a) n (record_at t n)) (earlier t n (earliest t a n)) (earliest t a n)

-- "With choice 1 or 2, take the waiting call that came first on its side."
abbrev pub next_waiting : Table → Side → Option ℕ
next_waiting t a = earliest t a place_count

-- ---- what ranks a sound table has

-- a record counts 1 where it holds a call and its place is on the side
abbrev pub held_on : Side → ℕ → Record → ℕ
held_on a i r = cond (same_side (side_at i) a && not (is_free r.state)) 1 0

-- "a side with n calls": n
abbrev pub calls_on : Table → Side → ℕ
calls_on t a = total (held_on a) 0 t.places

-- ".. a free place has 0", and one that is not has a rank from 1 to n
abbrev pub rank_in : Bool → ℕ → ℕ → Bool
rank_in free n rank = cond free (eqb rank 0) (not (eqb rank 0) && leb rank n)

abbrev pub rank_fits : Table → ℕ → Bool
rank_fits t i = rank_in (is_free (record_at t i).state) (calls_on t (side_at i)) (rank_at t i)

-- two places of one side have no rank in common, but for 0
abbrev pub ranks_differ : Table → ℕ → ℕ → Bool
ranks_differ t i j = not (same_side (side_at i) (side_at j) && (not (eqb (rank_at t i) 0) && eqb (rank_at t i) (rank_at t j)))

-- the rank at an index fits its place, and no place below it has the same
abbrev pub rank_sound : Table → ℕ → Bool
rank_sound t i = rank_fits t i && below (ranks_differ t i) i

-- "The ranks of a side with n calls are exactly 1 to n": they are from 1 to n and differ, and so each of the n numbers is there (`every_rank`)
abbrev pub is_ranked : Table → Bool
is_ranked t = below (rank_sound t) place_count

-- ---- a record put anew

-- "higher ranks .. drop by one": rank r, when the place with rank k is freed
abbrev pub moved_up : ℕ → ℕ → ℕ
moved_up k r = cond (ltb k r) (r - 1) r

-- ".. on that side": rank r of index j, when the place with rank k of side a is freed
abbrev pub lowered : Side → ℕ → ℕ → ℕ → ℕ
lowered a k j r = cond (same_side (side_at j) a) (moved_up k r) r

-- the ranks of a table, each of them so
unfoldable pub closed_up : Side → ℕ → List ℕ → List ℕ
closed_up a k ranks = mapped (lowered a k) 0 ranks

-- what becomes of the call at a place: one comes, it goes, or neither
pub data Change : Type 0 where
  comes : Change
  goes : Change
  neither : Change

-- .. of a place that was free or not, and is free or not
abbrev pub change_of : Bool → Bool → Change
change_of true false = comes
change_of false true = goes
change_of true true = neither
change_of false false = neither

-- the ranks after it: a new call is the last of its side; "when a place is freed, higher ranks on that side drop by one"; "A call sent back to
-- waiting keeps its rank."
abbrev pub reranked : Table → ℕ → Change → List ℕ
reranked t i comes = set t.ranks i (calls_on t (side_at i) + 1)
reranked t i goes = set (closed_up (side_at i) (rank_at t i) t.ranks) i 0
reranked t i neither = t.ranks

-- the table with a record put anew at an index
abbrev pub put : Table → ℕ → Record → Table
put t i r = record { places = set t.places i r; ranks = reranked t i (change_of (is_free (record_at t i).state) (is_free r.state)) }
