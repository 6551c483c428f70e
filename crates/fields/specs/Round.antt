-- The two round trips of a line, over its description: what is written reads back, and a line that reads is written back octet for octet. They hold
-- for a description of at most fourteen fields, just one of them the call, and numbers of 16 bits (`Description`); the first asks besides that the
-- fields can hold what is written (`Contents`).
use Rattle.std.specs.Prelude.{◌≡◌, Bool, true, false, cond, List, [], ◌∷◌, ℕ, suc, ◌≤◌, ◌<◌, leb, length, get_or}
use Rattle.table.specs.Places.{call_octets}
use Rattle.fields.specs.declared.Kind.{Kind}
use Rattle.fields.specs.declared.Kind.TheVariants.{Call, Number}
use Rattle.fields.specs.declared.Fields.{Fields}
use Rattle.fields.specs.Line.{most_fields, greatest, says, read_fields, line_of}

-- how many of the fields are the call
abbrev pub call_fields : List Kind → ℕ
call_fields [] = 0
call_fields (Call ∷ kinds) = suc (call_fields kinds)
call_fields (Number _ ∷ kinds) = call_fields kinds

-- do all numbers have 16 bits
abbrev pub is_small : List Kind → Bool
is_small [] = true
is_small (k ∷ kinds) = cond (leb (greatest k) 65535) (is_small kinds) false

pub record Description (kinds : List Kind) : Type 0 where
  pub few : length kinds ≤ most_fields
  pub one_call : call_fields kinds ≡ 1
  pub small : is_small kinds ≡ true

-- each value, from index i on, is at most the greatest of its field; at the call's index it is 0
abbrev pub Within : List Kind → ℕ → List ℕ → Type 0
Within [] i values = Unit {0}
Within (k ∷ kinds) i values = (get_or values i 0 ≤ greatest k) × Within kinds (suc i) values

pub record CallInRange (call : List ℕ) : Type 0 where
  pub long : length call ≡ call_octets
  pub octets : (i : ℕ) → get_or call i 0 < 256

-- what is read of any line: no value is above the greatest of its field, and the call is sixteen octets
pub record Ranged (kinds : List Kind) (r : Fields) : Type 0 where
  pub value : (j : ℕ) → get_or r.values j 0 ≤ greatest (get_or kinds j Call)
  pub call : CallInRange r.call

-- values and a call that a line of this description can hold
pub record Contents (kinds : List Kind) (values call : List ℕ) : Type 0 where
  pub size : length values ≡ most_fields
  pub within : Within kinds 0 values
  pub no_more : (j : ℕ) → length kinds ≤ j → get_or values j 0 ≡ 0
  pub in_range : CallInRange call

-- `read_written`
abbrev pub ReadsBack : Type 0
ReadsBack =
    (longest : ℕ) (kinds : List Kind) (values call : List ℕ) → Description kinds → Contents kinds values call → length (line_of kinds values call) ≤ longest
    → read_fields longest kinds (line_of kinds values call) ≡ says values call

-- `written_read`
abbrev pub WritesBack : Type 0
WritesBack =
    (longest : ℕ) (kinds : List Kind) (s values call : List ℕ) → Description kinds → read_fields longest kinds s ≡ says values call
    → line_of kinds values call ≡ s
