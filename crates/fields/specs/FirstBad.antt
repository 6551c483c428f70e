-- What a fault says of the line and its fields as they stand there (refusals 21 to 24; document 02, Q-3), over the description.
use Rattle.std.specs.Prelude.{◌≡◌, Bool, true, false, List, ℕ, suc, ◌+◌, ◌≤◌, ◌<◌, length, get_or, is_some, Option, Some, None}
use Rattle.std.specs.Result.{result_err}
use Rattle.fields.specs.declared.Kind.{Kind}
use Rattle.fields.specs.declared.Kind.TheVariants.{Call, Number}
use Rattle.fields.specs.declared.Fault.{Fault}
use Rattle.fields.specs.declared.Fault.TheVariants.{TooLong, WrongCount, BadField}
use Rattle.fields.specs.Parts.{field, tabs}
use Rattle.fields.specs.Numbers.{number_of}
use Rattle.fields.specs.Calls.{call_of}
use Rattle.fields.specs.Line.{most_fields, read_fields}

-- is a field good by its kind: as the call, or as a number
abbrev pub suits : Kind → List ℕ → Bool
suits Call f = is_some (call_of f)
suits (Number most) f = is_some (number_of f most)

-- is the field with index j good
abbrev pub good_at : List Kind → List ℕ → ℕ → Bool
good_at kinds s j = suits (get_or kinds j Call) (field (suc j) s)

-- field k, counted from 1, is one of the line's, it is bad, and all before it are good
pub record FirstBad (kinds : List Kind) (s : List ℕ) (k : ℕ) : Type 0 where
  pub index : ℕ
  pub counted : k ≡ suc index
  pub within : index < length kinds
  pub bad : good_at kinds s index ≡ false
  pub before : (j : ℕ) → j < index → good_at kinds s j ≡ true

-- a line that is looked at field by field: it is not too long, and has as many fields as its description, which has not too many
pub record RightSize (longest : ℕ) (kinds : List Kind) (s : List ℕ) : Type 0 where
  pub short : length s ≤ longest
  pub few : length kinds ≤ most_fields
  pub as_many : tabs s + 1 ≡ length kinds

-- what each fault says of a line, and that there is none
abbrev pub Verdict : ℕ → List Kind → List ℕ → Option Fault → Type 0
Verdict longest kinds s None = RightSize longest kinds s × ((j : ℕ) → j < length kinds → good_at kinds s j ≡ true)
Verdict longest kinds s (Some TooLong) = longest < length s
Verdict longest kinds s (Some WrongCount) = (length s ≤ longest) × (RightSize longest kinds s → ⊥)
Verdict longest kinds s (Some (BadField k)) = RightSize longest kinds s × FirstBad kinds s k

-- `fault_right`: of every line, by every description
abbrev pub FaultRight : Type 0
FaultRight = (longest : ℕ) (kinds : List Kind) (s : List ℕ) → Verdict longest kinds s (result_err (read_fields longest kinds s))

-- `one_fault`: no two can be said of one line
abbrev pub OneFault : Type 0
OneFault =
    (longest : ℕ) (kinds : List Kind) (s : List ℕ) (f g : Option Fault) → Verdict longest kinds s f → Verdict longest kinds s g → f ≡ g
