-- A line by its description (document 01, "Lines, image, status"): fields parted by tabs, and of each of them its kind: a number up to a greatest
-- value, or the call. What a line says, or its first fault, and how a line is written are defined once, over the description.
use Rattle.std.specs.Prelude.{◌≡◌, cond, List, [], ◌∷◌, ◌++◌, ℕ, suc, ◌+◌, ltb, eqb, length, get_or, set, replicate, Option, Some, None, Result, Ok, Err}
use Rattle.std.proofs.lemmas.List.Edits.{sets}
use Rattle.table.specs.Places.{no_call}
use Rattle.fields.specs.declared.Kind.{Kind}
use Rattle.fields.specs.declared.Kind.TheVariants.{Call, Number}
use Rattle.fields.specs.declared.Fault.{Fault}
use Rattle.fields.specs.declared.Fault.TheVariants.{TooLong, WrongCount, BadField}
use Rattle.fields.specs.declared.Fields.{Fields}
use Rattle.fields.specs.Parts.{before, after, tabs}
use Rattle.fields.specs.Numbers.{number_of, decimal}
use Rattle.fields.specs.Calls.{call_of, hex_of}

-- ---- descriptions: of each field its kind

-- the most fields that a description may have
abbrev pub most_fields : ℕ
most_fields = 14

-- the greatest number that may stand in a field; at the call's index, where the values have 0, it is 0
abbrev pub greatest : Kind → ℕ
greatest Call = 0
greatest (Number most) = most

-- ---- what a line says: the value of each field at the field's index, 0 at the call's and past the last, and the call

abbrev pub no_values : List ℕ
no_values = replicate most_fields 0

-- what was read
abbrev pub says : List ℕ → List ℕ → Result Fields Fault
says values call = Ok (record { values = values; call = call })

-- field i: go on with what it says, or it is the first bad field
unfoldable pub with_field : {A : Type 0} → ℕ → Option A → (A → Result Fields Fault) → Result Fields Fault
with_field i (Some x) k = k x
with_field i None k = Err (BadField i)

-- the fields from the one with index i on, in the rest s of the line, with the values and the call so far; the walk ends at the first bad one
unfoldable pub walk : List Kind → ℕ → List ℕ → List ℕ → List ℕ → Result Fields Fault
walk [] i s values call = says values call
walk (Call ∷ kinds) i s values call = with_field (suc i) (call_of (before s)) λ c. walk kinds (suc i) (after s) values c
walk (Number most ∷ kinds) i s values call = with_field (suc i) (number_of (before s) most) λ v. walk kinds (suc i) (after s) (set values i v) call

-- "line longer than .. octets"; "not exactly .. fields", and no line fits a description of more than `most_fields`; then the fields
unfoldable pub read_fields : ℕ → List Kind → List ℕ → Result Fields Fault
read_fields longest kinds s =
    cond (ltb longest (length s)) (Err TooLong)
    (cond (ltb most_fields (length kinds)) (Err WrongCount)
    (cond (eqb (tabs s + 1) (length kinds)) (walk kinds 0 s no_values no_call) (Err WrongCount)))

-- the field that a fault blames, counted from 1, or 0 where it blames no single one
abbrev pub fault_field : Fault → ℕ
fault_field TooLong = 0
fault_field WrongCount = 0
fault_field (BadField i) = i

-- ---- how a line is written

-- the text of a field: the digits of the call, or those of its number
abbrev pub text : Kind → ℕ → List ℕ → List ℕ
text Call v call = hex_of call
text (Number most) v call = decimal v

-- a field, a tab, and what follows
abbrev pub joined : List ℕ → List ℕ → List ℕ
joined f rest = f ++ (9 ∷ rest)

-- the fields from the one with index i on
unfoldable pub line_from : List Kind → ℕ → List ℕ → List ℕ → List ℕ
line_from [] i values call = []
line_from (k ∷ []) i values call = text k (get_or values i 0) call
line_from (k ∷ n ∷ kinds) i values call = joined (text k (get_or values i 0) call) (line_from (n ∷ kinds) (suc i) values call)

-- the line; it is empty by a description of no field, or of more than `most_fields`
abbrev pub line_of : List Kind → List ℕ → List ℕ → List ℕ
line_of kinds values call = cond (ltb most_fields (length kinds)) [] (line_from kinds 0 values call)

-- what comes of writing a line into a buffer, the count of octets and what then stands there: the line where it fits, and nothing where not
abbrev pub Writes : List ℕ → List ℕ → ℕ → List ℕ → Type 0
Writes out line count left =
    (count ≡ cond (ltb (length out) (length line)) 0 (length line)) × (left ≡ cond (ltb (length out) (length line)) out (sets out 0 line))
