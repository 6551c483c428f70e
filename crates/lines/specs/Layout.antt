-- What a line says by a layout: what its fields are taken for, where it reads.
use Rattle.std.specs.Prelude.{List, ℕ, Result, Ok, Err}
use Rattle.fields.specs.declared.Kind.{Kind}
use Rattle.fields.specs.declared.Fault.{Fault}
use Rattle.fields.specs.declared.Fields.{Fields}
use Rattle.fields.specs.Line.{read_fields}

abbrev pub taken_by : {A : Type 0} → (Fields → A) → Result Fields Fault → Result A Fault
taken_by take (Ok f) = Ok (take f)
taken_by take (Err f) = Err f

abbrev pub read_by : {A : Type 0} → ℕ → List Kind → (Fields → A) → List ℕ → Result A Fault
read_by longest kinds take s = taken_by take (read_fields longest kinds s)
