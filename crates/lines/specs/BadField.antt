-- How the first bad field of a line stands to its reading (document 02, Q-3). Both are taken from what one walk through the line gives
-- (`reading`); this says what the field that is named has to do with the fields as they stand in the line, and with the refusal.
use Rattle.std.specs.Prelude.{◌≡◌, Bool, true, false, cond, ◌||◌, List, ℕ, ◌-◌, ◌≤◌, ◌<◌, eqb, ltb, get_or, is_some}
use Rattle.fields.specs.Parts.{field}
use Rattle.fields.specs.Numbers.{number_of}
use Rattle.fields.specs.Calls.{call_of}
use Rattle.fields.specs.declared.Kind.TheVariants.{Call}
use Rattle.fields.specs.Line.{greatest}
use Rattle.lines.specs.EventLine.{event_fields, read_line, number_in, bad_field}

-- is field i of the line, counted from 1, good: the second as a call, any other as a number of its range
abbrev pub is_good : ℕ → List ℕ → Bool
is_good i s = cond (eqb i 2) (is_some (call_of (field i s))) (is_some (number_of (field i s) (greatest (get_or event_fields (i - 1) Call))))

-- `bad_field_stands`
pub record BadFieldStands (s : List ℕ) : Type 0 where
  -- it is above 0 exactly when reading refuses by 23 or 24, and 0 exactly when the line reads or 21 or 22 refuses it
  pub above_0 : ltb 0 (bad_field s) ≡ (eqb (number_in (read_line s)) 23 || eqb (number_in (read_line s)) 24)
  pub at_0 : eqb (bad_field s) 0 ≡ (eqb (number_in (read_line s)) 0 || (eqb (number_in (read_line s)) 21 || eqb (number_in (read_line s)) 22))
  -- it is 2 exactly with 24
  pub call : eqb (bad_field s) 2 ≡ eqb (number_in (read_line s)) 24
  -- it is one of the seven; the field that it names is bad, and all before it are good
  pub one_of_seven : bad_field s ≤ 7
  pub bad : 0 < bad_field s → is_good (bad_field s) s ≡ false
  pub good_before : (j : ℕ) → 0 < j → j < bad_field s → is_good j s ≡ true
  -- in a line that reads, all seven are good
  pub all_good : number_in (read_line s) ≡ 0 → (j : ℕ) → 0 < j → j ≤ 7 → is_good j s ≡ true
