-- What the test of an image keeps of the places below an index, all of which it has passed. For speed only: no statement about an image depends on it.
use Rattle.std.specs.Prelude.{◌≡◌, List, ℕ}
use Rattle.table.specs.Marks.{Entering}
use Rattle.image.specs.Image.{table_from}
use Rattle.image.specs.Quick.{Entered, calls_in}
use Rattle.lent.specs.declared.buckets.Buckets.{Buckets}
use Rattle.lent.specs.declared.marks.Marks.{Marks}

-- their calls, which differ, by buckets
abbrev pub CallsEntered : List ℕ → ℕ → Buckets → Type 0
CallsEntered image i b = Entered image i b.last b.before

-- their ranks, which are as a sound table has them
abbrev pub RanksEntered : List ℕ → ℕ → Marks → Type 0
RanksEntered image i m = (m.calls ≡ calls_in image) × Entering (table_from image) i m.marked
