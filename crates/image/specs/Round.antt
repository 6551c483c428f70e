-- The round trips of tables and images: a table's image reads back as that table, and the table that is read from an image is written back octet
-- for octet. With them: what is put anew in an image is put anew in its table. Each statement is proved under the name that stands beside it,
-- in `proofs/Round.antt`, the last two in `proofs/Puts.antt`. Of a table in code its type says `Fit`, and of octets that they are below 256.
use Rattle.std.specs.Prelude.{◌≡◌, true, Ok, List, ℕ, ◌<◌, length, get_or}
use Rattle.table.specs.declared.Record.{Record}
use Rattle.table.specs.declared.Table.{Table}
use Rattle.table.specs.Places.{place_count, call_octets}
use Rattle.table.specs.Sound.{is_sound}
use Rattle.table.specs.Ranks.{put}
use Rattle.image.specs.Image.{image_octets, Fit, image_of, table_from, places_sound, is_sound_image, read_image, place_put}

-- each number of a list is an octet
abbrev pub Octets : List ℕ → Type 0
Octets s = (k : ℕ) → k < length s → get_or s k 0 < 256

-- ---- a table, its image, and back

-- `length_image`: every image has 2,112 octets
abbrev pub ImageLength : Type 0
ImageLength = (t : Table) → Fit t → length (image_of t) ≡ image_octets

-- `table_back`: the octets of a table's image are read as that table, whether it is sound or not
abbrev pub TableReadsBack : Type 0
TableReadsBack = (t : Table) → Fit t → table_from (image_of t) ≡ t

-- `image_reads_back`: a sound table's image is read, as that table
abbrev pub ImageReadsBack : Type 0
ImageReadsBack = (t : Table) → Fit t → is_sound t ≡ true → read_image (image_of t) ≡ Ok t

-- `test_of_image`: the test of a table's image is the test of the table
abbrev pub ImageTested : Type 0
ImageTested = (t : Table) → Fit t → places_sound (image_of t) ≡ is_sound t

-- `one_image`: two tables with one image are equal, whether they are sound or not
abbrev pub OneImage : Type 0
OneImage = (t u : Table) → Fit t → Fit u → image_of t ≡ image_of u → t ≡ u

-- ---- octets, their table, and back

-- `fit_from`: what is read from an image's length of octets is a table as the types say
abbrev pub TableReadFits : Type 0
TableReadFits = (s : List ℕ) → length s ≡ image_octets → Fit (table_from s)

-- `image_written_back`: the table that is read from an accepted image has these octets for its image
abbrev pub ImageWritesBack : Type 0
ImageWritesBack = (s : List ℕ) → Octets s → is_sound_image s ≡ true → image_of (table_from s) ≡ s

-- ---- a record put anew

-- `place_put_lem`: in a table's image, that is the image of the table with the record put there
abbrev pub PutsInImage : Type 0
PutsInImage = (t : Table) → Fit t → (i : ℕ) → i < place_count → (r : Record) → length r.call ≡ call_octets → place_put i r (image_of t) ≡ image_of (put t i r)

-- `put_fit`: and that table is as the types say
abbrev pub PutFits : Type 0
PutFits = (t : Table) → Fit t → (i : ℕ) → i < place_count → (r : Record) → length r.call ≡ call_octets → Fit (put t i r)
