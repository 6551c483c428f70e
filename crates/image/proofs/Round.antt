-- The image and the table say the same: what is read from a table's image is the table, what is written of an accepted image is the
-- image, one record or one rank written is one that is set in the table. An image is taken apart at a place (`all_split`), and what stands there is
-- read from its start.
use mathlib.Core.Path.{◌≡◌, refl, sym, ap, ap₂, ◌∙◌}
use mathlib.Core.Bool.{Bool, true, false, cond, ◌&&◌}
use mathlib.Core.List.{List, [], ◌∷◌, ◌++◌, append_assoc}
use Prim.Native.Nat.{ℕ, zero, suc, ◌+◌, ◌*◌, ◌/◌, ◌%◌, ◌≤◌, ◌<◌}
use native.Mathlib.Nat.{zero-add}
use native.Mathlib.Omega.{arith}
use lib.Dec.{eqb}
use lib.ListN.{length, take, drop, get_or, set, length-append, length-drop, drop_of_length-le}
use lib.Seq.{sets, set_at, set_split, take_at, drop_at, get_or_at, length-take-le, get_or-append-add, drop-cons, drop-drop, take-add, get_or-drop, split_at, ext_get_or}
use borrow.Author.Tests.{eqb-true, ltb-true, eq-eqb, lt-ltb}
use Rattle.laws.proofs.Bools.{and_left, and_right}
use Rattle.laws.specs.Lists.{listed}
use Rattle.laws.proofs.Lists.{below_get, below_make, listed_size, listed_at}
use Rattle.laws.proofs.Runs.{sets_over}
use Rattle.table.specs.declared.Record.{Record}
use Rattle.table.specs.declared.Table.{Table}
use Rattle.table.specs.Places.{state_number, is_state, state_of, place_count, call_octets, blank, record_at, rank_at}
use Rattle.table.specs.Sound.{is_sound, number_said}
use Rattle.table.specs.Status.{status_of}
use Rattle.table.proofs.States.{state_below, state_back, number_back}
use Rattle.std.specs.Prelude.{Result, Ok, Err}
use Rattle.table.specs.declared.Unsound.{Unsound}
use Rattle.image.specs.Image.{connection_offset, count_offset, record_octets, place_octets, image_octets, place_start, rank_index, Fit, pair_of, octets_of, octets_of_all, image_of, pair_at, record_from, state_octet, record_in, rank_octet, table_from, states_fit, places_sound, is_sound_image, is_written, written_number}
use Rattle.image.specs.Round.{Octets, ImageLength, TableReadsBack, ImageReadsBack, ImageTested, OneImage, TableReadFits, ImageWritesBack}
use Rattle.image.proofs.Fills.{Calls, length_octets, length_all, front, back, all_with, all_split, front_long}

-- ---- a table that was read

pub size_from : (s : List ℕ) → length (table_from s).places ≡ place_count
size_from s = listed_size (record_in s) 0 place_count

pub wide_from : (s : List ℕ) → length (table_from s).ranks ≡ place_count
wide_from s = listed_size (rank_octet s) 0 place_count

module _ (s : List ℕ) (i : ℕ) (inside : i < place_count) where
  pub record_at_lem : record_at (table_from s) i ≡ record_in s i
  record_at_lem = listed_at (record_in s) blank 0 place_count i inside ∙ ap (record_in s) (zero-add i)

  pub rank_at_lem : rank_at (table_from s) i ≡ rank_octet s i
  rank_at_lem = listed_at (rank_octet s) 0 0 place_count i inside ∙ ap (rank_octet s) (zero-add i)

-- A TABLE THAT WAS READ FROM AN IMAGE IS AS THE TYPES SAY
pub fit_from : TableReadFits
unfolding record_from
fit_from s size = record {
  size = size_from s;
  wide = wide_from s;
  calls = λ i h.
      ap (λ (r : Record). length r.call) (record_at_lem s i h)
      ∙ length-take-le call_octets (drop (place_start i + 1) s) (omega (arith, length-drop (place_start i + 1) s));
}

-- ---- reading what was written

-- what stands at an octet is read from there on
record_drop : (s : List ℕ) (at : ℕ) → record_from s at ≡ record_from (drop at s) 0
unfolding record_from
record_drop s at =
    let octet : (k m : ℕ) → m ≡ at + k → get_or s m 0 ≡ get_or (drop at s) k 0 = λ k m e. ap (λ (n : ℕ). get_or s n 0) e ∙ sym (get_or-drop at s k 0) in
    let pair : (k m : ℕ) → m ≡ at + k → pair_at s m ≡ pair_at (drop at s) k = λ k m e.
    ap₂ (λ (a b : ℕ). a * 256 + b) (octet k m e) (octet (k + 1) (m + 1) (omega arith)) in
    λ j. record {
      state = state_of (octet 0 at (omega arith) j);
      call = take call_octets (sym (drop-drop 1 at s) j);
      connection = record { 0 = pair connection_offset (at + connection_offset) refl j };
      count = record { 0 = pair count_offset (at + count_offset) refl j };
    }

halves : (n : ℕ) → n / 256 * 256 + n % 256 ≡ n
halves n = omega arith

-- the record at the start of its octets
record_back : (r : Record) (t : List ℕ) → length r.call ≡ call_octets → record_from (octets_of r ++ t) 0 ≡ r
unfolding record_from octets_of
record_back r t h =
    let q = pair_of r.connection.0 ++ pair_of r.count.0 in
    let e : r.call ++ q ++ t ≡ r.call ++ (q ++ t) = append_assoc r.call q t in
    let at : (m k : ℕ) → m ≡ length r.call + k → get_or (r.call ++ q ++ t) m 0 ≡ get_or (q ++ t) k 0 = λ m k d.
    ap₂ (λ (l : List ℕ) (n : ℕ). get_or l n 0) e d ∙ get_or-append-add r.call (q ++ t) k 0 in
    let c : pair_at (octets_of r ++ t) connection_offset ≡ r.connection.0 =
    ap₂ (λ (a b : ℕ). a * 256 + b) (at 16 0 (omega arith)) (at 17 1 (omega arith)) ∙ halves r.connection.0 in
    let n : pair_at (octets_of r ++ t) count_offset ≡ r.count.0 =
    ap₂ (λ (a b : ℕ). a * 256 + b) (at 18 2 (omega arith)) (at 19 3 (omega arith)) ∙ halves r.count.0 in
    λ j. record {
      state = state_back r.state j;
      call = (ap (take call_octets) e ∙ take_at r.call (q ++ t) call_octets h) j;
      connection = record { 0 = c j };
      count = record { 0 = n j };
    }

module _ (t : Table) (f : Fit t) where
  calls : Calls t.places
  calls i l = f.calls i (omega (arith, f.size))

  beside : length t.ranks ≡ length t.places
  beside = f.wide ∙ sym f.size

  module _ (i : ℕ) (inside : i < place_count) where
    within : i < length t.places
    within = omega (arith, f.size)

    abbrev after : List ℕ
    after = back t.places t.ranks beside i within

    -- the octets of a place, and what stands after them
    from_place : drop (place_start i) (image_of t) ≡ octets_of (record_at t i) ++ (rank_at t i ∷ after)
    from_place =
        let start : List ℕ = front t.places t.ranks beside i within in
        ap (drop (place_start i)) (all_split t.places t.ranks beside i within)
        ∙ drop_at start (octets_of (record_at t i) ++ (rank_at t i ∷ after)) (place_start i) (front_long t.places t.ranks beside i within calls)

    pub record_written : record_in (image_of t) i ≡ record_at t i
    record_written =
        record_drop (image_of t) (place_start i)
        ∙ ap (λ (l : List ℕ). record_from l 0) from_place
        ∙ record_back (record_at t i) (rank_at t i ∷ after) (f.calls i inside)

    pub rank_written : rank_octet (image_of t) i ≡ rank_at t i
    rank_written =
        sym (get_or-drop (place_start i) (image_of t) record_octets 0)
        ∙ ap (λ (l : List ℕ). get_or l record_octets 0) from_place
        ∙ get_or_at (octets_of (record_at t i)) (rank_at t i) after 0 record_octets (length_octets (record_at t i) (f.calls i inside))

    state_written : state_octet (image_of t) i ≡ state_number (record_at t i).state
    unfolding octets_of
    state_written =
        let here : place_start i ≡ place_start i + 0 = omega arith in
        ap (λ (n : ℕ). get_or (image_of t) n 0) here
        ∙ sym (get_or-drop (place_start i) (image_of t) 0 0)
        ∙ ap (λ (l : List ℕ). get_or l 0 0) from_place

    -- ONE RECORD WRITTEN IS ONE RECORD SET
    pub record_image : (r : Record) → length r.call ≡ call_octets
        → sets (image_of t) (place_start i) (octets_of r) ≡ image_of (record { places = set t.places i r; ranks = t.ranks })
    record_image r c =
        let start : List ℕ = front t.places t.ranks beside i within in
        ap (λ (l : List ℕ). sets l (place_start i) (octets_of r)) (all_split t.places t.ranks beside i within)
        ∙ sets_over start (octets_of (record_at t i)) (rank_at t i ∷ after) (octets_of r) (place_start i) (front_long t.places t.ranks beside i within calls)
        (length_octets (record_at t i) (f.calls i inside) ∙ sym (length_octets r c))
        ∙ sym (all_with t.places t.ranks beside i within r (rank_at t i))
        ∙ sym (ap₂ octets_of_all (set_split t.places i r within) (split_at t.ranks i 0 (omega (arith, f.wide))))

    -- ONE RANK WRITTEN IS ONE RANK SET
    pub rank_image : (k : ℕ) → set (image_of t) (rank_index i) k ≡ image_of (record { places = t.places; ranks = set t.ranks i k })
    rank_image k =
        let start : List ℕ = front t.places t.ranks beside i within in
        let here = octets_of (record_at t i) in
        let long : length (start ++ here) ≡ rank_index i = simp length-append (omega (arith, front_long t.places t.ranks beside i within calls, length_octets (record_at t i) (f.calls i inside))) in
        ap (λ (l : List ℕ). set l (rank_index i) k)
        (all_split t.places t.ranks beside i within ∙ sym (append_assoc start here (rank_at t i ∷ after)))
        ∙ set_at (start ++ here) (rank_at t i) after k (rank_index i) long
        ∙ append_assoc start here (k ∷ after)
        ∙ sym (all_with t.places t.ranks beside i within (record_at t i) k)
        ∙ sym (ap₂ octets_of_all (split_at t.places i blank within) (set_split t.ranks i k (omega (arith, f.wide))))

-- AN IMAGE HAS 2,112 OCTETS
pub length_image : ImageLength
length_image t f = length_all t.places t.ranks (beside t f) (calls t f) ∙ ap (λ (n : ℕ). n * place_octets) f.size

-- the table of its image
pub table_back : TableReadsBack
table_back t f =
    let s : List ℕ = image_of t in
    let places = ext_get_or blank (table_from s).places t.places (size_from s ∙ sym f.size) (λ i h.
    let inside : i < place_count = omega (arith, size_from s) in record_at_lem s i inside ∙ record_written t f i inside) in
    let ranks = ext_get_or 0 (table_from s).ranks t.ranks (wide_from s ∙ sym f.wide) (λ i h.
    let inside : i < place_count = omega (arith, wide_from s) in rank_at_lem s i inside ∙ rank_written t f i inside) in
    λ j. record { places = places j; ranks = ranks j }

-- THE TEST OF ITS IMAGE IS ITS OWN, whether it is sound or not
pub test_of_image : ImageTested
test_of_image t f =
    ap₂
    ◌&&◌
    (below_make (λ i. is_state (state_octet (image_of t) i)) place_count (λ i h. rw (state_written t f i h) (lt-ltb (state_number (record_at t i).state) 6 (state_below (record_at t i).state))))
    (ap is_sound (table_back t f))

pub image_tested : (t : Table) → Fit t → is_sound_image (image_of t) ≡ is_sound t
image_tested t f = rw (eq-eqb (length (image_of t)) image_octets (length_image t f)) (test_of_image t f)

-- READING WHAT WAS WRITTEN
pub image_reads_back : ImageReadsBack
image_reads_back t f h =
    let refused : Result Table Unsound = Err (record {}) in
    ap (λ (b : Bool). cond b (Ok (table_from (image_of t))) refused) (image_tested t f ∙ h) ∙ ap (λ (u : Table). Ok u) (table_back t f)

-- ONE IMAGE, ONE TABLE: soundness is not needed
pub one_image : OneImage
one_image t u f g e = sym (table_back t f) ∙ ap table_from e ∙ table_back u g

-- ---- writing what was read

pair_back : (a b : ℕ) → b < 256 → pair_of (a * 256 + b) ≡ a ∷ b ∷ []
pair_back a b h =
    let q : (a * 256 + b) / 256 ≡ a = omega arith in
    let m : (a * 256 + b) % 256 ≡ b = omega arith in
    ap₂ (λ (x y : ℕ). x ∷ y ∷ []) q m

four_octets : (s : List ℕ) → record_octets ≤ length s → take 4 (drop 17 s) ≡ get_or s 17 0 ∷ get_or s 18 0 ∷ get_or s 19 0 ∷ get_or s 20 0 ∷ []
four_octets s h =
    ap
    (take 4)
    (drop-cons s 17 0 (omega arith)
    ∙ ap
    (λ (l : List ℕ). get_or s 17 0 ∷ l)
    (drop-cons s 18 0 (omega arith)
    ∙ ap
    (λ (l : List ℕ). get_or s 18 0 ∷ l)
    (drop-cons s 19 0 (omega arith) ∙ ap (λ (l : List ℕ). get_or s 19 0 ∷ l) (drop-cons s 20 0 (omega arith)))))

record_octets_lem : (s : List ℕ) → record_octets ≤ length s → Octets s → get_or s 0 0 < 6 → octets_of (record_from s 0) ≡ take record_octets s
unfolding record_from octets_of
record_octets_lem [] h o b = absurd (omega arith)
record_octets_lem (x ∷ s) h o b =
    let c = pair_back (get_or (x ∷ s) 17 0) (get_or (x ∷ s) 18 0) (o 18 (omega arith)) in
    let n = pair_back (get_or (x ∷ s) 19 0) (get_or (x ∷ s) 20 0) (o 20 (omega arith)) in
    ap (λ (y : ℕ). (y ∷ take 16 s) ++ (pair_of (pair_at (x ∷ s) 17) ++ pair_of (pair_at (x ∷ s) 19))) (number_back x b)
    ∙ ap₂ (λ (p q : List ℕ). (x ∷ take 16 s) ++ (p ++ q)) c n
    ∙ ap (λ (l : List ℕ). (x ∷ take 16 s) ++ l) (sym (four_octets (x ∷ s) h))
    ∙ sym (take-add 17 4 (x ∷ s))

module _ (s : List ℕ) (o : Octets s) where
  -- the octets of place i, and those after them
  place_octets_lem : (i : ℕ) → (i + 1) * place_octets ≤ length s → get_or s (place_start i) 0 < 6
      → octets_of (record_in s i) ++ (rank_octet s i ∷ drop (place_start (i + 1)) s) ≡ drop (place_start i) s
  place_octets_lem i h low =
      let d : List ℕ = drop (place_start i) s in
      let long = length-drop (place_start i) s in
      let octets : Octets d = λ k w. rw (get_or-drop (place_start i) s k 0) (o (place_start i + k) (omega (arith, long, w))) in
      let here : place_start i + 0 ≡ place_start i = omega arith in
      let first : get_or d 0 0 < 6 = rw (get_or-drop (place_start i) s 0 0, here) low in
      let next : place_start (i + 1) ≡ place_start i + place_octets = omega arith in
      let rest : drop (place_start (i + 1)) s ≡ drop place_octets d = ap (λ (n : ℕ). drop n s) next ∙ sym (drop-drop place_octets (place_start i) s) in
      ap₂
      (λ (a b : List ℕ). a ++ b)
      (ap octets_of (record_drop s (place_start i)) ∙ record_octets_lem d (omega (arith, long)) octets first)
      (ap₂ (λ (x : ℕ) (l : List ℕ). x ∷ l) (sym (get_or-drop (place_start i) s record_octets 0)) rest)
      ∙ sym (split_at d record_octets 0 (omega (arith, long)))

  all_back : (n i : ℕ) → length s ≡ (i + n) * place_octets → ((k : ℕ) → k < i + n → get_or s (place_start k) 0 < 6)
      → octets_of_all (listed (record_in s) i n) (listed (rank_octet s) i n) ≡ drop (place_start i) s
  unfolding listed octets_of_all
  all_back zero i l low = sym (drop_of_length-le s {i = place_start i} (omega arith))
  all_back (suc n) i l low =
      ap (λ (rest : List ℕ). octets_of (record_in s i) ++ (rank_octet s i ∷ rest)) (all_back n (i + 1) (omega arith) (λ k h. low k (omega arith)))
      ∙ place_octets_lem i (omega arith) (low i (omega arith))

-- WRITING WHAT WAS READ
pub image_written_back : ImageWritesBack
image_written_back s o h =
    let long = eqb-true (length s) image_octets (and_left (eqb (length s) image_octets) (places_sound s) h) in
    let fit = and_left (states_fit s) _ (and_right (eqb (length s) image_octets) (places_sound s) h) in
    all_back s o place_count 0 long (λ k l. ltb-true (state_octet s k) 6 (below_get (λ i. is_state (state_octet s i)) place_count fit k (omega arith)))

-- THE NUMBERS OF THE TWO QUERIES ON A TABLE: 0, or the paper's 25
said_by : {A : Type 0} (b : Bool) (x : A) (w : Unsound) → number_said (cond b (Ok x) (Err w)) ≡ cond b 0 25
said_by true x w = refl
said_by false x w = refl

pub numbers_written : (t : Table) (buffer : List ℕ) → written_number t buffer ≡ cond (is_written t buffer) 0 25
numbers_written t buffer = said_by (is_written t buffer) tt (record {})

pub status_numbered : (t : Table) → number_said (status_of t) ≡ cond (is_sound t) 0 25
status_numbered t = said_by (is_sound t) _ (record {})
