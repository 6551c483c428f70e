-- A record put anew in the image of a table is put anew in the table: the ranks of its side first, one after the other, and then its octets.
use mathlib.Core.Path.{◌≡◌, refl, sym, ap, ap₂, ◌∙◌}
use mathlib.Core.List.{List, [], ◌∷◌, ◌++◌, append_assoc, append-nil}
use mathlib.Core.Logic.{⊎_elim}
use Prim.Native.Nat.{ℕ, zero, suc, ◌+◌, ◌≤◌, ◌<◌}
use native.Mathlib.Numerals.{add-one}
use native.Mathlib.Omega.{arith}
use lib.ListN.{length, take, drop, get_or, set, length-set, length-append, length-drop, drop_of_length-le}
use lib.Seq.{sets, set_at, set-get_or, get_or-set_other, take-suc, take_all, length-take-le, drop-cons}
use Rattle.laws.proofs.Bools.{equal_or}
use Rattle.table.specs.declared.Side.{Side}
use Rattle.table.specs.declared.Table.{Table}
use Rattle.table.specs.Places.{is_free, place_count, side_at, call_octets, record_at, rank_at}
use Rattle.table.specs.Ranks.{calls_on, lowered, closed_up, Change, comes, goes, neither, change_of, reranked}
use Rattle.table.proofs.RankLaws.{lowered_aside, closed_size, closed_at}
use Rattle.table.proofs.Keep.{reranked_wide, put_size, put_wide, each}
use Rattle.image.specs.Image.{Fit, place_start, rank_index, octets_of, image_of, rank_octet, closed_up_in, reranked_in}
use Rattle.image.specs.Round.{PutsInImage, PutFits}
use Rattle.image.proofs.Round.{table_back, record_written, rank_written, record_image, rank_image}

-- ---- rank octets that close up, one after the other

-- the ranks of two places stand apart
ranks_apart : (i j : ℕ) → rank_index i ≡ rank_index j → i ≡ j
ranks_apart i j e = omega arith

module _ (a : Side) (k : ℕ) (s : List ℕ) where
  pub closed_none : closed_up_in a k 0 s ≡ s
  unfolding closed_up_in
  closed_none = refl

  pub closed_more : (n : ℕ) → closed_up_in a k (n + 1) s ≡ set (closed_up_in a k n s) (rank_index n) (lowered a k n (rank_octet s n))
  unfolding closed_up_in
  closed_more n = ap (λ (m : ℕ). closed_up_in a k m s) (add-one n)

  pub closed_long : (n : ℕ) → length (closed_up_in a k n s) ≡ length s
  unfolding closed_up_in
  closed_long zero = refl
  closed_long (suc n) = length-set (closed_up_in a k n s) (rank_index n) _ ∙ closed_long n

  -- the ranks of later places are as they were
  pub closed_above : (n j : ℕ) → n ≤ j → rank_octet (closed_up_in a k n s) j ≡ rank_octet s j
  unfolding closed_up_in
  closed_above zero j h = refl
  closed_above (suc n) j h =
      get_or-set_other (closed_up_in a k n s) (rank_index n) (rank_index j) _ 0 (λ e. absurd (omega (arith, ranks_apart j n e))) ∙ closed_above n j (omega arith)

  -- places of the other side add nothing
  pub closed_rest : (n m : ℕ) → n ≤ m → ((j : ℕ) → n ≤ j → j < m → side_at j ≡ a → ⊥) → closed_up_in a k m s ≡ closed_up_in a k n s
  unfolding closed_up_in
  closed_rest n zero h other = let none : n ≡ 0 = omega arith in rw none
  closed_rest n (suc m) h other =
      ⊎_elim
      (λ past. rw past)
      (λ more.
      ap₂ (λ (x : List ℕ) (r : ℕ). set x (rank_index m) r) (closed_rest n m (omega arith) (λ j low high. other j low (omega arith)))
      (lowered_aside a k m (rank_octet s m) (other m (omega arith) (omega arith)) ∙ sym (closed_above n m (omega arith)))
      ∙ set-get_or (closed_up_in a k n s) (rank_index m) 0)
      (equal_or n (suc m))

-- ---- at the image of a table

-- a list of which the first n elements are replaced by those of another, and one more
replace_one : (l m : List ℕ) (n : ℕ) → length m ≡ length l → n < length l → set (take n m ++ drop n l) n (get_or m n 0) ≡ take (suc n) m ++ drop (suc n) l
replace_one l m n same h =
    ap (λ (d : List ℕ). set (take n m ++ d) n (get_or m n 0)) (drop-cons l n 0 h)
    ∙ set_at (take n m) (get_or l n 0) (drop (suc n) l) (get_or m n 0) n (length-take-le n m (omega arith))
    ∙ sym (append_assoc (take n m) (get_or m n 0 ∷ []) (drop (suc n) l))
    ∙ ap (λ (x : List ℕ). x ++ drop (suc n) l) (sym (take-suc m n 0 (omega arith)))

module _ (t : Table) (f : Fit t) where
  -- the table with other ranks
  abbrev ranked : List ℕ → Table
  ranked l = record { places = t.places; ranks = l }

  ranked_fit : (l : List ℕ) → length l ≡ place_count → Fit (ranked l)
  ranked_fit l n = record { size = f.size; wide = n; calls = f.calls }

  module _ (a : Side) (k : ℕ) where
    abbrev closed : List ℕ
    closed = closed_up a k t.ranks

    -- the first n ranks closed up
    abbrev partly : ℕ → List ℕ
    partly n = take n closed ++ drop n t.ranks

    partly_wide : (n : ℕ) → n ≤ place_count → length (partly n) ≡ place_count
    partly_wide n h =
        simp length-append (omega (arith, length-take-le n closed (omega (arith, closed_size a k t.ranks, f.wide)), length-drop n t.ranks, f.wide))

    partly_image : (n : ℕ) → n ≤ place_count → closed_up_in a k n (image_of t) ≡ image_of (ranked (partly n))
    unfolding closed_up_in
    partly_image zero h = refl
    partly_image (suc n) h =
        let inside : n < length t.ranks = omega (arith, f.wide) in
        ap₂ (λ (s : List ℕ) (x : ℕ). set s (rank_index n) x) (partly_image n (omega arith))
        (ap (lowered a k n) (rank_written t f n (omega arith)) ∙ sym (closed_at a k t.ranks n inside))
        ∙ rank_image (ranked (partly n)) (ranked_fit (partly n) (partly_wide n (omega arith))) n (omega arith) (get_or closed n 0)
        ∙ ap (λ (l : List ℕ). image_of (ranked l)) (replace_one t.ranks closed n (closed_size a k t.ranks) inside)

    closed_wide : length closed ≡ place_count
    closed_wide = closed_size a k t.ranks ∙ f.wide

    closed_image : closed_up_in a k place_count (image_of t) ≡ image_of (ranked closed)
    closed_image =
        let none : drop place_count t.ranks ≡ [] = drop_of_length-le t.ranks {i = place_count} (omega (arith, f.wide)) in
        partly_image place_count (omega arith)
        ∙ ap (λ (l : List ℕ). image_of (ranked l))
        (ap₂ (λ (x y : List ℕ). x ++ y) (take_all place_count closed (omega (arith, closed_wide))) none ∙ append-nil closed)

  module _ (i : ℕ) (inside : i < place_count) where
    reranked_image : (c : Change) → reranked_in (image_of t) i c ≡ image_of (ranked (reranked t i c))
    reranked_image comes =
        ap (λ (u : Table). set (image_of t) (rank_index i) (calls_on u (side_at i) + 1)) (table_back t f)
        ∙ rank_image t f i inside (calls_on t (side_at i) + 1)
    reranked_image goes =
        let a : Side = side_at i in
        ap (λ (k : ℕ). set (closed_up_in a k place_count (image_of t)) (rank_index i) 0) (rank_written t f i inside)
        ∙ ap (λ (s : List ℕ). set s (rank_index i) 0) (closed_image a (rank_at t i))
        ∙ rank_image (ranked (closed a (rank_at t i))) (ranked_fit (closed a (rank_at t i)) (closed_wide a (rank_at t i))) i inside 0
    reranked_image neither = refl

-- A RECORD PUT ANEW IN THE IMAGE IS ONE PUT ANEW IN THE TABLE
pub place_put_lem : PutsInImage
place_put_lem t f i inside r long =
    let c : Change = change_of (is_free (record_at t i).state) (is_free r.state) in
    rw (record_written t f i inside)
    (ap (λ (s : List ℕ). sets s (place_start i) (octets_of r)) (reranked_image t f i inside c)
    ∙ record_image (ranked t f (reranked t i c)) (ranked_fit t f (reranked t i c) (reranked_wide t i f.wide c)) i inside r long)

-- and the table is as the types say
pub put_fit : PutFits
put_fit t f i inside r long = record {
  size = put_size t f.size i inside r;
  wide = put_wide t f.size i inside r f.wide;
  calls = each t f.size i inside r (λ j x. length x.call ≡ call_octets) long f.calls;
}
