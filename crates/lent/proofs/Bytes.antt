-- Numbers of several octets, as the kit's words say them and as the image does; and a part that is written is a run of stores.
use Rattle.std.proofs.Common.{◌≡◌, ℕ, ◌+◌, ◌/◌, ◌%◌, ◌<◌, ◌≤◌, List, [], ◌∷◌, ◌++◌, length, take, drop, set, sym, ap, ◌∙◌, ap₂, append_assoc, add-one, arith, drop-drop}
use Rattle.std.specs.Int.{w16, w32, w64, from_le_bytes, to_be_bytes}
use lib.Seq.{sets, sets-eq}
use borrow.Rule.Slice.PartMut.{put_mid}
use Rattle.laws.proofs.Runs.{sets_append}
use Rattle.table.specs.declared.Record.{Record}
use Rattle.table.specs.Places.{state_number, call_octets}
use Rattle.image.specs.Image.{connection_offset, count_offset, pair_of, octets_of}
use Rattle.image.specs.Quick.{low_first}

-- ---- low octet first

pub four : (l : List ℕ) → length l ≡ 4 → from_le_bytes w32 l ≡ low_first l
unfolding low_first
four [] n = absurd (omega arith)
four (a ∷ []) n = absurd (omega arith)
four (a ∷ b ∷ []) n = absurd (omega arith)
four (a ∷ b ∷ c ∷ []) n = absurd (omega arith)
four (a ∷ b ∷ c ∷ d ∷ []) n = omega arith
four (a ∷ b ∷ c ∷ d ∷ e ∷ l) n = absurd (omega arith)

pub eight : (l : List ℕ) → length l ≡ 8 → from_le_bytes w64 l ≡ low_first l
unfolding low_first
eight [] n = absurd (omega arith)
eight (a ∷ []) n = absurd (omega arith)
eight (a ∷ b ∷ []) n = absurd (omega arith)
eight (a ∷ b ∷ c ∷ []) n = absurd (omega arith)
eight (a ∷ b ∷ c ∷ d ∷ []) n = absurd (omega arith)
eight (a ∷ b ∷ c ∷ d ∷ e ∷ []) n = absurd (omega arith)
eight (a ∷ b ∷ c ∷ d ∷ e ∷ f ∷ []) n = absurd (omega arith)
eight (a ∷ b ∷ c ∷ d ∷ e ∷ f ∷ g ∷ []) n = absurd (omega arith)
eight (a ∷ b ∷ c ∷ d ∷ e ∷ f ∷ g ∷ h ∷ []) n = omega arith
eight (a ∷ b ∷ c ∷ d ∷ e ∷ f ∷ g ∷ h ∷ i ∷ l) n = absurd (omega arith)

-- ---- high octet first

pub pair_written : (n : ℕ) → n < 65536 → to_be_bytes w16 n ≡ pair_of n
pair_written n h = let high : n / 256 % 256 ≡ n / 256 = omega arith in ap (λ (k : ℕ). k ∷ (n % 256) ∷ []) high

-- ---- parts

-- k octets written from a on
pub part_put : (a k : ℕ) (l part octets : List ℕ) → part ≡ octets → length octets ≡ k → a + k ≤ length l → put_mid a k l part ≡ sets l a octets
part_put a k l part octets e n h =
    rw (e, ← n, drop-drop (length octets) a l) (sym (append_assoc (take a l) octets (drop (a + length octets) l)) ∙ sym (sets-eq octets l a (omega arith)))

-- a record's octets, part by part
pub record_parts : (l : List ℕ) (at x : ℕ) (r : Record) (connection count : List ℕ) → length r.call ≡ call_octets → x ≡ state_number r.state
    → connection ≡ pair_of r.connection.0 → count ≡ pair_of r.count.0
    → sets (sets (sets (set l at x) (at + 1) r.call) (at + connection_offset) connection) (at + count_offset) count ≡ sets l at (octets_of r)
unfolding octets_of
record_parts l at x r connection count n ex first second =
    let f = state_number r.state ∷ r.call in
    let g = pair_of r.connection.0 in
    let m = pair_of r.count.0 in
    let here : at + connection_offset ≡ at + length f = omega arith in
    let there : at + count_offset ≡ at + connection_offset + length g = omega arith in
    let start : sets (set l at x) (at + 1) r.call ≡ sets l at f = ap₂ (λ (q y : ℕ). sets (set l at y) q r.call) (add-one at) ex in
    rw (first, second, start, there, sets_append g m (sets l at f) (at + connection_offset), here) (sets_append f (g ++ m) l at)
