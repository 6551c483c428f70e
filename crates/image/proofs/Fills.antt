-- The octets of records, one after the other: how many there are, what stands at a place, one place more, the stores of one record.
use mathlib.Core.Path.{◌≡◌, refl, sym, ap, ap₂, ◌∙◌}
use mathlib.Core.List.{List, [], ◌∷◌, ◌++◌, append_assoc}
use mathlib.Core.Logic.{⊎_elim}
use Prim.Native.Nat.{ℕ, suc, ◌+◌, ◌*◌, ◌/◌, ◌%◌, ◌<◌}
use native.Mathlib.Numerals.{add-one}
use native.Mathlib.Omega.{arith}
use lib.ListN.{length, take, drop, get_or, set, length-append}
use lib.Seq.{sets, split_at, length-take-le, get_or-take}
use Rattle.laws.proofs.Runs.{sets_append, take_more}
use Rattle.laws.proofs.Bools.{equal_or}
use Rattle.table.specs.declared.Record.{Record}
use Rattle.table.specs.Places.{state_number, call_octets, blank}
use Rattle.image.specs.Image.{connection_offset, count_offset, record_octets, place_octets, pair_of, octets_of, octets_of_all}

-- each call of a list of records has its octets
abbrev pub Calls : List Record → Type 0
Calls rs = (i : ℕ) → i < length rs → length (get_or rs i blank).call ≡ call_octets

-- ---- how many octets

pub length_octets : (r : Record) → length r.call ≡ call_octets → length (octets_of r) ≡ record_octets
unfolding octets_of
length_octets r h = simp length-append (omega arith)

-- a record with the octets of one has a call with its octets
pub call_long : (r : Record) → length (octets_of r) ≡ record_octets → length r.call ≡ call_octets
unfolding octets_of
call_long r h = omega (arith, length-append (state_number r.state ∷ r.call) (pair_of r.connection.0 ++ pair_of r.count.0))

pub calls_more : (rs : List Record) (i : ℕ) → ((k : ℕ) → k < i → length (get_or rs k blank).call ≡ call_octets) → length (get_or rs i blank).call ≡ call_octets
    → (k : ℕ) → k < i + 1 → length (get_or rs k blank).call ≡ call_octets
calls_more rs i before here k h = ⊎_elim (λ same. rw same here) (λ other. before k (omega (arith, other))) (equal_or k i)

pub length_all : (rs : List Record) (ks : List ℕ) → length ks ≡ length rs → Calls rs → length (octets_of_all rs ks) ≡ length rs * place_octets
unfolding octets_of_all
length_all [] ks n h = refl
length_all (r ∷ rs) [] n h = absurd (omega arith)
length_all (r ∷ rs) (k ∷ ks) n h =
    omega (
      arith,
      length-append (octets_of r) (k ∷ octets_of_all rs ks),
      length_octets r (h 0 (omega arith)),
      length_all rs ks (omega arith) (λ i l. h (suc i) (omega arith)),
    )

-- ---- what stands where

all_append : (rs rs' : List Record) (ks ks' : List ℕ) → length rs ≡ length ks
    → octets_of_all (rs ++ rs') (ks ++ ks') ≡ octets_of_all rs ks ++ octets_of_all rs' ks'
unfolding octets_of_all
all_append [] rs' [] ks' e = refl
all_append [] rs' (k ∷ ks) ks' e = absurd (omega arith)
all_append (r ∷ rs) rs' [] ks' e = absurd (omega arith)
all_append (r ∷ rs) rs' (k ∷ ks) ks' e =
    ap (λ (l : List ℕ). octets_of r ++ (k ∷ l)) (all_append rs rs' ks ks' (omega arith))
    ∙ sym (append_assoc (octets_of r) (k ∷ octets_of_all rs ks) (octets_of_all rs' ks'))

module _ (rs : List Record) (ks : List ℕ) (wide : length ks ≡ length rs) (i : ℕ) (inside : i < length rs) where
  -- the octets before place i and after it
  abbrev pub front : List ℕ
  front = octets_of_all (take i rs) (take i ks)

  abbrev pub back : List ℕ
  back = octets_of_all (drop (suc i) rs) (drop (suc i) ks)

  same_front : length (take i rs) ≡ length (take i ks)
  same_front = length-take-le i rs (omega arith) ∙ sym (length-take-le i ks (omega arith))

  -- another record and another rank at place i
  pub all_with : (r : Record) (k : ℕ) → octets_of_all (take i rs ++ (r ∷ drop (suc i) rs)) (take i ks ++ (k ∷ drop (suc i) ks)) ≡ front ++ (octets_of r ++ (k ∷ back))
  unfolding octets_of_all
  all_with r k = all_append (take i rs) (r ∷ drop (suc i) rs) (take i ks) (k ∷ drop (suc i) ks) same_front

  pub all_split : octets_of_all rs ks ≡ front ++ (octets_of (get_or rs i blank) ++ (get_or ks i 0 ∷ back))
  all_split = ap₂ octets_of_all (split_at rs i blank inside) (split_at ks i 0 (omega arith)) ∙ all_with (get_or rs i blank) (get_or ks i 0)

  pub front_long : Calls rs → length front ≡ i * place_octets
  front_long h =
      let size = length-take-le i rs (omega arith) in
      length_all (take i rs) (take i ks) (sym same_front) (λ k l. rw (get_or-take i rs k blank (omega (arith, size))) (h k (omega (arith, size))))
      ∙ ap (λ (n : ℕ). n * place_octets) size

  -- one place more
  pub all_more : octets_of_all (take (i + 1) rs) (take (i + 1) ks) ≡ front ++ (octets_of (get_or rs i blank) ++ (get_or ks i 0 ∷ []))
  unfolding octets_of_all
  all_more =
      ap₂ octets_of_all (take_more rs i blank inside) (take_more ks i 0 (omega arith))
      ∙ all_append (take i rs) (get_or rs i blank ∷ []) (take i ks) (get_or ks i 0 ∷ []) same_front

-- ---- the stores of a record

two_pairs : (d : List ℕ) (at a b c e : ℕ) → set (set (set (set d at a) (at + 1) b) (at + 2) c) (at + 2 + 1) e ≡ sets d at (a ∷ b ∷ c ∷ e ∷ [])
two_pairs d at a b c e =
    let e1 : at + 1 ≡ suc at = omega arith in
    let e2 : at + 2 ≡ suc (suc at) = omega arith in
    let e3 : at + 2 + 1 ≡ suc (suc (suc at)) = omega arith in
    rw (e1, e3, e2)

pub record_stores : (l d : List ℕ) (at x : ℕ) (r : Record) → length r.call ≡ call_octets → x ≡ state_number r.state
    → d ≡ sets (set l at x) (at + 1) r.call
    → set
    (set (set (set d (at + connection_offset) (r.connection.0 / 256)) (at + connection_offset + 1) (r.connection.0 % 256)) (at + count_offset) (r.count.0 / 256))
    (at + count_offset + 1)
    (r.count.0 % 256)
    ≡ sets l at (octets_of r)
unfolding octets_of
record_stores l d at x r n ex h =
    let f = state_number r.state ∷ r.call in
    let k : at + connection_offset ≡ at + length (state_number r.state ∷ r.call) = omega arith in
    let g = pair_of r.connection.0 ++ pair_of r.count.0 in
    let next : at + count_offset ≡ at + connection_offset + 2 = omega arith in
    rw next (two_pairs d (at + connection_offset) (r.connection.0 / 256) (r.connection.0 % 256) (r.count.0 / 256) (r.count.0 % 256))
    ∙ ap₂
    (λ (m : List ℕ) (q : ℕ). sets m q g)
    (h ∙ ap₂ (λ (q y : ℕ). sets (set l at y) q r.call) (add-one at) ex)
    k
    ∙ sets_append f g l at
