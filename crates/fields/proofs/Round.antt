-- The two round trips, over the description of a line. Reading what was written: no field has a tab in it, so that the first field of the line from
-- a field on is that field's text. Writing what was read: no field was refused, so that each is what its value is written as. Both go by
-- induction on the description, with the field a call or a number.
use mathlib.Core.Path.{◌≡◌, refl, sym, ap, ap₂, ◌∙◌}
use mathlib.Core.List.{List, [], ◌∷◌}
use mathlib.Core.Bool.{Bool, true, false, cond}
use mathlib.Core.Logic.{⊎_elim}
use Prim.Native.Nat.{ℕ, suc, ◌+◌, ◌≤◌, ◌<◌}
use native.Mathlib.Nat.{eq-or-lt_of_le}
use native.Mathlib.Omega.{arith}
use lib.Dec.{ltb, leb}
use lib.ListN.{length, get_or, set, length-set}
use lib.Seq.{ext_get_or, get_or-set_same, get_or-set_other}
use borrow.Author.Tests.{ltb-true, ltb-false, leb-true}
use Rattle.std.specs.Prelude.{Result, Ok, Err}
use Rattle.fields.specs.declared.Kind.{Kind}
use Rattle.fields.specs.declared.Kind.TheVariants.{Call, Number}
use Rattle.fields.specs.declared.Fault.{Fault}
use Rattle.fields.specs.declared.Fault.TheVariants.{TooLong, WrongCount, BadField}
use Rattle.fields.specs.declared.Fields.{Fields}
use Rattle.fields.specs.Parts.{before, after, tabs}
use Rattle.fields.specs.Numbers.{decimal}
use Rattle.laws.proofs.Bools.{never}
use Rattle.laws.proofs.Runs.{zeros_get}
use Rattle.table.specs.Places.{no_call}
use Rattle.fields.specs.Calls.{hex_of}
use Rattle.fields.specs.Line.{most_fields, greatest, no_values, says, with_field, walk, read_fields, text, joined, line_from, line_of}
use Rattle.fields.specs.Round.{call_fields, is_small, Within, ReadsBack, WritesBack}
use Rattle.fields.proofs.Joined.{join_before, join_after, join_tabs, last_before, last_after_lem, cut_line, cut_tabs}
use Rattle.fields.proofs.Decimal.{number_written, number_read, decimal_tabs}
use Rattle.fields.proofs.Hexadecimal.{call_written, call_read, hex_tabs}
use Rattle.fields.proofs.Walk.{by_fields, by_tests, line_walk}
use Rattle.fields.proofs.Texts.{line_whole}

-- the greatest values, one by one
abbrev Small : List Kind → Type 0
Small [] = Unit {0}
Small (k ∷ kinds) = (greatest k ≤ 65535) × Small kinds

all_small : (kinds : List Kind) → is_small kinds ≡ true → Small kinds
all_small [] h = tt
all_small (k ∷ kinds) h = by (leb (greatest k) 65535) refl h (all_small kinds)
  where
    by : (b : Bool) → leb (greatest k) 65535 ≡ b → cond b (is_small kinds) false ≡ true → (is_small kinds ≡ true → Small kinds) → (greatest k ≤ 65535) × Small kinds
    by true q h rest = (leb-true (greatest k) 65535 q, rest h)
    by false q h rest = never h

-- ---- reading what was written

text_tabs : (k : Kind) (v : ℕ) (call : List ℕ) → v ≤ 65535 → tabs (text k v call) ≡ 0
text_tabs Call v call h = hex_tabs call
text_tabs (Number kinds) v call h = decimal_tabs v (omega arith)

module _ (values call : List ℕ) where
  abbrev Line : List Kind → ℕ → List ℕ
  Line kinds i = line_from kinds i values call

  abbrev Text : Kind → ℕ → List ℕ
  Text k i = text k (get_or values i 0) call

  -- the first field of a line is the text of its first value, and what follows it is the line of the others
  first_text : (k : Kind) (kinds : List Kind) (i : ℕ) → get_or values i 0 ≤ 65535 → before (Line (k ∷ kinds) i) ≡ Text k i
  unfolding line_from
  first_text k [] i h = last_before (Text k i) (text_tabs k (get_or values i 0) call h)
  first_text k (n ∷ kinds) i h = join_before (Text k i) _ (text_tabs k (get_or values i 0) call h)

  next_text : (k : Kind) (kinds : List Kind) (i : ℕ) → get_or values i 0 ≤ 65535 → after (Line (k ∷ kinds) i) ≡ Line kinds (suc i)
  unfolding line_from
  next_text k [] i h = last_after_lem (Text k i) (text_tabs k (get_or values i 0) call h)
  next_text k (n ∷ kinds) i h = join_after (Text k i) _ (text_tabs k (get_or values i 0) call h)

  -- a line has a tab less than fields
  line_tabs : (k : Kind) (kinds : List Kind) (i : ℕ) → Small (k ∷ kinds) → Within (k ∷ kinds) i values → tabs (Line (k ∷ kinds) i) + 1 ≡ suc (length kinds)
  unfolding line_from
  line_tabs k [] i s w = omega (arith, text_tabs k (get_or values i 0) call (omega (arith, w.0, s.0)))
  line_tabs k (n ∷ kinds) i s w =
      omega (
        arith,
        join_tabs (Text k i) (Line (n ∷ kinds) (suc i)) (text_tabs k (get_or values i 0) call (omega (arith, w.0, s.0))),
        line_tabs n kinds (suc i) s.1 w.1,
      )

  -- the values so far: those of the fields before i, and zeros
  record UpTo (i : ℕ) (kinds : List Kind) (acc c : List ℕ) : Type 0 where
    long : length acc ≡ length values
    room : i + length kinds ≤ length values
    so_far : (j : ℕ) → j < i → get_or acc j 0 ≡ get_or values j 0
    zeros : (j : ℕ) → i ≤ j → get_or acc j 0 ≡ 0
    no_more : (j : ℕ) → i + length kinds ≤ j → get_or values j 0 ≡ 0
    said : call_fields kinds ≡ 0 → c ≡ call

  up_to_one : (i : ℕ) (acc : List ℕ) → ((j : ℕ) → j < i → get_or acc j 0 ≡ get_or values j 0) → get_or acc i 0 ≡ get_or values i 0
      → (j : ℕ) → j < suc i → get_or acc j 0 ≡ get_or values j 0
  up_to_one i acc so e j h = ⊎_elim (λ (q : j ≡ i). ap (λ (n : ℕ). get_or acc n 0) q ∙ e ∙ ap (λ (n : ℕ). get_or values n 0) (sym q)) (λ q. so j q) (eq-or-lt_of_le (omega arith))

  module _ (long : length call ≡ 16) (octets : (i : ℕ) → get_or call i 0 < 256) where
    read_from : (kinds : List Kind) (i : ℕ) (acc c : List ℕ) → Small kinds → Within kinds i values → UpTo i kinds acc c
        → walk kinds i (Line kinds i) acc c ≡ says values call
    unfolding walk with_field
    read_from [] i acc c s w u = ap₂ says (ext_get_or 0 acc values u.long λ j h. by j (ltb j i) refl) (u.said refl)
      where
        by : (j : ℕ) (b : Bool) → ltb j i ≡ b → get_or acc j 0 ≡ get_or values j 0
        by j true q = u.so_far j (ltb-true j i q)
        by j false q = u.zeros j (ltb-false j i q) ∙ sym (u.no_more j (omega (arith, ltb-false j i q)))
    read_from (Call ∷ kinds) i acc c s w u =
        let none : get_or values i 0 ≡ 0 = omega (arith, w.0) in
        rw (first_text Call kinds i (omega arith), call_written call long octets, next_text Call kinds i (omega arith))
        (read_from kinds (suc i) acc call s.1 w.1 record {
          long = u.long;
          room = omega (arith, u.room);
          so_far = up_to_one i acc u.so_far (u.zeros i (omega arith) ∙ sym none);
          zeros = λ j h. u.zeros j (omega arith);
          no_more = λ j h. u.no_more j (omega arith);
          said = λ z. refl;
        })
    read_from (Number m ∷ kinds) i acc c s w u =
        let v = get_or values i 0 in
        let small : v ≤ 65535 = omega (arith, w.0, s.0) in
        rw (first_text (Number m) kinds i small, number_written v m w.0 (omega arith), next_text (Number m) kinds i small)
        (read_from kinds (suc i) (set acc i v) c s.1 w.1 record {
          long = length-set acc i v ∙ u.long;
          room = omega (arith, u.room);
          so_far = up_to_one i (set acc i v) (λ j h. get_or-set_other acc i j v 0 (λ q. omega arith) ∙ u.so_far j h)
              (get_or-set_same acc i v 0 (omega (arith, u.room, u.long)));
          zeros = λ j h. get_or-set_other acc i j v 0 (λ q. omega arith) ∙ u.zeros j (omega arith);
          no_more = λ j h. u.no_more j (omega arith);
          said = u.said;
        })

pub read_written : ReadsBack
read_written longest [] values call d f short = absurd (omega (arith, d.one_call))
read_written longest (k ∷ kinds) values call d f short =
    let small = all_small (k ∷ kinds) d.small in
    let whole = line_whole (k ∷ kinds) values call d.few in
    ap (read_fields longest (k ∷ kinds)) whole
    ∙ line_walk longest (k ∷ kinds) (line_from (k ∷ kinds) 0 values call) (omega (arith, ap length whole)) d.few (line_tabs values call k kinds 0 small f.within)
    ∙ read_from values call f.in_range.long f.in_range.octets (k ∷ kinds) 0 no_values no_call small f.within record {
      long = sym f.size;
      room = omega (arith, d.few, f.size);
      so_far = λ j h. absurd (omega arith);
      zeros = λ j h. zeros_get most_fields j;
      no_more = λ j h. f.no_more j (omega arith);
      said = λ z. absurd (omega (arith, z, d.one_call));
    }

-- ---- writing what was read

said_by : (r q : Fields) → ◌≡◌ {A = Result Fields Fault} (Ok r) (Ok q) → r ≡ q
said_by r q e = cc

not_said : {A : Type 0} (f : Fault) (values call : List ℕ) → Err f ≡ says values call → A
not_said f values call q = cc

module _ (values call : List ℕ) where
  -- a line is its first field and the line of the others
  joined_up : (k : Kind) (kinds : List Kind) (i : ℕ) (s : List ℕ) → tabs s + 1 ≡ suc (length kinds)
      → text k (get_or values i 0) call ≡ before s
      → (tabs (after s) + 1 ≡ length kinds → line_from kinds (suc i) values call ≡ after s)
      → line_from (k ∷ kinds) i values call ≡ s
  unfolding line_from
  joined_up k [] i s t e r = e ∙ last_before s (omega arith)
  joined_up k (n ∷ kinds) i s t e r =
      let more : tabs s ≡ suc (length kinds) = omega arith in
      ap₂ joined e (r (omega (arith, cut_tabs s (length kinds) more))) ∙ cut_line s (length kinds) more

  -- A walk that ends well leaves the values before its first field as they are, and the call where no field is one; so the line that is written for
  -- what it says is the one that it went through.
  record WayBack (kinds : List Kind) (i : ℕ) (s acc c : List ℕ) : Type 0 where
    so_far : (j : ℕ) → j < i → get_or values j 0 ≡ get_or acc j 0
    said : call_fields kinds ≡ 0 → call ≡ c
    line : Small kinds → call_fields kinds ≤ 1 → i + length kinds ≤ length acc → tabs s + 1 ≡ length kinds → line_from kinds i values call ≡ s

  way_back : (kinds : List Kind) (i : ℕ) (s acc c : List ℕ) → walk kinds i s acc c ≡ says values call → WayBack kinds i s acc c
  way_back =
      by_fields (λ kinds i s acc c r. r ≡ says values call → WayBack kinds i s acc c)
      (λ i s acc c q. record {
        so_far = λ j h. ap (λ (r : Fields). get_or r.values j 0) (sym (said_by _ _ q));
        said = λ z. ap (λ (r : Fields). r.call) (sym (said_by _ _ q));
        line = λ small one room t. absurd (omega arith);
      })
      (λ k kinds i s acc c bad q. not_said (BadField (suc i)) values call q)
      (λ kinds i s acc c d r is rest q.
      let later = rest q in
      record {
        so_far = λ j h. later.so_far j (omega arith);
        said = λ z. absurd (omega (arith, z));
        line = λ small one room t.
            joined_up Call kinds i s t
            (ap hex_of (later.said (omega (arith, one))) ∙ call_read (before s) d is)
            (λ more. later.line small.1 (omega (arith, one)) (omega arith) more);
      })
      (λ m kinds i s acc c v r is rest q.
      let later = rest q in
      record {
        so_far = λ j h. later.so_far j (omega arith) ∙ get_or-set_other acc i j v 0 (λ e. omega arith);
        said = later.said;
        line = λ small one room t.
            let value : get_or values i 0 ≡ v = later.so_far i (omega arith) ∙ get_or-set_same acc i v 0 (omega arith) in
            joined_up (Number m) kinds i s t
            (ap decimal value ∙ number_read (before s) m v (omega (arith, small.0)) is)
            (λ more. later.line small.1 one (omega (arith, length-set acc i v)) more);
      })

pub written_read : WritesBack
written_read longest kinds s values call d =
    by_tests (λ r. r ≡ says values call → line_of kinds values call ≡ s) longest kinds s
    (λ long q. not_said TooLong values call q)
    (λ short other q. not_said WrongCount values call q)
    (λ size q.
    line_whole kinds values call d.few
    ∙ (way_back values call kinds 0 s no_values no_call q).line (all_small kinds d.small) (omega (arith, d.one_call)) (omega (arith, d.few)) size.as_many)
