-- The place's octets are its record's state and its rank. A free place has rank 0 or is refused, and 0 is not marked; of another the callee says
-- what the laws of marks ask.
use Rattle.std.proofs.Common.{◌≡◌, ℕ, ◌+◌, ◌*◌, ◌<◌, Bool, true, false, cond, ◌&&◌, eqb, List, sym, refl, ap, ◌∙◌, subst, ap₂, eq-eqb, ne_eqb}
use Rattle.laws.proofs.Lists.{below_not, below_more}
use Rattle.table.specs.declared.Side.{Side}
use Rattle.table.specs.declared.Record.{Record}
use Rattle.table.specs.Places.{is_free, side_at, record_at, rank_at, place_count}
use Rattle.table.specs.Ranks.{rank_in, rank_fits, rank_sound, is_ranked}
use Rattle.table.specs.Marks.{is_fresh, with_mark, of_side, Marked, Entering}
use Rattle.table.proofs.MarkLaws.{entered, left_out, side_calls}
use Rattle.image.specs.declared.ranks.Calls.{Calls}
use Rattle.image.specs.Image.{table_from, rank_octet, place_octets, state_octet}
use Rattle.image.specs.Quick.{calls_in}
use Rattle.image.proofs.Round.{size_from, record_at_lem, rank_at_lem}
use Rattle.image.proofs.PlaceLaws.{free_octet}
use Rattle.lent.specs.declared.marks.Marks.{Marks}
use Rattle.lent.proofs.marks.Marks.enter.Goals as goal

-- 0 is always new, and is not marked
zero_fresh : (b x : Bool) → b ≡ (b && cond b true x)
zero_fresh true x = refl
zero_fresh false x = refl

zero_unmarked : (b : Bool) (m l : List ℕ) → m ≡ cond b (cond b m l) m
zero_unmarked true m l = refl
zero_unmarked false m l = refl

module _ (octets : List ℕ) (i : ℕ) (inside : i < place_count) (marks : List ℕ) (given : Entering (table_from octets) i marks) where
  free : is_free (record_at (table_from octets) i).state ≡ eqb (state_octet octets i) 0
  free = ap (λ (r : Record). is_free r.state) (record_at_lem octets i inside) ∙ free_octet octets (i * place_octets)

  rank : rank_at (table_from octets) i ≡ rank_octet octets i
  rank = rank_at_lem octets i inside

  -- the test of the definition decides, and leaves its marks
  decides : (x : Bool) (l : List ℕ)
      → x ≡ (rank_fits (table_from octets) i && is_fresh marks (side_at i) (rank_at (table_from octets) i))
      → l ≡ cond (rank_fits (table_from octets) i) (with_mark marks (side_at i) (rank_at (table_from octets) i)) marks
      → (x ≡ true → Entering (table_from octets) (i + 1) l) × (x ≡ false → is_ranked (table_from octets) ≡ false)
  decides x l e m =
      let t = table_from octets in
      let size = size_from octets in (
        (λ y.
            let more = entered t size i marks given.1 (sym e ∙ y) in
            (below_more (rank_sound t) i given.0 more.0, subst (Marked t (i + 1)) (sym m) more.1)),
        λ y. below_not (rank_sound t) place_count i inside (left_out t size i marks given.1 (sym e ∙ y)),
      )

  -- a free place
  vacant : state_octet octets i ≡ 0
      → (eqb (rank_octet octets i) 0 ≡ true → Entering (table_from octets) (i + 1) marks) × (eqb (rank_octet octets i) 0 ≡ false → is_ranked (table_from octets) ≡ false)
  vacant h =
      let yes = free ∙ eq-eqb _ 0 h in
      decides _ _
      (rw (yes, rank) (zero_fresh (eqb (rank_octet octets i) 0) _))
      (rw (yes, rank) (zero_unmarked (eqb (rank_octet octets i) 0) marks _))

  -- an occupied one, whose rank the callee enters
  busy : (calls : Calls) → calls ≡ calls_in octets → (state_octet octets i ≡ 0 → ⊥) → (a : Side) → a ≡ side_at i → (x : Bool) (l : List ℕ)
      → x ≡ (rank_in false (of_side a calls.positions calls.lines) (rank_octet octets i) && is_fresh marks a (rank_octet octets i))
      → l ≡ cond (rank_in false (of_side a calls.positions calls.lines) (rank_octet octets i)) (with_mark marks a (rank_octet octets i)) marks
      → (x ≡ true → Entering (table_from octets) (i + 1) l) × (x ≡ false → is_ranked (table_from octets) ≡ false)
  busy calls counted held a side x l fresh marked =
      let taken = free ∙ ne_eqb _ 0 held in
      let all = ap₂ (λ (b : Side) (y : Calls). of_side b y.positions y.lines) side counted ∙ side_calls (table_from octets) (side_at i) in
      decides x l (rw (taken, rank, ← all, ← side) fresh) (rw (taken, rank, ← all, ← side) marked)

pub returns-then-image-at-eq0-clause-entered : goal.returns-then-image-at-eq0-clause-entered
returns-then-image-at-eq0-clause-entered c e =
    (c.requires.1.0, (vacant c.args.image.now c.args.i c.requires.0 c.args.self.now.marked c.requires.1.1 c.if-image-at-eq0.true).0 e)

pub returns-then-image-at-eq0-clause-unfit : goal.returns-then-image-at-eq0-clause-unfit
returns-then-image-at-eq0-clause-unfit c = (vacant c.args.image.now c.args.i c.requires.0 c.args.self.now.marked c.requires.1.1 c.if-image-at-eq0.true).1

pub returns-clause-entered : goal.returns-clause-entered
returns-clause-entered c e =
    let m = c.args.self.now in
    let after = c.enter_rank.ensures.1 in (
      ap (λ (x : Marks). x.calls) after ∙ c.requires.1.0,
      (busy c.args.image.now c.args.i c.requires.0 m.marked c.requires.1.1 m.calls c.requires.1.0 c.if-image-at-eq0.false
          c.at.result c.at.ensures c.enter_rank.result c.enter_rank.new.self.marked c.enter_rank.ensures.0 (ap (λ (x : Marks). x.marked) after)).0
          e,
    )

pub returns-clause-unfit : goal.returns-clause-unfit
returns-clause-unfit c =
    let m = c.args.self.now in
    (busy c.args.image.now c.args.i c.requires.0 m.marked c.requires.1.1 m.calls c.requires.1.0 c.if-image-at-eq0.false
    c.at.result c.at.ensures c.enter_rank.result c.enter_rank.new.self.marked c.enter_rank.ensures.0 (ap (λ (x : Marks). x.marked) c.enter_rank.ensures.1)).1
