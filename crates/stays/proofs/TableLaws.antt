-- The table keeps the laws of stays (`laws`). A table shows its records, and by its ranks the order of the starts, where it is full and sound and
-- the ranks are those of the order (`Ordered`); soundness is kept by every step (`keeps_sound`), so refusal 25 never arises. The laws of a turn are
-- those of `Turned`; an accepted event and a turn that is done again are those of `OneTurn`.
use mathlib.Core.Path.{◌≡◌, refl, sym, ap, ◌∙◌, subst}
use mathlib.Core.Logic.{◌≢◌, ⊎_elim}
use mathlib.Core.Bool.{true, false, false≢true}
use mathlib.Core.List.{List, [], ◌∷◌}
use Prim.Native.Nat.{ℕ, zero, suc, ◌<◌}
use native.Mathlib.Nat.{not-suc-le-zero, le_of_suc-le-suc}
use native.Mathlib.Omega.{arith}
use lib.Dec.{eqb}
use lib.ListN.{length, get_or, set, get_or-replicate, get_or-eq_default}
use lib.Seq.{ext_get_or}
use borrow.Author.Tests.{eqb-true, eq-eqb}
use Rattle.laws.proofs.Bools.{never, not_both, less_or}
use Rattle.table.specs.declared.State.TheVariants.{HandedOver}
use Rattle.table.specs.declared.Record.{Record}
use Rattle.table.specs.declared.Table.{Table}
use Rattle.table.specs.declared.Side.{Side}
use Rattle.table.specs.declared.Side.TheVariants.{Position, Line}
use Rattle.table.specs.Places.{is_free, free_record, empty_table, blank, record_at, place_count, index_of}
use Rattle.table.specs.Ranks.{calls_on, put}
use Rattle.table.specs.Search.{holds}
use Rattle.table.specs.Sound.{is_sound}
use Rattle.table.proofs.Calls.{holds_same, holds_occupied}
use Rattle.table.proofs.Facts.{facts_of_test, empty_sound}
use Rattle.events.specs.declared.Event.{Event}
use Rattle.events.specs.declared.Answer.{Answer}
use Rattle.events.specs.Rule.{rule_of}
use Rattle.step.specs.declared.Step.{Step}
use Rattle.step.specs.Step.{step_of}
use Rattle.step.proofs.Stepped.{stepped}
use Rattle.step.proofs.Promises.{keeps_sound, refusal_keeps, accepted_at_one_place}
use Rattle.stays.specs.Stays.{Mark, starts, goes_on, ends}
use Rattle.stays.specs.ParkTable.{by_answer, mark_by, machine}
use Rattle.stays.proofs.Places.{arrange}
use Rattle.stays.proofs.Laws.{Laws}
use Rattle.stays.proofs.Turned.{Turned, inside, agrees, at_start, at_going, at_end, spends, stays_spent, ends_spent}
use Rattle.stays.proofs.OneTurn.{took, repeats}
use Rattle.stays.proofs.Ordered.{Ordered, ordered_starts, ordered_goes_on, ordered_ends}

-- ---- a table, its records and the order of the starts

abbrev pub Shown : Table → List Record → List ℕ → Type 0
Shown t cs o = (t.places ≡ cs) × Ordered t o

-- inside the table it is the same what a read past its end would give
pub read : (l : List Record) (i : ℕ) → i < length l → get_or l i free_record ≡ get_or l i blank
read [] i h = absurd (not-suc-le-zero h)
read (r ∷ rs) zero h = refl
read (r ∷ rs) (suc i) h = read rs i (le_of_suc-le-suc h)

module _ (t : Table) (o : List ℕ) (O : Ordered t o) where
  abbrev size : length t.places ≡ place_count
  size = O.full.0

  -- a place that holds a call is inside the table
  held : (i : ℕ) (c : List ℕ) → holds c (get_or t.places i free_record) ≡ true → (i < place_count) × (holds c (record_at t i) ≡ true)
  held i c h =
      let in_table : i < place_count =
      ⊎_elim (λ low. low) (λ out. let past : get_or t.places i free_record ≡ free_record = get_or-eq_default t.places free_record (omega (arith, size)) in never (rw past at h)) (less_or i place_count) in
      (in_table, rw (read t.places i (omega (arith, size))) at h)

  pub one_place : (i j : ℕ) (c : List ℕ) → holds c (get_or t.places i free_record) ≡ true → holds c (get_or t.places j free_record) ≡ true → i ≡ j
  one_place i j c h k =
      let a = held i c h in
      let b = held j c k in
      (facts_of_test t O.sound).one_place i j a.0 b.0
      (holds_occupied c (record_at t i) a.1) (holds_occupied c (record_at t j) b.1)
      (holds_same c (record_at t i) a.1 ∙ sym (holds_same c (record_at t j) b.1))

  -- a turn, by its mark, keeps the order and the ranks
  ordered_after : (p : ℕ) (r : Record) (e : Event) (a : Answer) → Turned p (record_at t p) e a r → is_sound (put t p r) ≡ true
      → (k : Mark) → mark_by (rule_of e.kind) a.state ≡ k → Ordered (put t p r) (arrange k p o)
  ordered_after p r e a turned still starts q =
      let g = at_start turned q in
      ordered_starts t o O p (inside turned) r still (rw g.0) (holds_occupied e.call r g.1)
  ordered_after p r e a turned still goes_on q =
      let g = at_going turned q in
      ordered_goes_on t o O p (inside turned) r still (holds_occupied e.call (record_at t p) g.0) (holds_occupied e.call r g.1)
  ordered_after p r e a turned still ends q =
      let g = at_end turned q in
      ordered_ends t o O p (inside turned) r still (holds_occupied e.call (record_at t p) g.0) (rw g.1)

  -- ---- a step

  pub kept : (e : Event) → eqb (step_of t e).answer.number 0 ≡ false → (step_of t e).table ≡ t
  kept e h = refusal_keeps t e O.full (λ q. not_both (eq-eqb (step_of t e).answer.number 0 q) h)

  -- the step at a place: its turn, and what the table after it shows
  abbrev pub TakenAt : List Record → Step → Event → ℕ → Type 0
  TakenAt cs s e i = (r : Record) × Turned i (get_or cs i free_record) (by_answer e s.answer) s.answer r
      × Shown s.table (set cs i r) (arrange (mark_by (rule_of e.kind) s.answer.state) i o)

  pub taken_of : (e : Event) → eqb (step_of t e).answer.number 0 ≡ true → TakenAt t.places (step_of t e) e (index_of (step_of t e).answer.place.0)
  taken_of e g =
      let s : Step = step_of t e in
      let number : s.answer.number ≡ 0 = eqb-true s.answer.number 0 g in
      let x = took t size e s (stepped t size e) (accepted_at_one_place t e O.full number) in
      let same : get_or t.places x.at free_record ≡ record_at t x.at = read t.places x.at (omega (arith, inside x.turned, size)) in
      let turned : Turned x.at (get_or t.places x.at free_record) (by_answer e s.answer) s.answer x.after = rw same x.turned in
      let still : is_sound (put t x.at x.after) ≡ true = subst (λ u. is_sound u ≡ true) x.table (keeps_sound t e O.full O.sound) in
      let after = ordered_after x.at x.after (by_answer e s.answer) s.answer x.turned still (mark_by (rule_of e.kind) s.answer.state) refl in
      subst (TakenAt t.places s e) (sym x.place)
      (x.after, turned, (ap (λ (u : Table). u.places) x.table, subst (λ u. Ordered u (arrange (mark_by (rule_of e.kind) s.answer.state) x.at o)) (sym x.table) after))

  pub again_of : (p : ℕ) (r : Record) (e : Event) (a : Answer) → Turned p (get_or t.places p free_record) e a r
      → ((j : ℕ) → j ≢ p → ¬ (holds e.call (get_or t.places j free_record) ≡ true))
      → ((step_of t e).answer ≡ a) × Shown (step_of t e).table (set t.places p r) (arrange (mark_by (rule_of e.kind) a.state) p o)
  again_of p r e a turned other =
      let here : Turned p (record_at t p) e a r = rw (read t.places p (omega (arith, inside turned, size))) at turned in
      let done = repeats t size O.sound e p (λ j h n k. other j n (rw (read t.places j (omega (arith, size))) k)) here in
      let table : (step_of t e).table ≡ put t p r = ap (λ (s : Step). s.table) done in
      let still : is_sound (put t p r) ≡ true = subst (λ u. is_sound u ≡ true) table (keeps_sound t e O.full O.sound) in
      let after = ordered_after p r e a here still (mark_by (rule_of e.kind) a.state) refl in
      (ap (λ (s : Step). s.answer) done, (ap (λ (u : Table). u.places) table, subst (λ u. Ordered u (arrange (mark_by (rule_of e.kind) a.state) p o)) (sym table) after))

-- two tables with the same records and the same order of starts are the same
pub one_table : (t u : Table) (o : List ℕ) → t.places ≡ u.places → Ordered t o → Ordered u o → t ≡ u
one_table t u o places T U =
    let ranks : t.ranks ≡ u.ranks =
    ext_get_or 0 t.ranks u.ranks (T.full.1 ∙ sym U.full.1) (λ i h. T.ranks i (omega (arith, h, T.full.1)) ∙ sym (U.ranks i (omega (arith, h, T.full.1)))) in
    λ i. record { places = places i; ranks = ranks i }

-- the empty table
empty_record : (j : ℕ) → is_free (record_at empty_table j).state ≡ true
empty_record j =
    ⊎_elim (λ h. rw (get_or-replicate place_count j free_record blank h))
    (λ h. let past : record_at empty_table j ≡ blank = get_or-eq_default empty_table.places blank h in rw past) (less_or j place_count)

pub ordered_empty : Ordered empty_table []
ordered_empty = record {
  full = (refl, refl);
  sound = empty_sound;
  distinct = tt;
  used = λ j i. absurd i;
  all = λ j h. absurd (not_both (empty_record j) h);
  calls = λ a. no_calls a;
  ranks = λ j h. get_or-replicate place_count j 0 0 h;
}
  where
    no_calls : (a : Side) → calls_on empty_table a ≡ 0
    no_calls Position = refl
    no_calls Line = refl

-- ---- the laws

abbrev pub laws : Laws machine
laws = record {
  Core = Record;
  Call = List ℕ;
  size = place_count;
  free = free_record;
  call = λ x. x.event.call;
  Holds = λ r c. holds c r ≡ true;
  Turn = λ p r x s. Turned p r x.event x.answer s;
  Spent = λ r. r.state ≡ HandedOver;
  free_holds = λ c h. false≢true h;
  one_call = λ {r} {c} {d} h k. sym (holds_same c r h) ∙ holds_same d r k;
  inside = λ h. inside h;
  agrees = λ h. agrees h;
  at_start = λ h m. at_start h m;
  at_going = λ h m. at_going h m;
  at_end = λ h m. at_end h m;
  spends = λ h m f. spends h m f;
  stays_spent = λ h m q. stays_spent h m q;
  ends_spent = λ h m q. ends_spent h m q;
  Shows = Shown;
  shows_empty = (refl, ordered_empty);
  shows_size = λ {t} {cs} {o} h. sym (ap length h.0) ∙ h.1.full.0;
  shows_one = λ {t} {cs} {o} h.
      subst (λ l. (i j : ℕ) (c : List ℕ) → holds c (get_or l i free_record) ≡ true → holds c (get_or l j free_record) ≡ true → i ≡ j) h.0 (one_place t o h.1);
  shows_same = λ {t} {u} {cs} {o} h k. one_table t u o (h.0 ∙ sym k.0) h.1 k.1;
  refused = λ {t} {cs} {o} h e. kept t o h.1 e;
  taken = λ {t} {cs} {o} h e g. subst (λ l. TakenAt t o h.1 l (step_of t e) e (index_of (step_of t e).answer.place.0)) h.0 (taken_of t o h.1 e g);
  again = λ {t} {cs} {o} h {p} {s} {x}.
      subst (λ l. Turned p (get_or l p free_record) x.event x.answer s → ((j : ℕ) → j ≢ p → ¬ (holds x.event.call (get_or l j free_record) ≡ true))
      → ((step_of t x.event).answer ≡ x.answer) × Shown (step_of t x.event).table (set l p s) (arrange (mark_by (rule_of x.event.kind) x.answer.state) p o)) h.0
      (again_of t o h.1 p s x.event x.answer);
}
