-- Along a run: what is folded over the accepted events can be folded input by input (`fold_step`), and so are the stays of demand 3 (`stays_by`). The
-- table keeps the invariant of that crate and the lamps their length (`Good`). An accepted event makes a stay anew or makes one longer (`Grown`), and so
-- a number of each input that is the growth of a number of the stays adds up to it (`adds_up`).
use Rattle.std.proofs.Common.{◌≡◌, ℕ, ◌+◌, Bool, true, false, cond, ◌||◌, eqb, List, [], ◌∷◌, ◌++◌, Option, None, Some, length, get_or, sym, refl, ap, ◌∙◌, subst, zero-add, arith, length-set}
use lib.ListN.{length-replicate}
use Rattle.table.specs.declared.State.{State}
use Rattle.table.specs.declared.State.TheVariants.{HandedOver}
use Rattle.table.specs.declared.Record.{Record}
use Rattle.table.specs.declared.Table.{Table}
use Rattle.table.specs.Places.{state_number, is_free, free_record, record_at, place_count}
use Rattle.table.specs.Search.{holds}
use Rattle.table.proofs.Calls.{holds_same, holds_occupied}
use Rattle.table.proofs.States.{same_state_lem}
use Rattle.events.specs.declared.Event.{Event}
use Rattle.events.specs.declared.Answer.{Answer}
use Rattle.step.specs.Step.{step_of}
use Rattle.step.specs.Promises.{Full, index_at}
use Rattle.stays.specs.Stays.{Mark, starts, goes_on, ends, Stays, none, add, keep, events_at, stays, run}
use Rattle.stays.specs.Stays as Fold
use Rattle.stays.specs.ParkTable.{machine}
use Rattle.stays.specs.Demand.{Act, state_after}
use Rattle.stays.proofs.Part.{Part, begun, onward}
use Rattle.stays.proofs.Build.{Inv, Stands}
use Rattle.stays.proofs.Keep.{inv_taken, inv_none, occupied, stand_at}
use Rattle.stays.proofs.Turned.{Turned, at_start, at_going, at_end, stays_spent, inside}
use Rattle.stays.proofs.TableLaws.{laws, read}
use Rattle.stays.proofs.EachStay.{answer_of}
use Rattle.stays.proofs.Requester.{part_agrees}
use Rattle.stays.proofs.Weights.{weight, ended_weight, weight_starts, weight_goes_on, weight_ends, ended_snoc}
use Rattle.lamps.specs.declared.Endpoint.{Endpoint}
use Rattle.lamps.specs.declared.members.Indication.{Indication}
use Rattle.lamps.specs.declared.members.Lamps.{Lamps}
use Rattle.lamps.specs.declared.reply.Reply.{Reply}
use Rattle.lamps.specs.declared.reply.Settlement.{Settlement}
use Rattle.lamps.specs.Members.{dark_lamp}
use Rattle.lamps.specs.Notice.{lit_by}
use Rattle.lamps.specs.Served.{lit_of, start}
use Rattle.lamps.specs.Runs.{Input, event, reply, endpoint_after, final, sum, events_in}
use Rattle.lamps.specs.Promises.{call_in, was_handed_over}
use Rattle.lamps.proofs.Accepted.{Came, refused, done, came, sends}
use Rattle.lamps.proofs.Settling.{Settling, refuses, settles, settling}

-- ---- a fold over the accepted events, input by input

abbrev pub act_of : Table → Event → Act
act_of t e = Fold.done machine t e

-- an accepted event is folded in; a refused one and a reply are not
abbrev pub fold_by : {A : Type 0} → (A → Act → A) → A → Endpoint → Input → A
fold_by f a s (event e) = cond (machine.accepted (step_of s.table e).answer) (f a (act_of s.table e)) a
fold_by f a s (reply r) = a

-- the fold over a run, with its first input taken
pub fold_step : {A : Type 0} (f : A → Act → A) (fold : A → List Act → A) → ((a : A) (x : Act) (xs : List Act) → fold a (x ∷ xs) ≡ fold (f a x) xs)
    → (a : A) (s : Endpoint) (x : Input) (xs : List Input)
    → fold a (run machine s.table (events_in (x ∷ xs))) ≡ fold (fold_by f a s x) (run machine (endpoint_after s x).table (events_in xs))
fold_step f fold go a s (event e) xs = by (machine.accepted (step_of s.table e).answer) (run machine (step_of s.table e).table (events_in xs))
  where
    by : (b : Bool) (ys : List Act) → fold a (keep b (act_of s.table e) ys) ≡ fold (cond b (f a (act_of s.table e)) a) ys
    by true ys = go a (act_of s.table e) ys
    by false ys = refl
fold_step f fold go a s (reply r) xs = refl

-- the stays
abbrev added : Stays Act → Act → Stays Act
added st x = add (machine.mark x) (machine.place x) x st

abbrev pub stays_by : Stays Act → Endpoint → Input → Stays Act
stays_by = fold_by added

-- ---- what holds along a run

pub record Good (s : Endpoint) (st : Stays Act) : Type 0 where
  pub inv : Inv machine laws s.table st
  pub wide : length s.lamps.places ≡ place_count

pub full : {s : Endpoint} {st : Stays Act} → Good s st → Full s.table
full g = g.inv.shows.1.full

lit_wide : (l : Lamps) (i : ℕ) (a : Answer) (asks : Option Indication) → length (lit_by l i a asks).lamps.places ≡ length l.places
lit_wide l i a None = refl
lit_wide l i a (Some n) = length-set l.places i _

settled_wide : {l : Lamps} {r : Reply} {z : Settlement} → Settling l r z → length z.lamps.places ≡ length l.places
settled_wide (refuses w) = refl
settled_wide {l} (settles {i} x) = length-set l.places i _

pub good_after : {s : Endpoint} {st : Stays Act} → Good s st → (x : Input) → Good (endpoint_after s x) (stays_by st s x)
good_after {s} {st} g (event e) = record { inv = inv (eqb (step_of s.table e).answer.number 0) refl; wide = wide (came s.lamps s.table e (full g)) ∙ g.wide }
  where
    inv : (b : Bool) → eqb (step_of s.table e).answer.number 0 ≡ b
        → Inv machine laws (step_of s.table e).table (cond b (added st (act_of s.table e)) st)
    inv true q = inv_taken machine laws g.inv e q
    inv false q = rw (laws.refused g.inv.shows e q) g.inv

    wide : Came s.lamps s.table e (step_of s.table e) → length (lit_of s.lamps s.table e (step_of s.table e).answer).lamps.places ≡ length s.lamps.places
    wide (refused q same lit) = rw lit
    wide (done x q from lit) = rw lit (lit_wide s.lamps (index_at (step_of s.table e)) (step_of s.table e).answer (sends x.move))
good_after {s} g (reply r) = record { inv = g.inv; wide = settled_wide (settling s.lamps g.wide r) ∙ g.wide }

pub good_final : (s : Endpoint) (st : Stays Act) → Good s st → (xs : List Input) → Good (final s xs) (stays machine st (run machine s.table (events_in xs)))
good_final s st g [] = g
good_final s st g (x ∷ xs) =
    subst (Good (final s (x ∷ xs))) (sym (fold_step added (stays machine) (λ st y ys. refl) st s x xs))
    (good_final (endpoint_after s x) (stays_by st s x) (good_after g x) xs)

pub good_start : Good start none
good_start = record { inv = inv_none machine laws; wide = length-replicate place_count dark_lamp }

-- ---- a stay begins, or has one event more

-- a stay so far: the state that it left its place in, its call, and whether it was handed over
pub record OldStay (old : List Act) (before : State) (call : List ℕ) : Type 0 where
  pub state : state_after 0 old ≡ state_number before
  pub call_is : call_in old ≡ call
  pub handed : was_handed_over old ≡ eqb (state_number before) 5

-- x is an accepted event, at a place that was in this state before it
pub data Grown (st st' : Stays Act) (x : Act) (before : State) : Type 0 where
  anew : is_free before ≡ true → eqb x.answer.state 0 ≡ false → ((g : List Act → ℕ) → weight g st' ≡ weight g st + g (x ∷ [])) → st'.ended ≡ st.ended → Grown st st' x before
  longer : (old : List Act) → is_free before ≡ false → OldStay old before x.answer.call
      → ((g : List Act → ℕ) → weight g st' + g old ≡ weight g st + g (old ++ (x ∷ [])))
      → ((g : List Act → ℕ) → ended_weight g st'.ended ≡ ended_weight g st.ended + cond (eqb x.answer.state 0) (g (old ++ (x ∷ []))) 0) → Grown st st' x before

-- the call of a stay is that of the record to which its events have led
part_call : {p : ℕ} {c : List ℕ} {xs : List Act} {r : Record} → Part machine laws p c xs r → call_in xs ≡ c
part_call (begun turn k q) = (answer_of turn).1 ∙ q
part_call {p} {c} (onward {xs} {x} h turn k q) = by xs (part_call h)
  where
    by : (ys : List Act) → call_in ys ≡ c → call_in (ys ++ (x ∷ [])) ≡ c
    by [] e = (answer_of turn).1 ∙ q
    by (y ∷ ys) e = e

pub handed_snoc : (old : List Act) (x : Act) → was_handed_over (old ++ (x ∷ [])) ≡ was_handed_over old || eqb x.answer.state 5
handed_snoc [] x = or_false (eqb x.answer.state 5)
  where
    or_false : (b : Bool) → b || false ≡ b
    or_false true = refl
    or_false false = refl
handed_snoc (y ∷ old) x = by (eqb y.answer.state 5) (handed_snoc old x)
  where
    by : (b : Bool) → was_handed_over (old ++ (x ∷ [])) ≡ was_handed_over old || eqb x.answer.state 5
        → b || was_handed_over (old ++ (x ∷ [])) ≡ (b || was_handed_over old) || eqb x.answer.state 5
    by true rec = refl
    by false rec = rec

-- .. and it was handed over where that record is in state 5, from which nothing goes on
part_handed : {p : ℕ} {c : List ℕ} {xs : List Act} {r : Record} → Part machine laws p c xs r → was_handed_over xs ≡ eqb (state_number r.state) 5
part_handed (begun {x} turn k q) = handed_snoc [] x ∙ ap (λ (n : ℕ). eqb n 5) (answer_of turn).2
part_handed {p} {c} (onward {xs} {x} {r} {s} h turn k q) =
    handed_snoc xs x ∙ ap (λ (n : ℕ). was_handed_over xs || eqb n 5) (answer_of turn).2 ∙ by (was_handed_over xs) (part_handed h)
  where
    by : (b : Bool) → b ≡ eqb (state_number r.state) 5 → b || eqb (state_number s.state) 5 ≡ eqb (state_number s.state) 5
    by false e = refl
    by true e = let still : s.state ≡ HandedOver = (stays_spent turn k (same_state_lem r.state HandedOver (sym e))).1 in rw still

module _ {s : Endpoint} {st : Stays Act} (g : Good s st) (e : Event) (k : eqb (step_of s.table e).answer.number 0 ≡ true) where
  abbrev act : Act
  act = act_of s.table e

  abbrev at : ℕ
  at = machine.place act

  -- the turn at its place, as demand 3 has it
  taken : (r : Record) × Turned at (get_or g.inv.cores at free_record) act.event act.answer r
  taken = ((laws.taken g.inv.shows e k).0, (laws.taken g.inv.shows e k).1)

  turn : Turned at (get_or g.inv.cores at free_record) act.event act.answer taken.0
  turn = taken.1

  same_record : get_or g.inv.cores at free_record ≡ record_at s.table at
  same_record =
      let here : s.table.places ≡ g.inv.cores = g.inv.shows.0 in
      sym (ap (λ (l : List Record). get_or l at free_record) here) ∙ read s.table.places at (omega (arith, inside turn, (full g).0))

  module _ (held : holds act.event.call (get_or g.inv.cores at free_record) ≡ true) where
    stands : Stands machine laws g.inv.cores at (events_at at st.running)
    stands = stand_at machine laws g.inv.cores at st.running g.inv.opens (occupied machine laws g.inv turn act.event.call held)

    busy : is_free (record_at s.table at).state ≡ false
    busy = rw same_record at (holds_occupied act.event.call (get_or g.inv.cores at free_record) held)

    so_far : OldStay (events_at at st.running) (record_at s.table at).state act.answer.call
    so_far =
        let r : Record = get_or g.inv.cores at free_record in
        record {
          state = (part_agrees stands.part).state ∙ ap (λ (r : Record). state_number r.state) same_record;
          call_is = part_call stands.part ∙ sym (holds_same stands.whose r stands.holds) ∙ holds_same act.event.call r held;
          handed = part_handed stands.part ∙ ap (λ (r : Record). eqb (state_number r.state) 5) same_record;
        }

  -- the state of the answer is 0 exactly where the record after it is free
  freed : eqb act.answer.state 0 ≡ is_free taken.0.state
  freed = ap (λ (n : ℕ). eqb n 0) (answer_of turn).2

  grown_at : (m : Mark) → machine.mark act ≡ m → Grown st (add m at act st) act (record_at s.table at).state
  grown_at starts q =
      let a = at_start turn q in
      anew (ap (λ (r : Record). is_free r.state) (sym same_record ∙ a.0)) (freed ∙ holds_occupied act.event.call taken.0 a.1) (λ w. weight_starts w at act st) refl
  grown_at goes_on q =
      let a = at_going turn q in
      let in_use = occupied machine laws g.inv turn act.event.call a.0 in
      let held_on : eqb act.answer.state 0 ≡ false = freed ∙ holds_occupied act.event.call taken.0 a.1 in
      longer (events_at at st.running) (busy a.0) (so_far a.0) (λ w. weight_goes_on w at act st g.inv.distinct in_use)
      (λ w. rw held_on (omega arith))
  grown_at ends q =
      let a = at_end turn q in
      let in_use = occupied machine laws g.inv turn act.event.call a.0 in
      let over : eqb act.answer.state 0 ≡ true = freed ∙ ap (λ (r : Record). is_free r.state) a.1 in
      longer (events_at at st.running) (busy a.0) (so_far a.0) (λ w. weight_ends w at act st g.inv.distinct in_use)
      (λ w. rw over (ended_snoc w st.ended (events_at at st.running ++ (act ∷ []))))

  -- THE GROWTH, at the place of the step
  pub grown : Grown st (stays_by st s (event e)) act (record_at s.table (index_at (step_of s.table e))).state
  grown = rw k (grown_at (machine.mark act) refl)

-- ---- sums

pub adds_up : (w : Endpoint → Input → ℕ) (total : Stays Act → ℕ)
    → ((s : Endpoint) (st : Stays Act) → Good s st → (x : Input) → w s x + total st ≡ total (stays_by st s x))
    → (s : Endpoint) (st : Stays Act) → Good s st → (xs : List Input) → sum w s xs + total st ≡ total (stays machine st (run machine s.table (events_in xs)))
adds_up w total once s st g [] = zero-add (total st)
adds_up w total once s st g (x ∷ xs) =
    let rest = adds_up w total once (endpoint_after s x) (stays_by st s x) (good_after g x) xs in
    let now = once s st g x in
    let moved : sum w s (x ∷ xs) + total st ≡ sum w (endpoint_after s x) xs + total (stays_by st s x) = omega (arith, now) in
    moved ∙ rest ∙ ap total (sym (fold_step added (stays machine) (λ st y ys. refl) st s x xs))
