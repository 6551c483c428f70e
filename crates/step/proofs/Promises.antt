-- The promises of `specs/Promises.antt`, each by the four cases of `Stepped`.
use mathlib.Core.Path.{◌≡◌, refl, sym, ap, ap₂, subst, ◌∙◌}
use mathlib.Core.Bool.{Bool, true, false, cond, not, ◌&&◌, true≢false}
use mathlib.Core.List.{List}
use mathlib.Core.Logic.{◌⊎◌, inl, inr, ⊎_elim}
use Prim.Native.Nat.{ℕ, ◌<◌, ◌≤◌, ◌%◌}
use native.Mathlib.Omega.{arith}
use lib.Dec.{eqb}
use lib.ListN.{length}
use borrow.Author.Tests.{ne_eqb}
use Rattle.std.specs.Prelude.{Option, Some, None, Result, Ok, Err}
use Rattle.laws.proofs.Bools.{impossible, never, not_both}
use Rattle.table.specs.declared.State.TheVariants.{Free, RemoteRequested}
use Rattle.table.specs.declared.Side.{Side}
use Rattle.table.specs.declared.Side.TheVariants.{Position, Line}
use Rattle.table.specs.declared.Record.{Record}
use Rattle.table.specs.declared.Table.{Table}
use Rattle.table.specs.Places.{is_free, side_at, place_at, index_of, no_invoke, free_record, record_at, rank_at, position_count, place_count}
use Rattle.table.specs.Search.{holds, find_call}
use Rattle.table.specs.Sound.{is_sound, fits_side, Sound}
use Rattle.table.proofs.Calls.{holds_same, holds_occupied, occupied_holds}
use Rattle.table.proofs.Searches.{found_passes, none_passes}
use Rattle.table.proofs.States.{free_state}
use Rattle.table.proofs.Sides.{side_inside, place_number, place_index}
use Rattle.table.proofs.Facts.{facts_of_test, test_of_facts, free_fits}
use Rattle.table.proofs.Keep.{put_size, put_here, put_other, put_sound, rank_new, rank_kept, rank_freed, ranks_stay, ranks_drop}
use Rattle.events.specs.declared.Event.{Event}
use Rattle.step.specs.declared.Step.{Step}
use Rattle.events.specs.declared.rule.Rule.{Rule}
use Rattle.events.specs.declared.rule.Rule.TheVariants.{Start, On}
use Rattle.events.specs.declared.rule.Signal.{Signal}
use Rattle.events.specs.declared.rule.Signal.TheVariants.{LocalPickup, PickRequest, PickupResult, PickupError, ErrorInRelease, Release, Answered, Expiry}
use Rattle.events.specs.declared.message.Message.{Message}
use Rattle.events.specs.declared.message.Message.TheVariants.{PickResult}
use Rattle.events.specs.declared.refusal.Refusal.{Refusal}
use Rattle.events.specs.declared.refusal.Refusal.TheVariants.{ChoiceOrTimer, CallNotHeld, TableUnsound}
use Rattle.events.specs.declared.turn.Stage.{Stage}
use Rattle.events.specs.declared.turn.Stage.TheVariants.{Waits, Taken}
use Rattle.events.specs.declared.turn.Outcome.{Outcome}
use Rattle.events.specs.declared.turn.Outcome.TheVariants.{Freed, Becomes}
use Rattle.events.specs.declared.sought.Sought.TheVariants.{Held, Waiting}
use Rattle.events.specs.Sought.{is_timer}
use Rattle.events.specs.Rule.{rule_of}
use Rattle.events.specs.Turn.{held_record, stage_of, greeting, is_outstanding, turn_on, turn}
use Rattle.table.specs.Ranks.{calls_on, change_of, put}
use Rattle.step.specs.Aim.{aim, aim_at, aim_named, aim_for}
use Rattle.events.specs.Act.{stay_call}
use Rattle.events.proofs.Released.{error_in_release}
use Rattle.events.proofs.Refusals.{refused_not_0}
use Rattle.step.specs.Step.{refused_by, carried_out, step_of}
use Rattle.step.specs.Promises.{Full, IsAccepted, KeepsSound, RefusalKeeps, Move, starts, rank_of, index_at, AtOnePlace, AcceptedAtOnePlace, one_if, T3RunsThrough, names_call, by_name, MatchedByCall, NotHeldIs5, StartAnswersItsCall, only_named, IgnoresOtherFields, ReleaseFrees, RemoteResultHolds}
use Rattle.events.proofs.RuleLaws.{by_kind}
use Rattle.step.proofs.Aims.{aim_on, aim_lost}
use Rattle.step.proofs.Turns.{stage_fits, waiting_offered, stage_occupied, stage_connection, move_end, move_on, left_held, result_in_4}
use Rattle.step.proofs.Timers.{t3_started}
use Rattle.step.proofs.Stepped.{Reached, Stepped, kept, begun, ended, went_on, refused_stays, stepped, done, settled}

-- kind 1 is the only one that parks
abbrev parks : Option Rule → Bool
parks (Some (Start Position)) = true
parks (Some (Start Line)) = false
parks (Some (On s)) = false
parks None = false

parks_kind : (kind : ℕ) → parks (rule_of kind) ≡ eqb kind 1
parks_kind =
    by_kind (λ kind k. parks k ≡ eqb kind 1) refl refl
    (λ kind s h. sym (ne_eqb kind 1 (λ e. absurd (omega (arith, e)))))
    (λ kind one two. sym (ne_eqb kind 1 one))

module _ (t : Table) (all : Full t) (e : Event) where
  abbrev size : length t.places ≡ place_count
  size = all.0

  -- ---- the table after

  full : (s : Step) → Stepped t size e s → length s.table.places ≡ place_count
  full s (kept w) = size
  full s (begun d i sound rule room) = put_size t size i room.inside _
  full s (ended k i first second at turn) = put_size t size i at.inside _
  full s (went_on k i g n m at turn) = put_size t size i at.inside _

  -- a record of a stage fits, is tidy, and keeps the table sound if nobody else holds its call
  stage_sound : Sound t → (i : ℕ) → i < place_count → (g : Stage) (call : List ℕ) (n : _)
      → ((j : ℕ) → j < place_count → (j ≡ i → ⊥) → is_free (record_at t j).state ≡ false → call ≡ (record_at t j).call → ⊥)
      → Sound (put t i (held_record (side_at i) g call n))
  stage_sound s i inside g call n alone =
      put_sound t size i inside (held_record (side_at i) g call n) all.1 s (stage_fits (side_at i) g)
      (λ f. absurd (not_both f (stage_occupied (side_at i) g)))
      (stage_connection (side_at i) g)
      (λ j hj ne f fj c. alone j hj ne fj c)

  sound_after : (s : Step) → Stepped t size e s → Sound t → Sound s.table
  sound_after s (kept w) S = S
  sound_after s (begun d i sound rule room) S =
      stage_sound S i room.inside Waits e.call no_invoke (λ j hj ne fj c.
      not_both (occupied_holds e.call (record_at t j) fj (sym c)) (none_passes t size (λ k. holds e.call) room.absent j hj))
  sound_after s (ended k i first second at turn) S =
      put_sound t size i at.inside free_record all.1 S (free_fits (side_at i)) (λ f. refl) (λ f. refl) (λ j hj ne f fj c. true≢false f)
  sound_after s (went_on k i g n m at turn) S =
      stage_sound S i at.inside g (record_at t i).call n (λ j hj ne fj c.
      ne (sym (S.one_place i j at.inside hj at.occupied fj c)))

  table_kept : (s : Step) → Stepped t size e s → (s.answer.number ≡ 0 → ⊥) → s.table ≡ t
  table_kept s (kept w) h = refl
  table_kept s (begun d i sound rule room) h = absurd (h refl)
  table_kept s (ended k i first second at turn) h = absurd (h refl)
  table_kept s (went_on k i g n m at turn) h = absurd (h refl)

  -- ---- an accepted event

  -- a new record at an index, with the call and the move that are said of it
  one_place : (i : ℕ) (new : Record) (call : List ℕ) (first second : Option Message) → i < place_count → Move (record_at t i).state new.state
      → (is_free (record_at t i).state ≡ false → (record_at t i).call ≡ call) → (is_free new.state ≡ false → new.call ≡ call)
      → AtOnePlace t (done t i new call first second)
  one_place i new call first second inside move before after =
      let here : record_at (put t i new) i ≡ new = put_here t size i inside new in
      let at : index_of (place_at i).0 ≡ i = place_index i inside in
      record {
        inside = rw at inside;
        place = rw at;
        others = rw at (put_other t size i inside new);
        ranks_stay = rw at (λ held. ranks_stay t size i inside new all.1 (rw here at held));
        ranks_drop = rw at (λ freed. ranks_drop t size i inside new all.1 (left_held (record_at t i).state new.state move (rw here at freed)) (rw here at freed));
        rank = rw (at, here) (own_rank (is_free (record_at t i).state) refl (is_free new.state) refl);
        state = rw (at, here);
        move = rw (at, here) move;
        call_before = rw at before;
        call_after = rw (at, here) after;
        started = rw (at, here);
        stopped = rw (at, here);
      }
    where
      own_rank : (b : Bool) → is_free (record_at t i).state ≡ b → (c : Bool) → is_free new.state ≡ c → rank_at (put t i new) i ≡ rank_of (change_of b c) (calls_on t (side_at i)) (rank_at t i)
      own_rank true p true q = rw (p, q)
      own_rank true p false q = rank_new t size i inside new all.1 q p
      own_rank false p true q = rank_freed t size i inside new all.1 p q
      own_rank false p false q = rank_kept t size i inside new all.1 q p

  at_one_place : (s : Step) → Stepped t size e s → s.answer.number ≡ 0 → AtOnePlace t s
  at_one_place s (kept w) h = absurd (refused_not_0 w h)
  at_one_place s (begun d i sound rule room) h =
      let was : (record_at t i).state ≡ Free = free_state (record_at t i).state room.vacant in
      one_place i (held_record (side_at i) Waits e.call no_invoke) e.call (greeting d) None room.inside
      (rw was (starts (waiting_offered (side_at i)))) (λ f. absurd (not_both room.vacant f)) (λ f. refl)
  at_one_place s (ended k i first second at turn) h =
      one_place i free_record (record_at t i).call first second at.inside (move_end (record_at t i).state at.occupied) (λ f. refl) (λ f. absurd (true≢false f))
  at_one_place s (went_on k i g n m at turn) h =
      one_place i (held_record (side_at i) g (record_at t i).call n) (record_at t i).call m None at.inside
      (move_on k (side_at i) (record_at t i) e g n m at.occupied turn) (λ f. refl) (λ f. refl)

  -- ---- T3

  -- the first places are positions
  low_side : (i : ℕ) → i < place_count → (place_at i).0 ≤ position_count → side_at i ≡ Position
  low_side i inside low = side_inside Position i (omega arith) (omega (arith, place_number i inside))

  -- what is said of the T3 bits, of a new record at a position
  t3_bits : (i : ℕ) (new : Record) (call : List ℕ) (first second : Option Message) → is_sound t ≡ true → i < place_count → (place_at i).0 ≤ position_count → fits_side (side_at i) new.state ≡ true
      → ((done t i new call first second).answer.started % 2 ≡ one_if (is_free (record_at t i).state && not (is_free new.state)))
      × ((done t i new call first second).answer.stopped % 2 ≡ one_if (is_free new.state && not (is_free (record_at t i).state)))
  t3_bits i new call first second sound inside low fit =
      let position = low_side i inside low in
      let was : fits_side Position (record_at t i).state ≡ true = rw position at ((facts_of_test t sound).fits i inside) in
      let is : fits_side Position new.state ≡ true = rw position at fit in
      rw position (t3_started (record_at t i).state new.state was is, t3_started new.state (record_at t i).state is was)

  abbrev T3 : Step → Type 0
  T3 s = (s.answer.started % 2 ≡ one_if (eqb e.kind 1)) × (s.answer.stopped % 2 ≡ one_if (eqb s.answer.state 0))

  t3 : (s : Step) → Stepped t size e s → s.answer.number ≡ 0 → s.answer.place.0 ≤ position_count → T3 s
  t3 s (kept w) h low = absurd (refused_not_0 w h)
  t3 s (begun d i sound rule room) h low =
      let new : Record = held_record (side_at i) Waits e.call no_invoke in
      let b = t3_bits i new e.call (greeting d) None sound room.inside low (stage_fits (side_at i) Waits) in
      let busy = stage_occupied (side_at i) Waits in
      let side : d ≡ Position = sym room.side ∙ low_side i room.inside low in
      let kind : eqb e.kind 1 ≡ true = sym (parks_kind e.kind) ∙ rw (rule, side) in
      (b.0 ∙ rw (room.vacant, busy, kind), b.1 ∙ rw busy)
  t3 s (ended k i first second at turn) h low =
      let b = t3_bits i free_record (record_at t i).call first second at.sound at.inside low (free_fits (side_at i)) in
      let kind : eqb e.kind 1 ≡ false = sym (parks_kind e.kind) ∙ rw at.rule in
      (b.0 ∙ rw (at.occupied, kind), b.1 ∙ rw at.occupied)
  t3 s (went_on k i g n m at turn) h low =
      let new : Record = held_record (side_at i) g (record_at t i).call n in
      let b = t3_bits i new (record_at t i).call m None at.sound at.inside low (stage_fits (side_at i) g) in
      let busy = stage_occupied (side_at i) g in
      let kind : eqb e.kind 1 ≡ false = sym (parks_kind e.kind) ∙ rw at.rule in
      (b.0 ∙ rw (at.occupied, kind), b.1 ∙ rw busy)

  -- ---- matching

  -- the signal reached the place that holds the event's call
  reached_call : (k : Signal) (i : ℕ) → Reached t e k i → by_name e ≡ true → holds e.call (record_at t i) ≡ true
  reached_call k i at named = (aim_on t size k e i at.aimed).1 (rw at.rule at named)

  abbrev Matched : Step → Type 0
  Matched s = (holds e.call (record_at t (index_at s)) ≡ true) × (s.answer.call ≡ e.call)

  matched_at : (k : Signal) (i : ℕ) (new : Record) (first second : Option Message) → Reached t e k i → by_name e ≡ true → Matched (done t i new (record_at t i).call first second)
  matched_at k i new first second at named =
      let held = reached_call k i at named in
      (rw (place_index i at.inside) held, holds_same e.call (record_at t i) held)

  matched : (s : Step) → Stepped t size e s → s.answer.number ≡ 0 → by_name e ≡ true → Matched s
  matched s (kept w) h named = absurd (refused_not_0 w h)
  matched s (begun d i sound rule room) h named = never (rw rule at named)
  matched s (ended k i first second at turn) h named = matched_at k i free_record first second at named
  matched s (went_on k i g n m at turn) h named = matched_at k i (held_record (side_at i) g (record_at t i).call n) m None at named

  own_call : (d : Side) → rule_of e.kind ≡ Some (Start d) → (s : Step) → Stepped t size e s → s.answer.number ≡ 0 → s.answer.call ≡ e.call
  own_call d start s (kept w) h = absurd (refused_not_0 w h)
  own_call d start s (begun b i sound rule room) h = refl
  own_call d start s (ended k i first second at turn) h = impossible (cc (sym start ∙ at.rule))
  own_call d start s (went_on k i g n m at turn) h = impossible (cc (sym start ∙ at.rule))

  lost_is_5 : by_name e ≡ true → ((j : ℕ) → j < place_count → holds e.call (record_at t j) ≡ false) → is_sound t ≡ true → (step_of t e).answer.number ≡ 5
  lost_is_5 named gone sound = rw sound (by (rule_of e.kind) named)
    where
      by : (k : Option Rule) → names_call k e ≡ true → (carried_out k t e (aim k t e)).answer.number ≡ 5
      by (Some (Start d)) h = never h
      by (Some (On s)) h = rw (aim_lost t size e gone s h)
      by None h = never h

  -- ---- the two slips

  module _ (sound : is_sound t ≡ true) (j : ℕ) (inside : j < place_count) (held : holds e.call (record_at t j) ≡ true) where
    -- a signal on a held call does its turn at the place that holds it
    pub on_held : (k : Signal) → rule_of e.kind ≡ Some (On k) → aim (Some (On k)) t e ≡ aim_named t e → (P : Step → Type 0)
        → P (settled t e j (record_at t j).call (turn_on k (side_at j) (record_at t j) e)) → P (step_of t e)
    on_held k rule named P turned = rw (sound, rule, named) (by (find_call t e.call) refl)
      where
        by : (f : Option ℕ) → find_call t e.call ≡ f → P (carried_out (Some (On k)) t e (aim_at f CallNotHeld))
        by (Some i) q =
            let h = found_passes t size (λ n. holds e.call) i q in
            let busy = holds_occupied e.call (record_at t j) held in
            let call : (record_at t i).call ≡ (record_at t j).call = holds_same e.call (record_at t i) h.1 ∙ sym (holds_same e.call (record_at t j) held) in
            let same : i ≡ j = (facts_of_test t sound).one_place i j h.0 inside (holds_occupied e.call (record_at t i) h.1) busy call in
            let done_there : turn (Some (On k)) (side_at j) (record_at t j) e ≡ turn_on k (side_at j) (record_at t j) e = rw busy in
            rw same (subst (λ u. P (settled t e j (record_at t j).call u)) (sym done_there) turned)
        by None q = absurd (not_both held (none_passes t size (λ n. holds e.call) q j inside))

    frees : (k : Signal) (m : Option Message) → rule_of e.kind ≡ Some (On k) → aim (Some (On k)) t e ≡ aim_named t e
        → turn_on k (side_at j) (record_at t j) e ≡ Ok (Freed m None) → IsAccepted t e × ((step_of t e).answer.state ≡ 0)
    frees k m rule named freed = on_held k rule named (λ (s : Step). (s.answer.number ≡ 0) × (s.answer.state ≡ 0)) (rw freed (refl, refl))

    release_freeing : (e.kind ≡ 7) ⊎ (e.kind ≡ 8) → IsAccepted t e × ((step_of t e).answer.state ≡ 0)
    release_freeing (inl q) = frees ErrorInRelease _ (rw q) refl (ap (λ (u : Outcome). Ok u) (error_in_release (stage_of (record_at t j)) (is_outstanding (record_at t j) e.invoke)))
    release_freeing (inr q) = frees Release _ (rw q) refl refl

  -- the result's signal in state 4
  module _ (kind : e.kind ≡ 5) where
    result_signal : (k : Signal) (i : ℕ) → Reached t e k i → k ≡ PickupResult
    result_signal k i at = let five : rule_of e.kind ≡ Some (On PickupResult) = rw kind in let both : Some (On k) ≡ Some (On PickupResult) = sym at.rule ∙ five in cc both

    abbrev Holding : Step → Type 0
    Holding s = (record_at t (index_at s)).state ≡ RemoteRequested
        → (s.answer.state ≡ 5) × (s.answer.first.message ≡ 5) × (s.answer.first.connection ≡ (record_at t (index_at s)).connection)

    holding : (s : Step) → Stepped t size e s → s.answer.number ≡ 0 → Holding s
    holding s (kept w) h q = absurd (refused_not_0 w h)
    holding s (begun d i sound rule room) h q =
        let five : rule_of e.kind ≡ Some (On PickupResult) = rw kind in impossible (cc (sym rule ∙ five))
    holding s (ended k i first second at turn) h q =
        let same : index_of (place_at i).0 ≡ i = place_index i at.inside in
        let k_is = result_signal k i at in
        let t5 : turn_on PickupResult (side_at i) (record_at t i) e ≡ Ok (Freed first second) = rw k_is at turn in
        ⊎_elim (λ g. impossible (cc (sym t5 ∙ g))) (λ g. impossible (cc (sym t5 ∙ g)))
        (result_in_4 (side_at i) (record_at t i) e (rw same at q))
    holding s (went_on k i g n m at turn) h q =
        let same : index_of (place_at i).0 ≡ i = place_index i at.inside in
        let k_is = result_signal k i at in
        let t5 : turn_on PickupResult (side_at i) (record_at t i) e ≡ Ok (Becomes g n m) = rw k_is at turn in
        ⊎_elim (λ w. impossible (cc (sym t5 ∙ w)))
        (λ w.
        let both : ◌≡◌ {A = Result Outcome Refusal} (Ok (Becomes g n m)) (Ok (Becomes Taken (record_at t i).count (Some (PickResult (record_at t i).connection)))) = sym t5 ∙ w in
        let stage : g ≡ Taken = cc both in
        let said : m ≡ Some (PickResult (record_at t i).connection) = cc both in
        rw (stage, said, same) (refl, refl, refl))
        (result_in_4 (side_at i) (record_at t i) e (rw same at q))

pub keeps_sound : KeepsSound
keeps_sound t e all sound =
    test_of_facts (step_of t e).table
    (sound_after t all e (step_of t e) (stepped t all.0 e) (facts_of_test t sound))

pub refusal_keeps : RefusalKeeps
refusal_keeps t e all refused = table_kept t all e (step_of t e) (stepped t all.0 e) refused

pub accepted_at_one_place : AcceptedAtOnePlace
accepted_at_one_place t e all accepted = at_one_place t all e (step_of t e) (stepped t all.0 e) accepted

pub t3_runs_through : T3RunsThrough
t3_runs_through t e all accepted low = t3 t all e (step_of t e) (stepped t all.0 e) accepted low

pub matched_by_call : MatchedByCall
matched_by_call t e all accepted named = matched t all e (step_of t e) (stepped t all.0 e) accepted named

pub not_held_is_5 : NotHeldIs5
not_held_is_5 t e all sound named gone = lost_is_5 t all e named gone sound

pub start_answers_its_call : StartAnswersItsCall
start_answers_its_call t e d all accepted start = own_call t all e d start (step_of t e) (stepped t all.0 e) accepted

-- aim, turn, call and refusal read no other field than those that the rule names
module _ (e : Event) where
  same_pickup : (f : Event) → f.call ≡ e.call → (t : Table) (x y z : Bool)
      → aim_for t f (cond x (Ok Held) (cond y (Ok (Waiting Position)) (cond z (Ok (Waiting Line)) (Err ChoiceOrTimer))))
      ≡ aim_for t e (cond x (Ok Held) (cond y (Ok (Waiting Position)) (cond z (Ok (Waiting Line)) (Err ChoiceOrTimer))))
  same_pickup f q t true y z = rw q
  same_pickup f q t false true z = refl
  same_pickup f q t false false true = refl
  same_pickup f q t false false false = refl

  same_expiry : (f : Event) → f.call ≡ e.call → (t : Table) (b : Bool) → aim_for t f (cond b (Ok Held) (Err ChoiceOrTimer)) ≡ aim_for t e (cond b (Ok Held) (Err ChoiceOrTimer))
  same_expiry f q t true = rw q
  same_expiry f q t false = refl

  same_aim : (k : Option Rule) (t : Table) → aim k t (only_named k e) ≡ aim k t e
  same_aim (Some (Start d)) t = refl
  same_aim (Some (On LocalPickup)) t = same_pickup (only_named (Some (On LocalPickup)) e) refl t (eqb e.choice 0) (eqb e.choice 1) (eqb e.choice 2)
  same_aim (Some (On PickRequest)) t = same_pickup (only_named (Some (On PickRequest)) e) refl t (eqb e.choice 0) (eqb e.choice 1) (eqb e.choice 2)
  same_aim (Some (On PickupResult)) t = refl
  same_aim (Some (On PickupError)) t = refl
  same_aim (Some (On ErrorInRelease)) t = refl
  same_aim (Some (On Release)) t = refl
  same_aim (Some (On Answered)) t = refl
  same_aim (Some (On Expiry)) t = same_expiry (only_named (Some (On Expiry)) e) refl t (is_timer e.timer)
  same_aim None t = refl

  same_turn : (k : Option Rule) (a : Side) (r : Record) → turn k a r (only_named k e) ≡ turn k a r e
  same_turn (Some (Start d)) a r = refl
  same_turn (Some (On LocalPickup)) a r = refl
  same_turn (Some (On PickRequest)) a r = refl
  same_turn (Some (On PickupResult)) a r = refl
  same_turn (Some (On PickupError)) a r = refl
  same_turn (Some (On ErrorInRelease)) a r = refl
  same_turn (Some (On Release)) a r = refl
  same_turn (Some (On Answered)) a r = refl
  same_turn (Some (On Expiry)) a r = refl
  same_turn None a r = refl

  same_call_lem : (k : Option Rule) (r : Record) → stay_call k (only_named k e) r ≡ stay_call k e r
  same_call_lem (Some (Start d)) r = refl
  same_call_lem (Some (On s)) r = refl
  same_call_lem None r = refl

  same_refusal : (t : Table) (k : Option Rule) → rule_of e.kind ≡ k → (w : Refusal) → refused_by t (only_named k e) w ≡ refused_by t e w
  same_refusal t (Some (Start Position)) q w = rw q
  same_refusal t (Some (Start Line)) q w = rw q
  same_refusal t (Some (On LocalPickup)) q w = rw q
  same_refusal t (Some (On PickRequest)) q w = refl
  same_refusal t (Some (On PickupResult)) q w = rw q
  same_refusal t (Some (On PickupError)) q w = rw q
  same_refusal t (Some (On ErrorInRelease)) q w = rw q
  same_refusal t (Some (On Release)) q w = rw q
  same_refusal t (Some (On Answered)) q w = rw q
  same_refusal t (Some (On Expiry)) q w = rw q
  same_refusal t None q w = rw q

  same_kind : (k : Option Rule) → (only_named k e).kind ≡ e.kind
  same_kind (Some (Start d)) = refl
  same_kind (Some (On LocalPickup)) = refl
  same_kind (Some (On PickRequest)) = refl
  same_kind (Some (On PickupResult)) = refl
  same_kind (Some (On PickupError)) = refl
  same_kind (Some (On ErrorInRelease)) = refl
  same_kind (Some (On Release)) = refl
  same_kind (Some (On Answered)) = refl
  same_kind (Some (On Expiry)) = refl
  same_kind None = refl

  same_settled : (t : Table) (k : Option Rule) → rule_of e.kind ≡ k → (i : ℕ) (call : List ℕ) (u : Result Outcome Refusal) → settled t (only_named k e) i call u ≡ settled t e i call u
  same_settled t k q i call (Err w) = sym (refused_stays t (only_named k e) i call w) ∙ same_refusal t k q w ∙ refused_stays t e i call w
  same_settled t k q i call (Ok (Freed first second)) = refl
  same_settled t k q i call (Ok (Becomes g n m)) = refl

  same_carried : (t : Table) (k : Option Rule) → rule_of e.kind ≡ k → (a : Result ℕ Refusal) → carried_out k t (only_named k e) a ≡ carried_out k t e a
  same_carried t k q (Err w) = same_refusal t k q w
  same_carried t k q (Ok i) = rw (same_turn k (side_at i) (record_at t i), same_call_lem k (record_at t i)) (same_settled t k q i (stay_call k e (record_at t i)) (turn k (side_at i) (record_at t i) e))

pub ignores_other_fields : IgnoresOtherFields
ignores_other_fields t e =
    let k : Option Rule = rule_of e.kind in
    let f : Event = only_named k e in
    let kind : rule_of f.kind ≡ k = ap rule_of (same_kind e k) in
    let carried : carried_out (rule_of f.kind) t f (aim (rule_of f.kind) t f) ≡ carried_out k t e (aim k t e) =
    rw (kind, same_aim e k t) (same_carried e t k refl (aim k t e)) in
    ap₂ (λ x y. cond (is_sound t) x y) carried (same_refusal e t k refl TableUnsound)

pub release_frees : ReleaseFrees
release_frees t e all sound kind j inside held = release_freeing t all e sound j inside held kind

pub remote_result_holds : RemoteResultHolds
remote_result_holds t e all accepted kind = holding t all e kind (step_of t e) (stepped t all.0 e) accepted
