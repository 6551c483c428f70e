-- The step of a table and the turn at one place. An accepted event, by name, is a turn at the place of its answer (`took`, by the
-- cases of `Stepped`); and a turn is done again, with the same answer, in every sound table that has its record at the place and its
-- call nowhere else (`repeats`: the search by name finds the place, or a park or an alert gets the place that it proposes).
use mathlib.Core.Path.{◌≡◌, refl, sym, ap, ap₂, ◌∙◌}
use mathlib.Core.Bool.{Bool, true, false, cond}
use mathlib.Core.Logic.{⊎_elim}
use Prim.Native.Nat.{ℕ, ◌<◌}
use native.Mathlib.Omega.{arith}
use lib.ListN.{length}
use Rattle.std.specs.Prelude.{Option, Some, None, Result, Ok, Err}
use Rattle.laws.proofs.Bools.{not_both, equal_or}
use Rattle.table.specs.declared.Side.{Side}
use Rattle.table.specs.declared.Record.{Record}
use Rattle.table.specs.declared.Table.{Table}
use Rattle.table.specs.Places.{side_of, is_of, side_at, place_at, free_record, record_at, place_count, index_of}
use Rattle.table.specs.Search.{holds, find_call}
use Rattle.table.specs.Sound.{is_sound}
use Rattle.table.proofs.Calls.{holds_same, holds_occupied, occupied_holds}
use Rattle.table.proofs.Searches.{found_passes, none_passes, none_found}
use Rattle.table.proofs.Facts.{facts_of_test}
use Rattle.table.specs.Ranks.{put}
use Rattle.events.specs.declared.Event.{Event}
use Rattle.events.specs.declared.Answer.{Answer}
use Rattle.step.specs.declared.Step.{Step}
use Rattle.events.specs.declared.rule.Rule.{Rule}
use Rattle.events.specs.declared.rule.Rule.TheVariants.{Start, On}
use Rattle.events.specs.declared.rule.Signal.{Signal}
use Rattle.events.specs.declared.rule.Signal.TheVariants.{LocalPickup, PickRequest, PickupResult, PickupError, ErrorInRelease, Release, Answered, Expiry}
use Rattle.events.specs.declared.refusal.Refusal.{Refusal}
use Rattle.events.specs.declared.refusal.Refusal.TheVariants.{ChoiceOrTimer}
use Rattle.events.specs.declared.turn.Outcome.{Outcome}
use Rattle.events.specs.Rule.{rule_of}
use Rattle.events.specs.Turn.{turn_on, turn}
use Rattle.events.specs.declared.sought.Sought.TheVariants.{Held}
use Rattle.events.specs.Sought.{is_timer}
use Rattle.step.specs.Aim.{chosen, aim_named, aim_new, aim_for, aim}
use Rattle.events.specs.Act.{stay_call}
use Rattle.step.specs.Step.{step_of}
use Rattle.step.specs.Promises.{names_call, AtOnePlace}
use Rattle.step.proofs.Stepped.{Reached, Stepped, kept, begun, ended, went_on, settled}
use Rattle.table.proofs.Sides.{place_index, place_side}
use Rattle.stays.specs.ParkTable.{by_answer}
use Rattle.stays.proofs.Turned.{Acts, Proposes, Turned, opened, closed, carried}

-- a turn looks at neither call nor place nor choice
turn_by_name : (k : Signal) (d : Side) (r : Record) (e : Event) (a : Answer) → turn_on k d r (by_answer e a) ≡ turn_on k d r e
turn_by_name LocalPickup d r e a = refl
turn_by_name PickRequest d r e a = refl
turn_by_name PickupResult d r e a = refl
turn_by_name PickupError d r e a = refl
turn_by_name ErrorInRelease d r e a = refl
turn_by_name Release d r e a = refl
turn_by_name Answered d r e a = refl
turn_by_name Expiry d r e a = refl

-- an event that found its place, by name
names : (k : Signal) (t : Table) (e : Event) (a : Answer) (i : ℕ) → rule_of e.kind ≡ Some (On k) → aim (Some (On k)) t e ≡ Ok i
    → names_call (Some (On k)) (by_answer e a) ≡ true
names LocalPickup t e a i rule h = rw rule
names PickRequest t e a i rule h = rw rule
names PickupResult t e a i rule h = refl
names PickupError t e a i rule h = refl
names ErrorInRelease t e a i rule h = refl
names Release t e a i rule h = refl
names Answered t e a i rule h = refl
names Expiry t e a i rule h = by (is_timer e.timer) h
  where
    by : (b : Bool) → aim_for t e (cond b (Ok Held) (Err ChoiceOrTimer)) ≡ Ok i → b ≡ true
    by true g = refl
    by false g = absurd (cc g)

-- what an accepted step did: a turn at the place of its answer, and nothing else
pub record Took (t : Table) (e : Event) (s : Step) : Type 0 where
  pub at : ℕ
  pub place : index_of s.answer.place.0 ≡ at
  pub after : Record
  pub turned : Turned at (record_at t at) (by_answer e s.answer) s.answer after
  pub table : s.table ≡ put t at after

module _ (t : Table) (size : length t.places ≡ place_count) (e : Event) where
  acts : (k : Signal) (i : ℕ) (a : Answer) → a.call ≡ (record_at t i).call → Reached t e k i → Acts k i (record_at t i) (by_answer e a)
  acts k i a c at = record {
    inside = at.inside;
    rule = at.rule;
    named = names k t e a i at.rule at.aimed;
    held = occupied_holds a.call (record_at t i) at.occupied (sym c);
  }

  pub took : (s : Step) → Stepped t size e s → AtOnePlace t s → Took t e s
  took s (kept w) x =
      let no : ◌≡◌ {A = ℕ} 0 1 = ap (λ p. p.0) x.place in
      absurd (omega arith)
  took s (begun d i sound rule room) x = record {
    at = i;
    place = place_index i room.inside;
    after = _;
    turned = opened d (record {
      inside = room.inside;
      rule = rule;
      side = room.side;
      proposed = refl;
      was = (facts_of_test t sound).free_is_zeros i room.inside room.vacant;
    });
    table = refl;
  }
  took s (ended k i first second at turn) x = record {
    at = i;
    place = place_index i at.inside;
    after = _;
    turned = closed k first second (acts k i s.answer refl at) (turn_by_name k (side_at i) (record_at t i) e s.answer ∙ turn);
    table = refl;
  }
  took s (went_on k i g n m at turn) x = record {
    at = i;
    place = place_index i at.inside;
    after = _;
    turned = carried k g n m (acts k i s.answer refl at) (turn_by_name k (side_at i) (record_at t i) e s.answer ∙ turn);
    table = refl;
  }

-- ---- a turn, done again

aim_by_name : (k : Signal) (t : Table) (e : Event) → names_call (Some (On k)) e ≡ true → aim (Some (On k)) t e ≡ aim_named t e
aim_by_name LocalPickup t e h = rw h
aim_by_name PickRequest t e h = rw h
aim_by_name PickupResult t e h = refl
aim_by_name PickupError t e h = refl
aim_by_name ErrorInRelease t e h = refl
aim_by_name Release t e h = refl
aim_by_name Answered t e h = refl
aim_by_name Expiry t e h = rw h

module _ (t : Table) (size : length t.places ≡ place_count) (sound : is_sound t ≡ true) (e : Event) (p : ℕ)
    (alone : (j : ℕ) → j < place_count → (j ≡ p → ⊥) → holds e.call (record_at t j) ≡ true → ⊥) where
  -- the only place that holds the call is found
  found : p < place_count → holds e.call (record_at t p) ≡ true → find_call t e.call ≡ Some p
  found inside held = by (find_call t e.call) refl
    where
      by : (f : Option ℕ) → find_call t e.call ≡ f → f ≡ Some p
      by (Some j) q =
          let h = found_passes t size (λ i. holds e.call) j q in
          ⊎_elim (λ same. rw same) (λ other. absurd (alone j h.0 other h.1)) (equal_or j p)
      by None q = absurd (not_both held (none_passes t size (λ i. holds e.call) q p inside))

  -- a call that no other place holds is nowhere, where this place is free
  absent : record_at t p ≡ free_record → find_call t e.call ≡ None
  absent was = none_found t size (λ i. holds e.call) (λ j h. ⊎_elim (here j) (λ other. by (holds e.call (record_at t j)) (alone j h other)) (equal_or j p))
    where
      here : (j : ℕ) → j ≡ p → holds e.call (record_at t j) ≡ false
      here j same = ap (λ (i : ℕ). holds e.call (record_at t i)) same ∙ rw was

      by : (b : Bool) → (b ≡ true → ⊥) → b ≡ false
      by true n = absurd (n refl)
      by false n = refl

  -- the free place that is proposed is taken
  aim_proposed : (d : Side) → Proposes d p (record_at t p) e → aim_new d t e ≡ Ok p
  aim_proposed d o =
      let side : is_of d (side_of (place_at p)) ≡ true = rw o.side at (place_side p o.inside) in
      let index : index_of (place_at p).0 ≡ p = place_index p o.inside in
      let here : chosen t d (place_at p) ≡ Some p = rw (side, index, o.was) in
      rw (absent o.was, o.proposed, here)

  aim_named_lem : (k : Signal) → Acts k p (record_at t p) e → aim (Some (On k)) t e ≡ Ok p
  aim_named_lem k h = aim_by_name k t e h.named ∙ rw (found h.inside h.held)

  step_at_lem : (k : Option Rule) → rule_of e.kind ≡ k → aim k t e ≡ Ok p
      → step_of t e ≡ settled t e p (stay_call k e (record_at t p)) (turn k (side_at p) (record_at t p) e)
  step_at_lem k rule aimed = rw (sound, rule, aimed)

  -- what a signal does to the call that is held here
  settles : (k : Signal) → Acts k p (record_at t p) e → {u : Result Outcome Refusal} → turn_on k (side_at p) (record_at t p) e ≡ u
      → settled t e p (record_at t p).call (turn (Some (On k)) (side_at p) (record_at t p) e) ≡ settled t e p e.call u
  settles k h {u} turned =
      let does : turn (Some (On k)) (side_at p) (record_at t p) e ≡ u = rw (holds_occupied e.call (record_at t p) h.held) turned in
      ap₂ (settled t e p) (holds_same e.call (record_at t p) h.held) does

  pub repeats : {a : Answer} {s : Record} → Turned p (record_at t p) e a s → step_of t e ≡ record { table = put t p s; answer = a }
  repeats (opened d o) = step_at_lem (Some (Start d)) o.rule (aim_proposed d o)
  repeats (closed k first second h turned) = step_at_lem (Some (On k)) h.rule (aim_named_lem k h) ∙ settles k h turned
  repeats (carried k g n m h turned) = step_at_lem (Some (On k)) h.rule (aim_named_lem k h) ∙ settles k h turned
