-- An event as the lamps see it: it is refused, and nothing is sent; or it is done at one place, and what is sent goes by the move of that place, of
-- which there are five (`Move`, crate `step`). All that is promised of the lamps goes by these cases.
use Rattle.std.proofs.Common.{◌≡◌, ℕ, ◌+◌, ◌≤◌, Bool, true, false, eqb, Option, None, Some, sym, refl, ap, ◌∙◌, arith, ne_eqb, eqb-true}
use borrow.Author.Tests.{eqb-false}
use Rattle.laws.proofs.Bools.{never}
use Rattle.table.specs.declared.State.{State}
use Rattle.table.specs.declared.State.TheVariants.{Free, ParkWaiting, LineWaiting, Requested, RemoteRequested, HandedOver}
use Rattle.table.specs.declared.Table.{Table}
use Rattle.table.specs.declared.Place.{Place}
use Rattle.table.specs.Places.{state_number, is_free, record_at, place_count}
use Rattle.events.specs.declared.Event.{Event}
use Rattle.events.specs.declared.rule.Rule.{Rule}
use Rattle.events.specs.declared.rule.Rule.TheVariants.{Start}
use Rattle.events.specs.declared.rule.Rule.TheVariants as Rules
use Rattle.events.specs.Rule.{rule_of}
use Rattle.events.proofs.Refusals.{refused_not_0}
use Rattle.events.proofs.RuleLaws.{by_kind}
use Rattle.step.specs.declared.Step.{Step}
use Rattle.step.specs.Step.{step_of}
use Rattle.step.specs.Promises.{Full, offered, Move, starts, goes_on, hands_over, ends, is_left, index_at, AtOnePlace}
use Rattle.table.proofs.Sides.{place_number, place_index}
use Rattle.step.proofs.Stepped.{Stepped, kept, begun, ended, went_on, stepped}
use Rattle.step.proofs.Promises.{refusal_keeps, accepted_at_one_place}
use Rattle.lamps.specs.declared.members.Indication.{Indication}
use Rattle.lamps.specs.declared.members.Indication.TheVariants.{On, Off}
use Rattle.lamps.specs.declared.members.Lamps.{Lamps}
use Rattle.lamps.specs.Notice.{starts_stay, is_over, had_off, asks_for, unlit, lit_by}
use Rattle.lamps.specs.Served.{lit_of}

-- ---- the place of an accepted event

pub accepted_inside : (t : Table) (e : Event) (s : Step) → Full t → s ≡ step_of t e → s.answer.number ≡ 0 → (1 ≤ s.answer.place.0) × (s.answer.place.0 ≤ place_count)
accepted_inside t e s full q h =
    let x = accepted_at_one_place t e full (rw q at h) in
    let number : s.answer.place.0 ≡ index_at (step_of t e) + 1 =
    ap (λ (u : Step). u.answer.place.0) q ∙ ap (λ (p : Place). p.0) x.place ∙ place_number (index_at (step_of t e)) x.inside in
    (omega (arith, number), omega (arith, number, x.inside))

-- ---- which events start a stay

abbrev is_start : Option Rule → Bool
is_start (Some (Start d)) = true
is_start (Some (Rules.On s)) = false
is_start None = false

kind_starts : (kind : ℕ) → starts_stay kind ≡ is_start (rule_of kind)
kind_starts =
    by_kind (λ kind k. starts_stay kind ≡ is_start k) refl refl
    (λ kind s h. rw (ne_eqb kind 1 (λ e. absurd (omega (arith, e))), ne_eqb kind 2 (λ e. absurd (omega (arith, e)))))
    (λ kind one two. rw (ne_eqb kind 1 one, ne_eqb kind 2 two))

module _ (t : Table) (full : Full t) (e : Event) where
  starts_at : (s : Step) → Stepped t full.0 e s → s.answer.number ≡ 0 → starts_stay e.kind ≡ is_free (record_at t (index_at s)).state
  starts_at s (kept w) h = absurd (refused_not_0 w h)
  starts_at s (begun d i sound rule room) h =
      kind_starts e.kind ∙ ap is_start rule ∙ sym (rw (place_index i room.inside) room.vacant)
  starts_at s (ended k i first second reached turned) h =
      kind_starts e.kind ∙ ap is_start reached.rule ∙ sym (rw (place_index i reached.inside) reached.occupied)
  starts_at s (went_on k i g n m reached turned) h =
      kind_starts e.kind ∙ ap is_start reached.rule ∙ sym (rw (place_index i reached.inside) reached.occupied)

-- ---- what each move sends

-- a call that is on offer
pub record OnOffer (s : State) : Type 0 where
  pub held : is_free s ≡ false
  pub due : had_off s ≡ false
  pub going : is_over (state_number s) ≡ false

pub on_offer : (s : State) → offered s ≡ true → OnOffer s
on_offer Free h = never h
on_offer ParkWaiting h = record { held = refl; due = refl; going = refl }
on_offer LineWaiting h = record { held = refl; due = refl; going = refl }
on_offer Requested h = record { held = refl; due = refl; going = refl }
on_offer RemoteRequested h = record { held = refl; due = refl; going = refl }
on_offer HandedOver h = never h

abbrev pub sends : {before after : State} → Move before after → Option Indication
sends (starts o) = Some On
sends (goes_on o p) = None
sends (hands_over o) = Some Off
sends (ends o) = Some Off
sends is_left = None

asks_by_move : (kind : ℕ) {before after : State} (m : Move before after) → starts_stay kind ≡ is_free before → asks_for kind before (state_number after) ≡ sends m
asks_by_move kind (starts o) q = rw q
asks_by_move kind (goes_on {before} {after} o p) q = rw (q ∙ (on_offer before o).held, (on_offer before o).due, (on_offer after p).going)
asks_by_move kind (hands_over {before} o) q = rw (q ∙ (on_offer before o).held, (on_offer before o).due)
asks_by_move kind (ends {before} o) q = rw (q ∙ (on_offer before o).held, (on_offer before o).due)
asks_by_move kind is_left q = rw q

-- ---- the view

pub data Came (l : Lamps) (t : Table) (e : Event) (s : Step) : Type 0 where
  refused : eqb s.answer.number 0 ≡ false → s.table ≡ t → lit_of l t e s.answer ≡ unlit l → Came l t e s
  done : (x : AtOnePlace t s) → eqb s.answer.number 0 ≡ true → starts_stay e.kind ≡ is_free (record_at t (index_at s)).state
      → lit_of l t e s.answer ≡ lit_by l (index_at s) s.answer (sends x.move) → Came l t e s

pub came : (l : Lamps) (t : Table) (e : Event) → Full t → Came l t e (step_of t e)
came l t e full = by (eqb (step_of t e).answer.number 0) refl
  where
    by : (b : Bool) → eqb (step_of t e).answer.number 0 ≡ b → Came l t e (step_of t e)
    by false q = refused q (refusal_keeps t e full (eqb-false (step_of t e).answer.number 0 q)) (rw q)
    by true q =
        let number : (step_of t e).answer.number ≡ 0 = eqb-true (step_of t e).answer.number 0 q in
        let x = accepted_at_one_place t e full number in
        let from = starts_at t full e (step_of t e) (stepped t full.0 e) number in
        let asks = ap (asks_for e.kind (record_at t (index_at (step_of t e))).state) x.state ∙ asks_by_move e.kind x.move from in
        done x q from (rw q (ap (lit_by l (index_at (step_of t e)) (step_of t e).answer) asks))
