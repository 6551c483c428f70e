-- With choice 1 or 2 the call that came first is taken: where an event aims at what `next_waiting` found, that waits and leads (`found_leads`).
use mathlib.Core.Path.{◌≡◌, sym, subst, ◌∙◌}
use mathlib.Core.Logic.{◌⊎◌, inl, inr, ⊎_elim}
use Prim.Native.Nat.{ℕ, ◌<◌, ◌≤◌}
use lib.ListN.{length}
use Rattle.std.specs.Prelude.{Some, Ok}
use Rattle.laws.proofs.Bools.{impossible}
use Rattle.table.specs.declared.Side.{Side}
use Rattle.table.specs.declared.Side.TheVariants.{Position, Line}
use Rattle.table.specs.declared.Table.{Table}
use Rattle.table.specs.Places.{rank_at, place_count}
use Rattle.table.specs.Ranks.{next_waiting}
use Rattle.table.proofs.RankLaws.{found_leads}
use Rattle.events.specs.declared.Event.{Event}
use Rattle.events.specs.declared.rule.Rule.TheVariants.{On}
use Rattle.events.specs.declared.rule.Signal.{Signal}
use Rattle.events.specs.declared.rule.Signal.TheVariants.{LocalPickup, PickRequest}
use Rattle.events.specs.declared.refusal.Refusal.TheVariants.{NothingWaits}
use Rattle.events.specs.Rule.{rule_of}
use Rattle.events.specs.Sought.{sought_pickup}
use Rattle.events.proofs.Refusals.{refused_not_0}
use Rattle.step.specs.declared.Step.{Step}
use Rattle.step.specs.Aim.{aim_at, aim_for, aim}
use Rattle.step.specs.Step.{step_of}
use Rattle.step.specs.Promises.{index_at, choice_of, Waits, TakesFirst}
use Rattle.table.proofs.Sides.{place_index}
use Rattle.step.proofs.Aims.{aim_at_to}
use Rattle.step.proofs.Stepped.{Reached, Stepped, kept, begun, ended, went_on, stepped}

module _ (t : Table) (size : length t.places ≡ place_count) (e : Event) (a : Side) (choice : e.choice ≡ choice_of a) where
  -- the index waits on the side, and none that waits there came before it
  abbrev Leads : ℕ → Type 0
  Leads i = Waits t a i × ((j : ℕ) → j < place_count → Waits t a j → rank_at t i ≤ rank_at t j)

  next_leads : (i : ℕ) → aim_at (next_waiting t a) NothingWaits ≡ Ok i → Leads i
  next_leads i h = let f = found_leads t a place_count i (aim_at_to (next_waiting t a) NothingWaits i h) in (f.1, f.2)

  by_choice_lem : (b : Side) → e.choice ≡ choice_of b → aim_for t e (sought_pickup e.choice) ≡ aim_at (next_waiting t b) NothingWaits
  by_choice_lem Position q = rw q
  by_choice_lem Line q = rw q

  pickup_leads : (i : ℕ) → aim_for t e (sought_pickup e.choice) ≡ Ok i → Leads i
  pickup_leads i h = next_leads i (sym (by_choice_lem a choice) ∙ h)

  -- a kind 3 or 4 aims as a pickup
  reached_leads : (e.kind ≡ 3) ⊎ (e.kind ≡ 4) → (k : Signal) (i : ℕ) → Reached t e k i → Leads i
  reached_leads (inl q) k i at =
      let local : rule_of e.kind ≡ Some (On LocalPickup) = rw q in
      let same : k ≡ LocalPickup = cc (sym at.rule ∙ local) in
      pickup_leads i (subst (λ s. aim (Some (On s)) t e ≡ Ok i) same at.aimed)
  reached_leads (inr q) k i at =
      let remote : rule_of e.kind ≡ Some (On PickRequest) = rw q in
      let same : k ≡ PickRequest = cc (sym at.rule ∙ remote) in
      pickup_leads i (subst (λ s. aim (Some (On s)) t e ≡ Ok i) same at.aimed)

  leads : (e.kind ≡ 3) ⊎ (e.kind ≡ 4) → (s : Step) → Stepped t size e s → s.answer.number ≡ 0 → Leads (index_at s)
  leads kind s (kept w) h = absurd (refused_not_0 w h)
  leads kind s (begun d i sound rule room) h =
      ⊎_elim (λ q. let r : rule_of e.kind ≡ Some (On LocalPickup) = rw q in impossible (cc (sym rule ∙ r)))
      (λ q. let r : rule_of e.kind ≡ Some (On PickRequest) = rw q in impossible (cc (sym rule ∙ r))) kind
  leads kind s (ended k i first second at turn) h = subst Leads (sym (place_index i at.inside)) (reached_leads kind k i at)
  leads kind s (went_on k i g n m at turn) h = subst Leads (sym (place_index i at.inside)) (reached_leads kind k i at)

pub takes_first : TakesFirst
takes_first t e a all accepted kind choice = leads t all.0 e a choice kind (step_of t e) (stepped t all.0 e) accepted
