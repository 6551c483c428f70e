-- The index that an event is for: it is in the table; a park or an alert gets a free place of its side, and its call is nowhere
-- else; an event that names a call gets the place that holds it, or refusal 5 where none does.
use mathlib.Core.Path.{◌≡◌, refl}
use mathlib.Core.Bool.{Bool, true, false, cond}
use mathlib.Core.List.{List}
use Prim.Native.Nat.{ℕ, ◌<◌}
use lib.Dec.{eqb}
use lib.ListN.{length}
use Rattle.std.specs.Prelude.{Option, Some, None, Result, Ok, Err}
use Rattle.laws.proofs.Bools.{impossible, never, and_left, and_right}
use Rattle.table.specs.declared.Place.{Place}
use Rattle.table.specs.declared.State.TheVariants.{Free}
use Rattle.table.specs.declared.Side.{Side}
use Rattle.table.specs.declared.Side.TheVariants.{Position, Line}
use Rattle.table.specs.declared.Table.{Table}
use Rattle.table.specs.Places.{is_free, same_side, side_of, is_of, side_at, record_at, place_count, index_of}
use Rattle.table.specs.Search.{holds, find_call, lowest_in}
use Rattle.table.proofs.Searches.{found_passes, none_found, lowest_passes}
use Rattle.table.proofs.Sides.{side_is, proposed_side}
use Rattle.table.proofs.RankLaws.{found_below}
use Rattle.events.specs.declared.Event.{Event}
use Rattle.events.specs.declared.rule.Signal.{Signal}
use Rattle.events.specs.declared.rule.Rule.{Rule}
use Rattle.events.specs.declared.rule.Rule.TheVariants.{Start, On}
use Rattle.events.specs.declared.rule.Signal.TheVariants.{LocalPickup, PickRequest, PickupResult, PickupError, ErrorInRelease, Release, Answered, Expiry}
use Rattle.events.specs.declared.refusal.Refusal.{Refusal}
use Rattle.events.specs.declared.refusal.Refusal.TheVariants.{ChoiceOrTimer, SideFull, CallNotHeld, NothingWaits}
use Rattle.events.specs.declared.sought.Sought.{Sought}
use Rattle.events.specs.declared.sought.Sought.TheVariants.{Held, Waiting}
use Rattle.events.specs.Sought.{is_timer, sought_pickup}
use Rattle.table.specs.Ranks.{next_waiting}
use Rattle.step.specs.Aim.{aim_at, is_proposed, chosen, unless_held, aim_new, aim_named, aim_for, aim}
use Rattle.step.specs.Promises.{names_call}

pub aim_at_to : (f : Option ℕ) (w : Refusal) (i : ℕ) → aim_at f w ≡ Ok i → f ≡ Some i
aim_at_to (Some j) w i h = let same : j ≡ i = cc in rw same
aim_at_to None w i h = impossible cc

-- what a pickup looks for that does not name a call
abbrev by_choice : Event → Result Sought Refusal
by_choice e = cond (eqb e.choice 1) (Ok (Waiting Position)) (cond (eqb e.choice 2) (Ok (Waiting Line)) (Err ChoiceOrTimer))

module _ (t : Table) (size : length t.places ≡ place_count) where
  -- a free place of the side, and the call is held nowhere
  pub record Room (d : Side) (call : List ℕ) (i : ℕ) : Type 0 where
    pub inside : i < place_count
    pub side : side_at i ≡ d
    pub vacant : is_free (record_at t i).state ≡ true
    pub absent : find_call t call ≡ None

  pub chosen_room : (d : Side) (p : Place) (i : ℕ) → chosen t d p ≡ Some i → (i < place_count) × (side_at i ≡ d) × (is_free (record_at t i).state ≡ true)
  chosen_room d p i h = by (is_proposed t d p) refl h
    where
      by : (b : Bool) → is_proposed t d p ≡ b → cond b (Some (index_of p.0)) (lowest_in t d Free) ≡ Some i → (i < place_count) × (side_at i ≡ d) × (is_free (record_at t i).state ≡ true)
      by true q g =
          let same : index_of p.0 ≡ i = cc in
          let s = proposed_side d p.0 (and_left (is_of d (side_of p)) _ q) in
          let free : is_free (record_at t (index_of p.0)).state ≡ true = and_right (is_of d (side_of p)) _ q in
          (rw same at s.0, rw same at s.1, rw same at free)
      by false q g =
          let f = lowest_passes t size d Free i g in
          (f.0, side_is (side_at i) d (and_left (same_side (side_at i) d) _ f.1), and_right (same_side (side_at i) d) _ f.1)

  pub aim_new_lem : (d : Side) (e : Event) (i : ℕ) → aim_new d t e ≡ Ok i → Room d e.call i
  aim_new_lem d e i h = by (find_call t e.call) refl h
    where
      by : (f : Option ℕ) → find_call t e.call ≡ f → unless_held f (aim_at (chosen t d e.place) SideFull) ≡ Ok i → Room d e.call i
      by (Some j) q g = impossible cc
      by None q g =
          let r = chosen_room d e.place i (aim_at_to (chosen t d e.place) SideFull i g) in
          record { inside = r.0; side = r.1; vacant = r.2; absent = q }

  -- the place holds the event's call
  pub aim_named_lem : (e : Event) (i : ℕ) → aim_named t e ≡ Ok i → (i < place_count) × (holds e.call (record_at t i) ≡ true)
  aim_named_lem e i h = found_passes t size (λ j. holds e.call) i (aim_at_to (find_call t e.call) CallNotHeld i h)

  next_inside : (a : Side) (i : ℕ) → aim_at (next_waiting t a) NothingWaits ≡ Ok i → i < place_count
  next_inside a i h = found_below t a place_count i (aim_at_to (next_waiting t a) NothingWaits i h)

  -- an aim that names a call where the test passes
  if_named : (e : Event) (i : ℕ) (b : Bool) (other : Result Sought Refusal) → (aim_for t e other ≡ Ok i → i < place_count) → aim_for t e (cond b (Ok Held) other) ≡ Ok i
      → (i < place_count) × (b ≡ true → holds e.call (record_at t i) ≡ true)
  if_named e i true other f h = let g = aim_named_lem e i h in (g.0, λ q. g.1)
  if_named e i false other f h = (f h, λ q. never q)

  pickup : (e : Event) (i : ℕ) → aim_for t e (sought_pickup e.choice) ≡ Ok i → (i < place_count) × (eqb e.choice 0 ≡ true → holds e.call (record_at t i) ≡ true)
  pickup e i h = if_named e i (eqb e.choice 0) (by_choice e) (by (eqb e.choice 1) (eqb e.choice 2)) h
    where
      by : (x y : Bool) → aim_for t e (cond x (Ok (Waiting Position)) (cond y (Ok (Waiting Line)) (Err ChoiceOrTimer))) ≡ Ok i → i < place_count
      by true y g = next_inside Position i g
      by false true g = next_inside Line i g
      by false false g = impossible cc

  named : (e : Event) (i : ℕ) → aim_named t e ≡ Ok i → (i < place_count) × (true ≡ true → holds e.call (record_at t i) ≡ true)
  named e i h = let g = aim_named_lem e i h in (g.0, λ q. g.1)

  -- an index of the table; and, of an event that names a call, the place that holds it
  pub aim_on : (s : Signal) (e : Event) (i : ℕ) → aim (Some (On s)) t e ≡ Ok i → (i < place_count) × (names_call (Some (On s)) e ≡ true → holds e.call (record_at t i) ≡ true)
  aim_on LocalPickup e i h = pickup e i h
  aim_on PickRequest e i h = pickup e i h
  aim_on PickupResult e i h = named e i h
  aim_on PickupError e i h = named e i h
  aim_on ErrorInRelease e i h = named e i h
  aim_on Release e i h = named e i h
  aim_on Answered e i h = named e i h
  aim_on Expiry e i h = if_named e i (is_timer e.timer) (Err ChoiceOrTimer) (λ g. impossible cc) h

  -- an index that an event aims at is one of the table's
  pub aim_inside : (k : Option Rule) (e : Event) (i : ℕ) → aim k t e ≡ Ok i → i < place_count
  aim_inside (Some (Start d)) e i h = (aim_new_lem d e i h).inside
  aim_inside (Some (On s)) e i h = (aim_on s e i h).0
  aim_inside None e i h = impossible cc

  module _ (e : Event) (gone : (j : ℕ) → j < place_count → holds e.call (record_at t j) ≡ false) where
    lost : aim_named t e ≡ Err CallNotHeld
    lost = let f : find_call t e.call ≡ None = none_found t size (λ j. holds e.call) gone in rw f

    if_lost : (b : Bool) (other : Result Sought Refusal) → b ≡ true → aim_for t e (cond b (Ok Held) other) ≡ Err CallNotHeld
    if_lost b other q = rw q lost

    -- a call that is held nowhere
    pub aim_lost : (s : Signal) → names_call (Some (On s)) e ≡ true → aim (Some (On s)) t e ≡ Err CallNotHeld
    aim_lost LocalPickup q = if_lost (eqb e.choice 0) (by_choice e) q
    aim_lost PickRequest q = if_lost (eqb e.choice 0) (by_choice e) q
    aim_lost PickupResult q = lost
    aim_lost PickupError q = lost
    aim_lost ErrorInRelease q = lost
    aim_lost Release q = lost
    aim_lost Answered q = lost
    aim_lost Expiry q = if_lost (is_timer e.timer) (Err ChoiceOrTimer) q
