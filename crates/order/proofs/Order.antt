-- The machine refuses by the first row of the paper's table that holds. By the event's kind: each rule's aim and turn give their refusals in
-- the order of the rows, and the rows of other kinds do not hold.
use mathlib.Core.Path.{◌≡◌, refl, ap, ◌∙◌}
use mathlib.Core.Bool.{Bool, true, false, cond, not, ◌&&◌, ◌||◌, or-false}
use Prim.Native.Nat.{ℕ, zero, suc, ◌<◌}
use native.Mathlib.Omega.{arith}
use lib.Dec.{eqb, ltb}
use lib.ListN.{length}
use borrow.Author.Tests.{eqb-true, eq-eqb, ne_eqb, lt-ltb, lt-leb, le-leb}
use Rattle.std.specs.Prelude.{Option, Some, None, Ok, Err}
use Rattle.laws.proofs.Bools.{never, and_left, and_right, and_both, not_both}
use Rattle.table.specs.declared.Connection.{Connection}
use Rattle.table.specs.declared.Invoke.{Invoke}
use Rattle.table.specs.declared.State.{State}
use Rattle.table.specs.declared.State.TheVariants.{Free, ParkWaiting, LineWaiting, Requested, RemoteRequested, HandedOver}
use Rattle.table.specs.declared.Side.{Side}
use Rattle.table.specs.declared.Side.TheVariants.{Position, Line}
use Rattle.table.specs.declared.Record.{Record}
use Rattle.table.specs.declared.Table.{Table}
use Rattle.table.specs.Places.{same_state, same_side, side_index, is_free, is_of, side_of, side_at, waiting_on, record_at, place_count, index_of}
use Rattle.table.specs.Timers.{timer_set}
use Rattle.table.specs.Search.{holds, is_at, find_call, lowest_in}
use Rattle.table.specs.Ranks.{next_waiting}
use Rattle.table.proofs.RankLaws.{found_leads}
use Rattle.table.specs.Sound.{is_sound}
use Rattle.table.proofs.Calls.{holds_occupied}
use Rattle.table.proofs.Searches.{found_passes, none_passes}
use Rattle.events.specs.declared.Event.{Event}
use Rattle.events.specs.declared.rule.Rule.TheVariants.{Start, On}
use Rattle.events.specs.declared.rule.Signal.{Signal}
use Rattle.events.specs.declared.rule.Signal.TheVariants.{LocalPickup, PickRequest, PickupResult, PickupError, ErrorInRelease, Release, Answered, Expiry}
use Rattle.events.specs.declared.message.Message.TheVariants.{Connect, Facility}
use Rattle.events.specs.declared.refusal.Refusal.TheVariants.{ChoiceOrTimer, SideFull, CallNotHeld, NothingWaits}
use Rattle.events.specs.declared.turn.Stage.{Stage}
use Rattle.events.specs.declared.turn.Stage.TheVariants.{AskedHere, AskedFrom}
use Rattle.events.specs.Taken.{outcome_number, pickup_number}
use Rattle.events.specs.Turn.{stage_by, up, is_outstanding, resulted, failed, failed_in_release, answered, runs, expired, turn_on}
use Rattle.events.specs.declared.sought.Sought.TheVariants.{Held}
use Rattle.events.specs.Sought.{is_timer, sought_pickup}
use Rattle.events.proofs.Refusals.{pickup_numbered}
use Rattle.step.specs.Aim.{aim_at, is_proposed, chosen, unless_held, aim_new, aim_named, aim_for}
use Rattle.step.specs.Step.{carried_out, step_of}
use Rattle.order.specs.Order.{first_of, is_found, record_found, side_found, is_asked, rows, InOrder}
use Rattle.table.proofs.Sides.{proposed_side}
use Rattle.table.proofs.States.{same_state_lem}
use Rattle.step.proofs.Stepped.{settled_number}

-- ---- the number of an outcome

-- rows 7, 11 and 12 of a pickup by name
abbrev taken_number : State → ℕ
taken_number s = cond (same_state s Requested) 7 (cond (same_state s RemoteRequested) 11 (cond (same_state s HandedOver) 12 0))

taken_rows : (s : State) → pickup_number s ≡ taken_number s
taken_rows Free = refl
taken_rows ParkWaiting = refl
taken_rows LineWaiting = refl
taken_rows Requested = refl
taken_rows RemoteRequested = refl
taken_rows HandedOver = refl

-- rows 8 and 9, of a result and of an error
abbrev reply_number : State → Bool → ℕ
reply_number s right = cond (not (is_asked s)) 8 (cond (not right) 9 0)

reply_rows : (s : State) (c : Connection) (b : Bool) (n : Invoke)
    → (outcome_number (resulted (stage_by s c) b n) ≡ reply_number s b) × (outcome_number (failed (stage_by s c) b n) ≡ reply_number s b)
reply_rows Free c b n = (refl, refl)
reply_rows ParkWaiting c b n = (refl, refl)
reply_rows LineWaiting c b n = (refl, refl)
reply_rows Requested c true n = (refl, refl)
reply_rows Requested c false n = (refl, refl)
reply_rows RemoteRequested c true n = (refl, refl)
reply_rows RemoteRequested c false n = (refl, refl)
reply_rows HandedOver c b n = (refl, refl)

result_number : (s : State) (c : Connection) (b : Bool) (n : Invoke) → outcome_number (resulted (stage_by s c) b n) ≡ cond (not (is_asked s)) 8 (cond (not b) 9 0)
result_number s c b n = (reply_rows s c b n).0

in_release_number : (g : Stage) (b : Bool) → outcome_number (Ok (failed_in_release g b)) ≡ 0
in_release_number g b = refl

answered_number : (s : State) → outcome_number (answered s) ≡ cond (not (same_state s LineWaiting)) 8 0
answered_number Free = refl
answered_number ParkWaiting = refl
answered_number LineWaiting = refl
answered_number Requested = refl
answered_number RemoteRequested = refl
answered_number HandedOver = refl

-- T9 runs only where a pickup is outstanding
nine_asked : (a : Side) (s : State) → runs (timer_set a s) 9 ≡ true → is_asked s ≡ true
nine_asked Position Free h = never h
nine_asked Line Free h = never h
nine_asked Position ParkWaiting h = never h
nine_asked Line ParkWaiting h = never h
nine_asked Position LineWaiting h = never h
nine_asked Line LineWaiting h = never h
nine_asked a Requested h = refl
nine_asked a RemoteRequested h = refl
nine_asked Position HandedOver h = never h
nine_asked Line HandedOver h = never h

expiry_number : (a : Side) (s : State) (c : Connection) (timer : ℕ) (n : Invoke)
    → outcome_number (expired (runs (timer_set a s) timer) timer (stage_by s c) n) ≡ cond (not (runs (timer_set a s) timer)) 10 0
expiry_number a s c timer n = by (runs (timer_set a s) timer) (eqb timer 9) refl refl
  where
    by : (b d : Bool) → runs (timer_set a s) timer ≡ b → eqb timer 9 ≡ d → outcome_number (expired (runs (timer_set a s) timer) timer (stage_by s c) n) ≡ cond (not (runs (timer_set a s) timer)) 10 0
    by false d q w = rw q
    by true false q w = rw (q, w)
    by true true q w =
        let nine : timer ≡ 9 = eqb-true timer 9 w in
        let asked : is_asked s ≡ true = nine_asked a s (rw nine at q) in
        rw (q, w) ((reply_rows s c true n).1 ∙ rw asked)

-- ---- an event with another kind or choice

abbrev with_kind : ℕ → Event → Event
with_kind n e = record { kind = n; call = e.call; place = e.place; choice = e.choice; connection = e.connection; invoke = e.invoke; timer = e.timer }

abbrev with_choice : ℕ → Event → Event
with_choice n e = record { kind = e.kind; call = e.call; place = e.place; choice = n; connection = e.connection; invoke = e.invoke; timer = e.timer }

-- a number is none of those below it
below_not : (k n : ℕ) → n < k → eqb k n ≡ false
below_not k n high = ne_eqb k n (λ q. omega (arith, q))

-- ---- the number of a step, by its aim

module _ (t : Table) (size : length t.places ≡ place_count) (e : Event) where
  -- a signal at an occupied place
  at_place : (s : Signal) (i : ℕ) → is_free (record_at t i).state ≡ false → (carried_out (Some (On s)) t e (Ok i)).answer.number ≡ outcome_number (turn_on s (side_at i) (record_at t i) e)
  at_place s i busy = rw busy (settled_number t e i (record_at t i).call (turn_on s (side_at i) (record_at t i) e))

  -- a signal on a named call
  named_number : (s : Signal) (after : Side → Record → ℕ) → ((a : Side) (r : Record) → outcome_number (turn_on s a r e) ≡ after a r)
      → (carried_out (Some (On s)) t e (aim_named t e)).answer.number ≡ cond (not (is_found (find_call t e.call))) 5 (after (side_found (find_call t e.call)) (record_found t (find_call t e.call)))
  named_number s after number = by (find_call t e.call) refl
    where
      by : (f : Option ℕ) → find_call t e.call ≡ f → (carried_out (Some (On s)) t e (aim_at f CallNotHeld)).answer.number ≡ cond (not (is_found f)) 5 (after (side_found f) (record_found t f))
      by None q = refl
      by (Some i) q = at_place s i (holds_occupied e.call (record_at t i) (found_passes t size (λ j. holds e.call) i q).1) ∙ number (side_at i) (record_at t i)

  -- a park or an alert
  new_number : (d : Side) → (carried_out (Some (Start d)) t e (aim_new d t e)).answer.number
      ≡ cond (is_found (find_call t e.call)) 3 (cond (not (is_found (lowest_in t d Free))) 4 0)
  new_number d = by (find_call t e.call)
    where
      lowest : (f : Option ℕ) → (carried_out (Some (Start d)) t e (aim_at f SideFull)).answer.number ≡ cond (not (is_found f)) 4 0
      lowest (Some i) = refl
      lowest None = refl

      some : is_proposed t d e.place ≡ true → (f : Option ℕ) → lowest_in t d Free ≡ f → ◌≡◌ {A = ℕ} 0 (cond (not (is_found f)) 4 0)
      some p (Some i) q = refl
      some p None q =
          let side = proposed_side d e.place.0 (and_left (is_of d (side_of e.place)) _ p) in
          let vacant : is_free (record_at t (index_of e.place.0)).state ≡ true = and_right (is_of d (side_of e.place)) _ p in
          let here : same_side (side_at (index_of e.place.0)) d ≡ true = eq-eqb _ _ (ap side_index side.1) in
          absurd (not_both (and_both here vacant) (none_passes t size (is_at d Free) q (index_of e.place.0) side.0))

      place : (b : Bool) → is_proposed t d e.place ≡ b
          → (carried_out (Some (Start d)) t e (aim_at (cond b (Some (index_of e.place.0)) (lowest_in t d Free)) SideFull)).answer.number ≡ cond (not (is_found (lowest_in t d Free))) 4 0
      place true p = some p (lowest_in t d Free) refl
      place false p = lowest (lowest_in t d Free)

      by : (f : Option ℕ) → (carried_out (Some (Start d)) t e (unless_held f (aim_at (chosen t d e.place) SideFull))).answer.number ≡ cond (is_found f) 3 (cond (not (is_found (lowest_in t d Free))) 4 0)
      by (Some i) = refl
      by None = place (is_proposed t d e.place) refl

-- a pickup of a call that waits on a side, and the rows 2, 5, 6, 7, 11 and 12 of a pickup
module _ (t : Table) (size : length t.places ≡ place_count) (s : Signal) (number : (e : Event) (a : Side) (r : Record) → outcome_number (turn_on s a r e) ≡ taken_number r.state) where
  waiting_number : (e : Event) (a : Side) → (carried_out (Some (On s)) t e (aim_at (next_waiting t a) NothingWaits)).answer.number ≡ cond (not (is_found (next_waiting t a))) 6 0
  waiting_number e a = by (next_waiting t a) refl
    where
      waits : (a : Side) (s : State) → s ≡ waiting_on a → (is_free s ≡ false) × (taken_number s ≡ 0)
      waits Position s q = rw q (refl, refl)
      waits Line s q = rw q (refl, refl)

      by : (f : Option ℕ) → next_waiting t a ≡ f → (carried_out (Some (On s)) t e (aim_at f NothingWaits)).answer.number ≡ cond (not (is_found f)) 6 0
      by None q = refl
      by (Some i) q =
          let w = waits a (record_at t i).state (same_state_lem (record_at t i).state (waiting_on a) (and_right (same_side (side_at i) a) _ (found_leads t a place_count i q).1)) in
          at_place t size e s i w.0 ∙ number e (side_at i) (record_at t i) ∙ rw w.1

  abbrev PickupRows : Event → Type 0
  PickupRows e = (carried_out (Some (On s)) t e (aim_for t e (sought_pickup e.choice))).answer.number
      ≡ cond (ltb 2 e.choice) 2
      (cond (eqb e.choice 0 && not (is_found (find_call t e.call))) 5
      (cond ((eqb e.choice 1 || eqb e.choice 2) && not (is_found (next_waiting t (cond (eqb e.choice 1) Position Line)))) 6
      (cond (eqb e.choice 0 && same_state (record_found t (find_call t e.call)).state Requested) 7
      (cond (eqb e.choice 0 && same_state (record_found t (find_call t e.call)).state RemoteRequested) 11
      (cond (eqb e.choice 0 && same_state (record_found t (find_call t e.call)).state HandedOver) 12 0)))))

  pickup_rows : (e : Event) (n : ℕ) → PickupRows (with_choice n e)
  pickup_rows e zero = named_number t size (with_choice 0 e) s (λ a r. taken_number r.state) (number (with_choice 0 e))
  pickup_rows e (suc zero) = waiting_number (with_choice 1 e) Position
  pickup_rows e (suc (suc zero)) = waiting_number (with_choice 2 e) Line
  pickup_rows e (suc (suc (suc n))) =
      let k = suc (suc (suc n)) in
      rw (below_not k 0 (omega arith), below_not k 1 (omega arith), below_not k 2 (omega arith), lt-ltb 2 k (omega arith))

-- ---- by the kind

module _ (t : Table) (size : length t.places ≡ place_count) (sound : is_sound t ≡ true) where
  abbrev Ordered : Event → Type 0
  Ordered e = (step_of t e).answer.number ≡ first_of (rows t e)

  kind_1 : (e : Event) → Ordered (with_kind 1 e)
  kind_1 e = rw sound (new_number t size (with_kind 1 e) Position)

  kind_2 : (e : Event) → Ordered (with_kind 2 e)
  kind_2 e = rw sound (new_number t size (with_kind 2 e) Line)

  kind_3 : (e : Event) → Ordered (with_kind 3 e)
  kind_3 e =
      rw (sound, or-false (ltb 2 e.choice), or-false (eqb e.choice 0))
      (pickup_rows t size LocalPickup (λ x a r. pickup_numbered r.state r.connection AskedHere (up r.count) (Some (Connect (up r.count))) ∙ taken_rows r.state) (with_kind 3 e) e.choice)

  kind_4 : (e : Event) → Ordered (with_kind 4 e)
  kind_4 e =
      rw (sound, or-false (ltb 2 e.choice), or-false (eqb e.choice 0))
      (pickup_rows t size PickRequest (λ x a r. pickup_numbered r.state r.connection (AskedFrom x.connection) (up r.count) (Some (Facility (up r.count))) ∙ taken_rows r.state) (with_kind 4 e) e.choice)

  kind_5 : (e : Event) → Ordered (with_kind 5 e)
  kind_5 e =
      rw (sound, or-false (not (is_asked (record_found t (find_call t e.call)).state)))
      (named_number t size (with_kind 5 e) PickupResult (λ a r. reply_number r.state (is_outstanding r e.invoke))
      (λ a r. (reply_rows r.state r.connection (is_outstanding r e.invoke) r.count).0))

  kind_6 : (e : Event) → Ordered (with_kind 6 e)
  kind_6 e =
      rw (sound, or-false (not (is_asked (record_found t (find_call t e.call)).state)))
      (named_number t size (with_kind 6 e) PickupError (λ a r. reply_number r.state (is_outstanding r e.invoke))
      (λ a r. (reply_rows r.state r.connection (is_outstanding r e.invoke) r.count).1))

  kind_7 : (e : Event) → Ordered (with_kind 7 e)
  kind_7 e = rw sound (named_number t size (with_kind 7 e) ErrorInRelease (λ a r. 0) (λ a r. refl))

  kind_8 : (e : Event) → Ordered (with_kind 8 e)
  kind_8 e = rw sound (named_number t size (with_kind 8 e) Release (λ a r. 0) (λ a r. refl))

  kind_9 : (e : Event) → Ordered (with_kind 9 e)
  kind_9 e =
      rw sound
      (named_number t size (with_kind 9 e) Answered (λ a r. cond (not (same_state r.state LineWaiting)) 8 0) (λ a r. answered_number r.state))

  kind_10 : (e : Event) → Ordered (with_kind 10 e)
  kind_10 e = rw sound (expiry (is_timer e.timer))
    where
      expiry : (b : Bool) → (carried_out (Some (On Expiry)) t (with_kind 10 e) (aim_for t (with_kind 10 e) (cond b (Ok Held) (Err ChoiceOrTimer)))).answer.number
          ≡ cond (not b) 2 (cond (not (is_found (find_call t e.call))) 5
          (cond (not (runs (timer_set (side_found (find_call t e.call)) (record_found t (find_call t e.call)).state) e.timer)) 10 0))
      expiry true = named_number t size (with_kind 10 e) Expiry (λ a r. cond (not (runs (timer_set a r.state) e.timer)) 10 0)
          (λ a r. expiry_number a r.state r.connection e.timer r.count)
      expiry false = refl

  by_kind : (e : Event) (n : ℕ) → Ordered (with_kind n e)
  by_kind e zero = rw sound
  by_kind e (suc zero) = kind_1 e
  by_kind e (suc (suc zero)) = kind_2 e
  by_kind e (suc (suc (suc zero))) = kind_3 e
  by_kind e (suc (suc (suc (suc zero)))) = kind_4 e
  by_kind e (suc (suc (suc (suc (suc zero))))) = kind_5 e
  by_kind e (suc (suc (suc (suc (suc (suc zero)))))) = kind_6 e
  by_kind e (suc (suc (suc (suc (suc (suc (suc zero))))))) = kind_7 e
  by_kind e (suc (suc (suc (suc (suc (suc (suc (suc zero)))))))) = kind_8 e
  by_kind e (suc (suc (suc (suc (suc (suc (suc (suc (suc zero))))))))) = kind_9 e
  by_kind e (suc (suc (suc (suc (suc (suc (suc (suc (suc (suc zero)))))))))) = kind_10 e
  by_kind e (suc (suc (suc (suc (suc (suc (suc (suc (suc (suc (suc n))))))))))) =
      let k = suc (suc (suc (suc (suc (suc (suc (suc (suc (suc (suc n)))))))))) in
      rw (
        sound,
        below_not k 1 (omega arith),
        below_not k 2 (omega arith),
        below_not k 3 (omega arith),
        below_not k 4 (omega arith),
        below_not k 5 (omega arith),
        below_not k 6 (omega arith),
        below_not k 7 (omega arith),
        below_not k 8 (omega arith),
        below_not k 9 (omega arith),
        below_not k 10 (omega arith),
        le-leb 1 k (omega arith),
        lt-leb k 10 (omega arith),
      )

pub in_order : InOrder
in_order t e all = by (is_sound t) refl
  where
    by : (b : Bool) → is_sound t ≡ b → (step_of t e).answer.number ≡ first_of (rows t e)
    by true q = by_kind t all.0 q e e.kind
    by false q = rw q
