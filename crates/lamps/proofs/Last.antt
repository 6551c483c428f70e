-- Whose request a lamp shows: On exactly as long as the call at the place is on offer, with the call that is held there, and of the stay that was last at
-- the place. An event changes the lamp and the stay of its own place alone, by the five moves; a reply changes neither On or Off nor the call.
use Rattle.std.proofs.Common.{◌≡◌, ℕ, zero, suc, ◌+◌, ◌-◌, ◌<◌, Bool, true, false, cond, not, eqb, ◌≢◌, List, [], ◌∷◌, Option, None, Some, length, get_or, set, sym, refl, ap, ◌∙◌, subst, arith, get_or-set_other, get_or-set_same, eq-eqb, ne_eqb}
use native.Mathlib.Decide.{ℕ_discrete}
use lib.ListN.{get_or-replicate}
use Rattle.laws.proofs.Bools.{never}
use Rattle.table.specs.declared.State.{State}
use Rattle.table.specs.declared.Record.{Record}
use Rattle.table.specs.declared.Table.{Table}
use Rattle.table.specs.Places.{state_number, is_free, free_record, blank, empty_table, record_at, place_count}
use Rattle.events.specs.declared.Event.{Event}
use Rattle.events.specs.declared.Answer.{Answer}
use Rattle.events.specs.Turn.{up}
use Rattle.step.specs.Step.{step_of}
use Rattle.step.specs.Promises.{offered, Move, starts, goes_on, hands_over, ends, is_left, index_at}
use Rattle.table.proofs.Sides.{place_number, same_index}
use Rattle.stays.specs.Stays.{Stays, none, run}
use Rattle.stays.specs.ParkTable.{machine}
use Rattle.stays.specs.Demand.{Act}
use Rattle.lamps.specs.declared.Endpoint.{Endpoint}
use Rattle.lamps.specs.declared.members.Indication.{Indication}
use Rattle.lamps.specs.declared.members.Indication.TheVariants.{On, Off}
use Rattle.lamps.specs.declared.members.Gp.TheVariants.{NotifyOffRequ}
use Rattle.lamps.specs.declared.members.Lamp.{Lamp}
use Rattle.lamps.specs.declared.members.Lamps.{Lamps}
use Rattle.lamps.specs.declared.notice.Notice.{Notice}
use Rattle.lamps.specs.declared.notice.Lit.{Lit}
use Rattle.lamps.specs.declared.reply.Reply.{Reply}
use Rattle.lamps.specs.declared.reply.Settlement.{Settlement}
use Rattle.lamps.specs.Members.{timers_of, gp_in, dark_lamp, blank_lamp, lamp_at}
use Rattle.lamps.specs.Notice.{is_over, new_lamp, lit_by}
use Rattle.lamps.specs.Reply.{replied}
use Rattle.lamps.specs.Served.{start}
use Rattle.lamps.specs.Runs.{Input, event, reply, endpoint_after, final, events_in}
use Rattle.lamps.specs.Promises.{LastStay, no_stay, last_stay, is_off, IsOfLastStay, PendingOff, LampsAgree, Replaces}
use Rattle.lamps.proofs.Accepted.{on_offer, sends, Came, refused, done, came}
use Rattle.lamps.proofs.Settling.{Settling, refuses, settles, settling}
use Rattle.lamps.proofs.Along.{act_of, fold_by, fold_step, Good, full, good_after, good_final, good_start}

-- ---- the lamp of a place

-- what a request leaves at its place, and elsewhere
abbrev shown_by : Option Indication → Answer → Lamp → Bool × List ℕ
shown_by None a x = (is_off x.indication, x.call)
shown_by (Some n) a x = (is_off n, a.call)

abbrev shown : Lamp → Bool × List ℕ
shown x = (is_off x.indication, x.call)

module _ (l : Lamps) (a : Answer) (i : ℕ) where
  lit_here : (asks : Option Indication) → i < length l.places → shown (lamp_at (lit_by l i a asks).lamps i) ≡ shown_by asks a (lamp_at l i)
  lit_here None h = refl
  lit_here (Some n) h = ap shown (get_or-set_same l.places i (new_lamp n a.call (up l.last)) blank_lamp h)

  lit_other : (asks : Option Indication) (j : ℕ) → j ≢ i → lamp_at (lit_by l i a asks).lamps j ≡ lamp_at l j
  lit_other None j h = refl
  lit_other (Some n) j h = get_or-set_other l.places i j (new_lamp n a.call (up l.last)) blank_lamp h

shown_set : (l : List Lamp) (i j : ℕ) (x : Lamp) → shown x ≡ shown (get_or l i blank_lamp) → shown (get_or (set l i x) j blank_lamp) ≡ shown (get_or l j blank_lamp)
shown_set [] i j x q = refl
shown_set (y ∷ ys) zero zero x q = q
shown_set (y ∷ ys) zero (suc j) x q = refl
shown_set (y ∷ ys) (suc i) zero x q = refl
shown_set (y ∷ ys) (suc i) (suc j) x q = shown_set ys i j x q

reply_shows : {l : Lamps} {r : Reply} {z : Settlement} → Settling l r z → (j : ℕ) → shown (lamp_at z.lamps j) ≡ shown (lamp_at l j)
reply_shows (refuses w) j = refl
reply_shows {l} {r} (settles {i} x) j = shown_set l.places i j (replied (lamp_at l i) r.member) refl

-- ---- the stay that was last at a place, input by input

abbrev now_at : ℕ → LastStay → Act → LastStay
now_at i before x = cond (eqb x.answer.place.0 (i + 1)) (record { call = x.answer.call; over = is_over x.answer.state }) before

abbrev last_by : ℕ → LastStay → Endpoint → Input → LastStay
last_by i = fold_by (now_at i)

-- ---- what a lamp shows, beside the record of its place and the last stay there

record Fits (x : Lamp) (r : Record) (last : LastStay) : Type 0 where
  offered_on : is_off x.indication ≡ not (offered r.state)
  held_call : is_free r.state ≡ false → x.call ≡ r.call
  over : is_off x.indication ≡ last.over
  call : x.call ≡ last.call

fits_shown : {x y : Lamp} {r : Record} {last : LastStay} → shown y ≡ shown x → Fits x r last → Fits y r last
fits_shown q f =
    let off = ap (λ p. p.0) q in
    let call = ap (λ p. p.1) q in
    record { offered_on = off ∙ f.offered_on; held_call = λ h. call ∙ f.held_call h; over = off ∙ f.over; call = call ∙ f.call }

-- what a move makes of a lamp, x before and y after it
record Moved (y : Lamp) (after : State) (a : Answer) : Type 0 where
  offered_on : is_off y.indication ≡ not (offered after)
  over : is_off y.indication ≡ is_over (state_number after)
  call : y.call ≡ a.call

moved : {before after : State} (m : Move before after) (x y : Lamp) (a : Answer) → shown y ≡ shown_by (sends m) a x → is_off x.indication ≡ not (offered before)
    → (is_free before ≡ false → x.call ≡ a.call) → Moved y after a
moved (starts {after} o) x y a q on held =
    let off = ap (λ p. p.0) q in
    record { offered_on = off ∙ rw o; over = off ∙ sym (on_offer after o).going; call = ap (λ p. p.1) q }
moved (goes_on {before} {after} o p) x y a q on held =
    let off = ap (λ p. p.0) q ∙ on ∙ ap not o in
    record { offered_on = off ∙ rw p; over = off ∙ sym (on_offer after p).going; call = ap (λ p. p.1) q ∙ held (on_offer before o).held }
moved (hands_over o) x y a q on held = record { offered_on = ap (λ p. p.0) q; over = ap (λ p. p.0) q; call = ap (λ p. p.1) q }
moved (ends o) x y a q on held = record { offered_on = ap (λ p. p.0) q; over = ap (λ p. p.0) q; call = ap (λ p. p.1) q }
moved is_left x y a q on held = record { offered_on = ap (λ p. p.0) q ∙ on; over = ap (λ p. p.0) q ∙ on; call = ap (λ p. p.1) q ∙ held refl }

abbrev FitsAt : Endpoint → ℕ → LastStay → Type 0
FitsAt s i last = Fits (lamp_at s.lamps i) (record_at s.table i) last

-- ---- one input

module _ (i : ℕ) (inside : i < place_count) (last : LastStay) (s : Endpoint) (st : Stays Act) (good : Good s st) (fits : FitsAt s i last) where
  event_fits : (e : Event) → Came s.lamps s.table e (step_of s.table e) → FitsAt (endpoint_after s (event e)) i (last_by i last s (event e))
  event_fits e (refused q same lit) = rw (lit, same, q) fits
  event_fits e (done x q from lit) = rw (lit, q) (by (ℕ_discrete i at))
    where
      a : Answer
      a = (step_of s.table e).answer

      at : ℕ
      at = index_at (step_of s.table e)

      number : a.place.0 ≡ at + 1
      number = ap (λ p. p.0) x.place ∙ place_number at x.inside

      lit_lamps : Lamps
      lit_lamps = (lit_by s.lamps at a (sends x.move)).lamps

      by : Dec (i ≡ at) → Fits (lamp_at lit_lamps i) (record_at (step_of s.table e).table i) (now_at i last (act_of s.table e))
      by (no n) =
          let elsewhere : eqb a.place.0 (i + 1) ≡ false = ne_eqb a.place.0 (i + 1) (λ w. n (omega (arith, number))) in
          rw (elsewhere, lit_other s.lamps a at (sends x.move) i n, x.others i n) fits
      by (yes w) =
          let here : eqb a.place.0 (i + 1) ≡ true = eq-eqb a.place.0 (i + 1) (omega (arith, number)) in
          let f : Fits (lamp_at s.lamps at) (record_at s.table at) last = subst (λ k. FitsAt s k last) w fits in
          let m = moved x.move (lamp_at s.lamps at) (lamp_at lit_lamps at) a
          (lit_here s.lamps a at (sends x.move) (omega (arith, x.inside, good.wide))) f.offered_on (λ h. f.held_call h ∙ x.call_before h) in
          let now : Fits (lamp_at lit_lamps at) (record_at (step_of s.table e).table at) (record { call = a.call; over = is_over a.state }) =
          record { offered_on = m.offered_on; held_call = λ h. m.call ∙ sym (x.call_after h); over = m.over ∙ sym (ap is_over x.state); call = m.call } in
          rw here (subst (λ k. Fits (lamp_at lit_lamps k) (record_at (step_of s.table e).table k) (record { call = a.call; over = is_over a.state })) (sym w) now)

  input_fits : (x : Input) → FitsAt (endpoint_after s x) i (last_by i last s x)
  input_fits (event e) = event_fits e (came s.lamps s.table e (full good))
  input_fits (reply r) = fits_shown (reply_shows (settling s.lamps good.wide r) i) fits

-- ---- along a run

run_fits : (i : ℕ) → i < place_count → (s : Endpoint) (st : Stays Act) → Good s st → (last : LastStay) → FitsAt s i last → (xs : List Input)
    → FitsAt (final s xs) i (last_stay i last (run machine s.table (events_in xs)))
run_fits i inside s st good last fits [] = fits
run_fits i inside s st good last fits (x ∷ xs) =
    subst (FitsAt (final s (x ∷ xs)) i) (sym (fold_step (now_at i) (last_stay i) (λ before y ys. refl) last s x xs))
    (run_fits i inside (endpoint_after s x) _ (good_after good x) (last_by i last s x) (input_fits i inside last s st good fits x) xs)

start_fits : (i : ℕ) → i < place_count → FitsAt start i no_stay
start_fits i inside =
    rw (get_or-replicate place_count i dark_lamp blank_lamp inside, get_or-replicate place_count i free_record blank inside)
    (record { offered_on = refl; held_call = λ h. never (sym h); over = refl; call = refl })

all_fit : (xs : List Input) (i : ℕ) → i < place_count → FitsAt (final start xs) i (last_stay i no_stay (run machine empty_table (events_in xs)))
all_fit xs i inside = run_fits i inside start none good_start no_stay (start_fits i inside) xs

pub of_last_stay : IsOfLastStay
of_last_stay xs i inside = let f = all_fit xs i inside in record { indication = f.over; call = f.call }

-- only a request for Off is awaited in GP-NotifyOffRequ
awaits_off : (n : Indication) (b : Bool) → gp_in n b ≡ NotifyOffRequ → is_off n ≡ true
awaits_off Off b h = refl
awaits_off On true h = absurd cc
awaits_off On false h = absurd cc

pub pending_off : PendingOff
pending_off xs i m inside h =
    let x = lamp_at (final start xs).lamps i in
    let f = all_fit xs i inside in
    (sym f.over ∙ awaits_off x.indication (get_or x.pending (m - 1) false) h, f.call)

pub lamps_agree : LampsAgree
lamps_agree xs i inside = let f = all_fit xs i inside in record { offered_on = f.offered_on; held_call = f.held_call }

-- ---- what a request replaces

-- a request is of the indication that was asked for, at the place of the answer
lit_asks : (l : Lamps) (i : ℕ) (a : Answer) (asks : Option Indication) (z : Notice) → (lit_by l i a asks).notice ≡ Some z → (asks ≡ Some z.asks) × (z.place ≡ a.place)
lit_asks l i a None z q = absurd cc
lit_asks l i a (Some n) z q =
    let is : z ≡ record { asks = n; call = a.call; place = a.place; invoke = up l.last; stopped = timers_of (lamp_at l i); started = timers_of (new_lamp n a.call (up l.last)) } = cc in
    rw is (refl, refl)

-- the request of a move, and what the lamp showed before it
other_before : {before after : State} (m : Move before after) (n : Indication) → sends m ≡ Some n → not (offered before) ≡ not (is_off n)
other_before (starts o) n q = let on : On ≡ n = cc q in rw (sym on)
other_before (goes_on o p) n q = absurd cc
other_before (hands_over o) n q = let off : Off ≡ n = cc q in rw (o, sym off)
other_before (ends o) n q = let off : Off ≡ n = cc q in rw (o, sym off)
other_before is_left n q = absurd cc

pub replaces : Replaces
replaces xs (reply r) z i inside q at = absurd (cc q)
replaces xs (event e) z i inside q at = by (came l t e (full (good_final start none good_start xs)))
  where
    l : Lamps
    l = (final start xs).lamps

    t : Table
    t = (final start xs).table

    a : Answer
    a = (step_of t e).answer

    by : Came l t e (step_of t e) → is_off (lamp_at l i).indication ≡ not (is_off z.asks)
    by (refused h same lit) = absurd (cc (sym (ap (λ (y : Lit). y.notice) lit) ∙ q))
    by (done x h from lit) =
        let here : ℕ = index_at (step_of t e) in
        let asked = lit_asks l here a (sends x.move) z (sym (ap (λ (y : Lit). y.notice) lit) ∙ q) in
        let same : i ≡ here = same_index i here inside x.inside (sym at ∙ asked.1 ∙ x.place) in
        (all_fit xs i inside).offered_on ∙ ap (λ (k : ℕ). not (offered (record_at t k).state)) same ∙ other_before x.move z.asks asked.0
