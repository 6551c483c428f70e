-- One turn of the table at one place: an event, as it is named, takes the record of a place to another and is answered. A turn opens
-- a stay, closes it, or carries it on (`Turned`, the view of one place as `Stepped` is of the table); each law of a turn is read
-- off the three cases, of which the mark leaves one.
use mathlib.Core.Path.{◌≡◌, refl, sym, ◌∙◌}
use mathlib.Core.Bool.{Bool, true, false}
use mathlib.Core.List.{List}
use Prim.Native.Nat.{ℕ, ◌<◌}
use lib.Dec.{eqb}
use borrow.Author.Tests.{eqb-true}
use Rattle.std.specs.Prelude.{Option, Some, None, Ok}
use Rattle.laws.proofs.Bools.{never, not_both}
use Rattle.table.specs.declared.Invoke.{Invoke}
use Rattle.table.specs.declared.State.{State}
use Rattle.table.specs.declared.State.TheVariants.{Free, HandedOver}
use Rattle.table.specs.declared.Side.{Side}
use Rattle.table.specs.declared.Record.{Record}
use Rattle.table.specs.Places.{state_number, side_at, place_at, no_invoke, free_record, place_count}
use Rattle.table.specs.Search.{holds}
use Rattle.table.proofs.Calls.{holds_occupied, occupied_holds}
use Rattle.events.specs.declared.Event.{Event}
use Rattle.events.specs.declared.Answer.{Answer}
use Rattle.events.specs.declared.rule.Rule.{Rule}
use Rattle.events.specs.declared.rule.Rule.TheVariants.{Start, On}
use Rattle.events.specs.declared.rule.Signal.{Signal}
use Rattle.events.specs.declared.rule.Signal.TheVariants.{PickupResult}
use Rattle.events.specs.declared.message.Message.{Message}
use Rattle.events.specs.declared.turn.Stage.{Stage}
use Rattle.events.specs.declared.turn.Stage.TheVariants.{Waits, Taken}
use Rattle.events.specs.declared.turn.Outcome.TheVariants.{Freed, Becomes}
use Rattle.events.specs.Rule.{rule_of}
use Rattle.events.specs.Turn.{state_at, held_record, greeting, turn_on}
use Rattle.events.proofs.Outcomes.{GoesOn, asked_here, asked_from, handed_over, turned_down, does}
use Rattle.events.specs.Answers.{accepted}
use Rattle.step.specs.Promises.{names_call, Move, starts as from-free, goes_on as still-offered, hands_over, ends as to_free, is_left}
use Rattle.step.proofs.Turns.{stage_occupied, move_on}
use Rattle.stays.specs.Stays.{starts, goes_on, ends}
use Rattle.stays.specs.ParkTable.{mark_by}

-- ---- the view

-- a signal, by name, on the call that the record holds
pub record Acts (k : Signal) (p : ℕ) (r : Record) (e : Event) : Type 0 where
  pub inside : p < place_count
  pub rule : rule_of e.kind ≡ Some (On k)
  pub named : names_call (Some (On k)) e ≡ true
  pub held : holds e.call r ≡ true

-- a park or an alert that proposes this place, which is free and of its side
pub record Proposes (d : Side) (p : ℕ) (r : Record) (e : Event) : Type 0 where
  pub inside : p < place_count
  pub rule : rule_of e.kind ≡ Some (Start d)
  pub side : side_at p ≡ d
  pub proposed : e.place ≡ place_at p
  pub was : r ≡ free_record

pub data Turned (p : ℕ) (r : Record) (e : Event) : Answer → Record → Type 0 where
  opened : (d : Side) → Proposes d p r e
      → Turned p r e (accepted p r.state (state_at (side_at p) Waits) e.call (greeting d) None) (held_record (side_at p) Waits e.call no_invoke)
  closed : (k : Signal) (first second : Option Message) → Acts k p r e → turn_on k (side_at p) r e ≡ Ok (Freed first second)
      → Turned p r e (accepted p r.state Free e.call first second) free_record
  carried : (k : Signal) (g : Stage) (n : Invoke) (m : Option Message) → Acts k p r e → turn_on k (side_at p) r e ≡ Ok (Becomes g n m)
      → Turned p r e (accepted p r.state (state_at (side_at p) g) e.call m None) (held_record (side_at p) g e.call n)

-- ---- marks and results

pub starts≢goes : starts ≡ goes_on → ⊥
starts≢goes h = cc

pub starts≢ends : starts ≡ ends → ⊥
starts≢ends h = cc

goes≢ends : goes_on ≡ ends → ⊥
goes≢ends h = cc

-- a rule is of one signal
pub one_signal : {x : Option Rule} {k j : Signal} → x ≡ Some (On k) → x ≡ Some (On j) → k ≡ j
one_signal {x} {k} {j} p q = let both : Some (On k) ≡ Some (On j) = sym p ∙ q in cc both

-- a kind 5 is a pickup result
result_rule : (kind : ℕ) → eqb kind 5 ≡ true → rule_of kind ≡ Some (On PickupResult)
result_rule kind five = let n : kind ≡ 5 = eqb-true kind 5 five in rw n

-- a call that is handed over is only ever left
only_left : {s u : State} → Move s u → s ≡ HandedOver → u ≡ Free
only_left (from-free o) q = absurd (cc q)
only_left (still-offered o n) q = never (rw q at o)
only_left (hands_over o) q = never (rw q at o)
only_left (to_free o) q = refl
only_left is_left q = refl

-- a result that does not end the stay hands the call over
pub hands : (a : Side) (r : Record) (e : Event) (g : Stage) (n : Invoke) (m : Option Message) → turn_on PickupResult a r e ≡ Ok (Becomes g n m) → g ≡ Taken
hands a r e g n m t = by g n m (rw t at (does PickupResult a r e))
  where
    by : (g : Stage) (n : Invoke) (m : Option Message) → GoesOn PickupResult r e g n m → g ≡ Taken
    by g n m (asked_here x w) = absurd (cc x)
    by g n m (asked_from x w) = absurd (cc x)
    by g n m (handed_over c w) = refl
    by g n m (turned_down x c w) = absurd (x refl)

-- the record of a stage holds its call
stage_holds : (a : Side) (g : Stage) (call : List ℕ) (n : Invoke) → holds call (held_record a g call n) ≡ true
stage_holds a g call n = occupied_holds call (held_record a g call n) (stage_occupied a g) refl

pub start_mark : {k : Option Rule} {d : Side} → k ≡ Some (Start d) → (n : ℕ) → mark_by k n ≡ starts
start_mark q n = rw q

-- ---- the laws of a turn

module _ {p : ℕ} {r : Record} {e : Event} where
  end_mark : {k : Signal} → Acts k p r e → mark_by (rule_of e.kind) 0 ≡ ends
  end_mark h = rw h.rule

  on_mark : {k : Signal} → Acts k p r e → (g : Stage) → mark_by (rule_of e.kind) (state_number (state_at (side_at p) g)) ≡ goes_on
  on_mark h g = let busy : eqb (state_number (state_at (side_at p) g)) 0 ≡ false = stage_occupied (side_at p) g in rw (h.rule, busy)

  pub inside : {a : Answer} {s : Record} → Turned p r e a s → p < place_count
  inside (opened d o) = o.inside
  inside (closed k first second h t) = h.inside
  inside (carried k g n m h t) = h.inside

  pub agrees : {a : Answer} {s : Record} → Turned p r e a s → eqb a.number 0 ≡ true
  agrees (opened d o) = refl
  agrees (closed k first second h t) = refl
  agrees (carried k g n m h t) = refl

  no_result : {d : Side} → Proposes d p r e → eqb e.kind 5 ≡ false
  no_result {d} o = by (eqb e.kind 5) refl
    where
      by : (b : Bool) → eqb e.kind 5 ≡ b → b ≡ false
      by false q = refl
      by true q = absurd (cc (sym o.rule ∙ result_rule e.kind q))

  pub at_start : {a : Answer} {s : Record} → Turned p r e a s → mark_by (rule_of e.kind) a.state ≡ starts
      → (r ≡ free_record) × (holds e.call s ≡ true) × (eqb e.kind 5 ≡ false)
  at_start (opened d o) m = (o.was, stage_holds (side_at p) Waits e.call no_invoke, no_result o)
  at_start (closed k first second h t) m = absurd (starts≢ends (sym m ∙ end_mark h))
  at_start (carried k g n w h t) m = absurd (starts≢goes (sym m ∙ on_mark h g))

  pub at_going : {a : Answer} {s : Record} → Turned p r e a s → mark_by (rule_of e.kind) a.state ≡ goes_on
      → (holds e.call r ≡ true) × (holds e.call s ≡ true)
  at_going (opened d o) m = absurd (starts≢goes (sym (start_mark o.rule _) ∙ m))
  at_going (closed k first second h t) m = absurd (goes≢ends (sym m ∙ end_mark h))
  at_going (carried k g n w h t) m = (h.held, stage_holds (side_at p) g e.call n)

  pub at_end : {a : Answer} {s : Record} → Turned p r e a s → mark_by (rule_of e.kind) a.state ≡ ends → (holds e.call r ≡ true) × (s ≡ free_record)
  at_end (opened d o) m = absurd (starts≢ends (sym (start_mark o.rule _) ∙ m))
  at_end (closed k first second h t) m = (h.held, refl)
  at_end (carried k g n w h t) m = absurd (goes≢ends (sym (on_mark h g) ∙ m))

  pub spends : {a : Answer} {s : Record} → Turned p r e a s → mark_by (rule_of e.kind) a.state ≡ goes_on → eqb e.kind 5 ≡ true → s.state ≡ HandedOver
  spends (opened d o) m f = absurd (not_both f (no_result o))
  spends (closed k first second h t) m f = absurd (goes≢ends (sym m ∙ end_mark h))
  spends (carried k g n w h t) m f =
      let same : k ≡ PickupResult = one_signal h.rule (result_rule e.kind f) in
      let taken : g ≡ Taken = hands (side_at p) r e g n w (rw same at t) in
      rw taken

  pub stays_spent : {a : Answer} {s : Record} → Turned p r e a s → mark_by (rule_of e.kind) a.state ≡ goes_on → r.state ≡ HandedOver
      → (eqb e.kind 5 ≡ false) × (s.state ≡ HandedOver)
  stays_spent (opened d o) m q = absurd (starts≢goes (sym (start_mark o.rule _) ∙ m))
  stays_spent (closed k first second h t) m q = absurd (goes≢ends (sym m ∙ end_mark h))
  stays_spent (carried k g n w h t) m q =
      let gone : state_at (side_at p) g ≡ Free = only_left (move_on k (side_at p) r e g n w (holds_occupied e.call r h.held) t) q in
      absurd (not_both (rw gone) (stage_occupied (side_at p) g))

  pub ends_spent : {a : Answer} {s : Record} → Turned p r e a s → mark_by (rule_of e.kind) a.state ≡ ends → r.state ≡ HandedOver → eqb e.kind 5 ≡ false
  ends_spent (opened d o) m q = no_result o
  ends_spent (carried k g n w h t) m q = absurd (goes≢ends (sym (on_mark h g) ∙ m))
  ends_spent (closed k first second h t) m q = by (eqb e.kind 5) refl
    where
      by : (b : Bool) → eqb e.kind 5 ≡ b → b ≡ false
      by false f = refl
      by true f =
          let same : k ≡ PickupResult = one_signal h.rule (result_rule e.kind f) in
          let result : turn_on PickupResult (side_at p) r e ≡ Ok (Freed first second) = rw same at t in
          absurd (cc (rw q at result))
