-- Who is told how a pickrequ came out: the last pickrequ of the stay. State 4 is entered by a pickrequ alone, which leaves its connection in
-- the record (`requested`); what happens in state 4 is told on the record's connection (`told_once`), and in no other state is anything told
-- (`told_nothing`). Along a stay, built event by event, the record and the list of events so far agree (`Agrees`).
use mathlib.Core.Path.{◌≡◌, refl, sym, ap, ◌∙◌, subst}
use mathlib.Core.List.{List, [], ◌∷◌, ◌++◌, append_assoc, append-nil}
use mathlib.Core.Logic.{⊎_elim}
use Prim.Native.Nat.{ℕ}
use native.Mathlib.Omega.{arith}
use Rattle.std.specs.Prelude.{Option, Some, Ok}
use Rattle.table.specs.declared.Invoke.{Invoke}
use Rattle.table.specs.declared.State.TheVariants.{RemoteRequested}
use Rattle.table.specs.declared.Side.{Side}
use Rattle.table.specs.declared.Side.TheVariants.{Position, Line}
use Rattle.table.specs.declared.Record.{Record}
use Rattle.table.specs.Places.{state_number, waiting_on, side_at}
use Rattle.events.specs.declared.Event.{Event}
use Rattle.events.specs.declared.Answer.{Answer}
use Rattle.events.specs.declared.rule.Rule.TheVariants.{On}
use Rattle.events.specs.declared.rule.Signal.{Signal}
use Rattle.events.specs.declared.rule.Signal.TheVariants.{PickRequest, PickupResult}
use Rattle.events.specs.declared.message.Message.{Message}
use Rattle.events.specs.declared.message.Message.TheVariants.{PickResult}
use Rattle.events.specs.declared.turn.Stage.{Stage}
use Rattle.events.specs.declared.turn.Outcome.TheVariants.{Freed, Becomes}
use Rattle.events.specs.Rule.{rule_of}
use Rattle.events.specs.Turn.{state_at, connection_at, turn_on}
use Rattle.events.specs.Reply.{replies, RepliesOnce}
use Rattle.events.proofs.Outcomes.{GoesOn, asked_here, asked_from, handed_over, turned_down, does}
use Rattle.events.proofs.Replies.{told, silent}
use Rattle.step.proofs.Turns.{result_in_4}
use Rattle.step.proofs.Pickers.{greeting_silent}
use Rattle.table.proofs.States.{same_number}
use Rattle.stays.specs.ParkTable.{machine}
use Rattle.stays.specs.Demand.{Act, LastRequest, asks, state_after, TellsRequester, AllTell, TellsItsRequester}
use Rattle.stays.proofs.Part.{Part, begun, onward, Whole, whole}
use Rattle.stays.proofs.Every.{every_stay}
use Rattle.stays.proofs.Turned.{Turned, opened, closed, carried, one_signal}
use Rattle.stays.proofs.TableLaws.{laws}
use Rattle.stays.proofs.EachStay.{answer_of}

-- ---- which turns lead to state 4

waits≢4 : (a : Side) → state_number (waiting_on a) ≡ 4 → ⊥
waits≢4 Position h = omega arith
waits≢4 Line h = omega arith

to_4 : (k : Signal) (a : Side) (r : Record) (e : Event) (g : Stage) (n : Invoke) (m : Option Message) → turn_on k a r e ≡ Ok (Becomes g n m)
    → state_number (state_at a g) ≡ 4 → (k ≡ PickRequest) × (connection_at g ≡ e.connection)
to_4 k a r e g n m t q = by g n m (rw t at (does k a r e)) q
  where
    by : (g : Stage) (n : Invoke) (m : Option Message) → GoesOn k r e g n m → state_number (state_at a g) ≡ 4 → (k ≡ PickRequest) × (connection_at g ≡ e.connection)
    by g n m (asked_here x w) h = absurd (omega arith)
    by g n m (asked_from x w) h = (x, refl)
    by g n m (handed_over c w) h = absurd (omega arith)
    by g n m (turned_down x c w) h = absurd (waits≢4 a h)

-- ---- one turn

module _ {p : ℕ} {r : Record} {e : Event} where
  requested : {a : Answer} {s : Record} → Turned p r e a s → state_number s.state ≡ 4 → (rule_of e.kind ≡ Some (On PickRequest)) × (s.connection ≡ e.connection)
  requested (opened d o) q = absurd (waits≢4 (side_at p) q)
  requested (closed k first second h t) q = absurd (omega arith)
  requested (carried k g n m h t) q = let f = to_4 k (side_at p) r e g n m t q in (h.rule ∙ ap (λ (s : Signal). Some (On s)) f.0, f.1)

  told_once : {a : Answer} {s : Record} → Turned p r e a s → state_number r.state ≡ 4 → RepliesOnce r.connection a.first a.second
  told_once (opened d o) q = absurd (let z : ◌≡◌ {A = ℕ} 0 4 = rw o.was at q in omega arith)
  told_once (closed k first second h t) q = rw t at (told k (side_at p) r e (same_number r.state RemoteRequested q))
  told_once (carried k g n m h t) q = (rw t at (told k (side_at p) r e (same_number r.state RemoteRequested q))).0

  told_result : {a : Answer} {s : Record} → Turned p r e a s → state_number r.state ≡ 4 → rule_of e.kind ≡ Some (On PickupResult) → a.first.message ≡ 5
  told_result (opened d o) q rule = absurd (cc (sym o.rule ∙ rule))
  told_result (closed k first second h t) q rule =
      let same : k ≡ PickupResult = one_signal h.rule rule in
      let five : turn_on PickupResult (side_at p) r e ≡ Ok (Freed first second) = rw same at t in
      ⊎_elim (λ w. absurd (cc (sym five ∙ w))) (λ w. absurd (cc (sym five ∙ w)))
      (result_in_4 (side_at p) r e (same_number r.state RemoteRequested q))
  told_result (carried k g n m h t) q rule =
      let same : k ≡ PickupResult = one_signal h.rule rule in
      let five : turn_on PickupResult (side_at p) r e ≡ Ok (Becomes g n m) = rw same at t in
      ⊎_elim (λ w. absurd (cc (sym five ∙ w)))
      (λ w. let said : m ≡ Some (PickResult r.connection) = cc (sym five ∙ w) in rw said)
      (result_in_4 (side_at p) r e (same_number r.state RemoteRequested q))

  told_nothing : {a : Answer} {s : Record} → Turned p r e a s → (state_number r.state ≡ 4 → ⊥) → replies a.first a.second ≡ 0
  told_nothing (opened d o) other = greeting_silent d
  told_nothing (closed k first second h t) other = rw t at (silent k (side_at p) r e (λ q. other (rw q)))
  told_nothing (carried k g n m h t) other = rw t at (silent k (side_at p) r e (λ q. other (rw q)))

-- ---- along a stay

pub state_snoc : (n : ℕ) (xs : List Act) (x : Act) → state_after n (xs ++ (x ∷ [])) ≡ x.answer.state
state_snoc n [] x = refl
state_snoc n (y ∷ xs) x = state_snoc y.answer.state xs x

tell_snoc : (before xs : List Act) (x : Act) → AllTell before xs → TellsRequester (before ++ xs) x → AllTell before (xs ++ (x ∷ []))
tell_snoc before [] x h t = (subst (λ l. TellsRequester l x) (append-nil before) t, tt)
tell_snoc before (y ∷ xs) x h t = (h.0, tell_snoc (before ++ (y ∷ [])) xs x h.1 (subst (λ l. TellsRequester l x) (sym (append_assoc before (y ∷ []) xs)) t))

-- the events so far and the record at their place
pub record Agrees (xs : List Act) (r : Record) : Type 0 where
  pub state : state_after 0 xs ≡ state_number r.state
  asked : state_number r.state ≡ 4 → LastRequest xs r.connection
  tell : AllTell [] xs

request : (xs : List Act) (x : Act) {p : ℕ} {r s : Record} → Turned p r x.event x.answer s → state_number s.state ≡ 4 → LastRequest (xs ++ (x ∷ [])) s.connection
request xs x turn q = let f = requested turn q in subst (LastRequest (xs ++ (x ∷ []))) (sym f.1) (asks xs x f.0)

tells : (xs : List Act) (x : Act) {p : ℕ} {r s : Record} → Agrees xs r → Turned p r x.event x.answer s → TellsRequester xs x
tells xs x {r} h turn = record {
  once = λ q. let four = sym h.state ∙ q in (r.connection, h.asked four, told_once turn four);
  result = λ q. told_result turn (sym h.state ∙ q);
  silent = λ other. told_nothing turn (λ four. other (h.state ∙ four));
}

pub part_agrees : {p : ℕ} {c : List ℕ} {xs : List Act} {r : Record} → Part machine laws p c xs r → Agrees xs r
part_agrees (begun {x} turn k q) = record {
  state = (answer_of turn).2;
  asked = request [] x turn;
  tell = (record { once = λ q. absurd (omega arith); result = λ q. absurd (omega arith); silent = λ other. told_nothing turn (λ q. omega arith) }, tt);
}
part_agrees (onward {xs} {x} h turn k q) =
    let before = part_agrees h in
    record {
      state = state_snoc 0 xs x ∙ (answer_of turn).2;
      asked = request xs x turn;
      tell = tell_snoc [] xs x before.tell (tells xs x before turn);
    }

whole_tells : {xs : List Act} → Whole machine laws xs → AllTell [] xs
whole_tells (whole {p} {c} {xs} {x} h turn k q) = let before = part_agrees h in tell_snoc [] xs x before.tell (tells xs x before turn)

pub tells_requester : TellsItsRequester
tells_requester es = every_stay machine laws (AllTell []) (λ p c xs r h. (part_agrees h).tell) (λ xs h. whole_tells h) es
