-- What is promised of every run from the empty table: one page of statements, each proved under the name that stands beside it, in `proofs/`. The
-- stays are those of demand 3 (crate `stays`), counted there. Every count is taken over the calls that pass a test, so that it is said of all calls
-- together and of each call by itself.
use Rattle.std.specs.Prelude.{◌≡◌, ℕ, ◌+◌, ◌%◌, ◌^◌, ◌<◌, Bool, true, false, cond, not, ◌&&◌, ◌||◌, ◌⊎◌, List, [], ◌∷◌, length, Some, Ok, Err, ◌==◌, nat_eq}
use Rattle.table.specs.declared.Table.{Table}
use Rattle.table.specs.Places.{is_free, place_at, no_call, empty_table, record_at, place_count}
use Rattle.events.specs.declared.Event.{Event}
use Rattle.events.specs.declared.Answer.{Answer}
use Rattle.step.specs.Step.{step_of}
use Rattle.step.specs.Promises.{offered}
use Rattle.stays.specs.Stays.{one_if, count, run, all_stays}
use Rattle.stays.specs.Stays as Fold
use Rattle.stays.specs.ParkTable.{machine}
use Rattle.stays.specs.Demand.{Act, stays_of, state_after}
use Rattle.lamps.specs.declared.Endpoint.{Endpoint}
use Rattle.lamps.specs.declared.members.Indication.{Indication}
use Rattle.lamps.specs.declared.members.Indication.TheVariants.{On, Off}
use Rattle.lamps.specs.declared.members.Gp.TheVariants.{NotifyOffRequ}
use Rattle.lamps.specs.declared.members.Lamp.{Lamp}
use Rattle.lamps.specs.declared.members.Lamps.{Lamps}
use Rattle.lamps.specs.declared.notice.Notice.{Notice}
use Rattle.lamps.specs.declared.reply.Reply.{Reply}
use Rattle.lamps.specs.declared.reply.Settled.{Settled}
use Rattle.lamps.specs.declared.reply.ReplyRefusal.{ReplyRefusal}
use Rattle.lamps.specs.Members.{same_indication, awaits, gp_of, is_member, lamp_at}
use Rattle.lamps.specs.Notice.{starts_stay, is_over}
use Rattle.lamps.specs.Reply.{refusal_number, reply_number, settled_of}
use Rattle.lamps.specs.Served.{start, told_of}
use Rattle.lamps.specs.Runs.{Input, event, reply, final, sum, events_in, answers, notice_of, request_to, sent_to}

-- ---- "the call table, whose answers the lamps never alter"

abbrev pub table_answers : Table → List Event → List Answer
table_answers t [] = []
table_answers t (e ∷ es) = (step_of t e).answer ∷ table_answers (step_of t e).table es

-- `unaltered`: from any endpoint, the answers and the table are those of the table alone, at the events alone
abbrev pub Unaltered : Type 0
Unaltered = (s : Endpoint) (xs : List Input)
    → (answers s xs ≡ table_answers s.table (events_in xs)) × ((final s xs).table ≡ Fold.final machine s.table (events_in xs))

-- ---- one On and one Off

-- the stays of a run, ended and running: those of demand 3
abbrev pub stays_in : List Input → List (List Act)
stays_in xs = all_stays machine (stays_of (events_in xs))

-- the call of a stay: every answer in it names the same (`each_stay`, crate `stays`)
abbrev pub call_in : List Act → List ℕ
call_in [] = []
call_in (x ∷ xs) = x.answer.call

-- ended, or handed over: the state in which its events leave the place
abbrev pub is_over_stay : List Act → Bool
is_over_stay stay = is_over (state_after 0 stay)

-- `each_on`: "each member has had exactly one On for every stay begun"
abbrev pub EachOn : Type 0
EachOn = (f : List ℕ → Bool) (m : ℕ) → is_member m ≡ true → (xs : List Input) → sum (sent_to On f m) start xs ≡ count (λ stay. f (call_in stay)) (stays_in xs)

-- `each_off`: ".. and one Off for every stay ended or handed over"
abbrev pub EachOff : Type 0
EachOff = (f : List ℕ → Bool) (m : ℕ) → is_member m ≡ true → (xs : List Input)
    → sum (sent_to Off f m) start xs ≡ count (λ stay. is_over_stay stay && f (call_in stay)) (stays_in xs)

-- ---- begun, ended and handed over, counted from the answers

-- an event that is accepted, and of which this holds, for a call that passes the test
abbrev pub counted : (Event → Answer → Bool) → (List ℕ → Bool) → Endpoint → Input → ℕ
counted p f s (event e) = one_if (machine.accepted (told_of s e).answer && (p e (told_of s e).answer && f (told_of s e).answer.call))
counted p f s (reply r) = 0

-- was the call of the stay handed over, whether the stay has ended since or not?
abbrev pub was_handed_over : List Act → Bool
was_handed_over [] = false
was_handed_over (x ∷ xs) = x.answer.state == 5 || was_handed_over xs

-- `same_numbers`: an accepted park or alert begins a stay; an event that leaves state 0 ends one, and one that leaves state 5 hands it over
pub record SameNumbers (f : List ℕ → Bool) (xs : List Input) : Type 0 where
  pub begun : sum (counted (λ e a. starts_stay e.kind) f) start xs ≡ count (λ stay. f (call_in stay)) (stays_in xs)
  pub ended : sum (counted (λ e a. nat_eq a.state 0) f) start xs ≡ count (λ stay. f (call_in stay)) (stays_of (events_in xs)).ended
  pub handed_over : sum (counted (λ e a. nat_eq a.state 5) f) start xs ≡ count (λ stay. was_handed_over stay && f (call_in stay)) (stays_in xs)

abbrev pub AreSameNumbers : Type 0
AreSameNumbers = (f : List ℕ → Bool) (xs : List Input) → SameNumbers f xs

-- ---- the numbers

-- `numbered`: "Requests to one member are numbered on over all places from 1, with 0 after 65,535": after so many requests to a member, the next one
-- has the number one above
abbrev pub Numbered : Type 0
Numbered = (m : ℕ) → is_member m ≡ true → (xs : List Input) (x : Input) (z : Notice)
    → notice_of (final start xs) x ≡ Some z → z.invoke.0 ≡ (sum (request_to m) start xs + 1) % 2 ^ 16

-- ---- whose request it is

-- the stay that was last at a place: its call, and whether it is over
pub record LastStay : Type 0 where
  pub call : List ℕ
  pub over : Bool

abbrev pub no_stay : LastStay
no_stay = record { call = no_call; over = true }

-- .. told from the accepted events, the place having index i
abbrev pub last_stay : ℕ → LastStay → List Act → LastStay
last_stay i before [] = before
last_stay i before (x ∷ xs) = last_stay i (cond (x.answer.place.0 == i + 1) (record { call = x.answer.call; over = is_over x.answer.state }) before) xs

abbrev pub last_at : List Input → ℕ → LastStay
last_at xs i = last_stay i no_stay (run machine empty_table (events_in xs))

abbrev pub is_off : Indication → Bool
is_off n = same_indication n Off

-- the request last sent at a place, pending or not, is of the stay that was last there: Off from when that stay is over, and with its call
pub record OfLastStay (xs : List Input) (i : ℕ) : Type 0 where
  pub indication : is_off (lamp_at (final start xs).lamps i).indication ≡ (last_at xs i).over
  pub call : (lamp_at (final start xs).lamps i).call ≡ (last_at xs i).call

-- `of_last_stay`
abbrev pub IsOfLastStay : Type 0
IsOfLastStay = (xs : List Input) (i : ℕ) → i < place_count → OfLastStay xs i

-- `pending_off`: so a pending Off has the call of the stay that ended or was handed over there, and none is pending once the place is used again, since
-- the stay that is last there then is not over
abbrev pub PendingOff : Type 0
PendingOff = (xs : List Input) (i m : ℕ) → i < place_count → gp_of (lamp_at (final start xs).lamps i) m ≡ NotifyOffRequ
    → ((last_at xs i).over ≡ true) × ((lamp_at (final start xs).lamps i).call ≡ (last_at xs i).call)

-- at any moment, beside the table itself
pub record Agrees (s : Endpoint) (i : ℕ) : Type 0 where
  -- On exactly as long as the call is on offer
  pub offered_on : is_off (lamp_at s.lamps i).indication ≡ not (offered (record_at s.table i).state)
  -- and of the call that is held there
  pub held_call : is_free (record_at s.table i).state ≡ false → (lamp_at s.lamps i).call ≡ (record_at s.table i).call

-- `lamps_agree`
abbrev pub LampsAgree : Type 0
LampsAgree = (xs : List Input) (i : ℕ) → i < place_count → Agrees (final start xs) i

-- `replaces`: "Off replaces a pending On ..; On for a new stay replaces a pending Off": what stood there before was the other
abbrev pub Replaces : Type 0
Replaces = (xs : List Input) (x : Input) (z : Notice) (i : ℕ) → i < place_count → notice_of (final start xs) x ≡ Some z → z.place ≡ place_at i
    → is_off (lamp_at (final start xs).lamps i).indication ≡ not (is_off z.asks)

-- ---- which reply is accepted

-- "the pending request with all four": call, member, number and On or Off
pub record Named (r : Reply) (x : Lamp) : Type 0 where
  pub call : x.call ≡ r.call
  pub number : x.invoke.0 ≡ r.invoke.0
  pub indication : x.indication ≡ r.indication
  pub pending : gp_of x r.member ≡ awaits r.indication

-- it is at this place, and at no lower one
pub record Settles (l : Lamps) (r : Reply) (x : Settled) : Type 0 where
  pub at : ℕ
  pub inside : at < place_count
  pub place : x.place ≡ place_at at
  pub named : Named r (lamp_at l at)
  pub lowest : (j : ℕ) → j < at → Named r (lamp_at l j) → ⊥

pub record RepliesRight (l : Lamps) (r : Reply) : Type 0 where
  pub done : (x : Settled) → (settled_of l r).answer ≡ Ok x → (is_member r.member ≡ true) × Settles l r x
  pub no_member : reply_number (settled_of l r).answer ≡ 31 → is_member r.member ≡ false
  pub none_pending : reply_number (settled_of l r).answer ≡ 32 → (is_member r.member ≡ true) × ((j : ℕ) → j < place_count → Named r (lamp_at l j) → ⊥)
  -- there is no other number, and a refusal changes nothing
  pub else : (w : ReplyRefusal) → (settled_of l r).answer ≡ Err w → ((refusal_number w ≡ 31) ⊎ (refusal_number w ≡ 32)) × ((settled_of l r).lamps ≡ l)

-- `replies_right`: of any lamps
abbrev pub AreRepliesRight : Type 0
AreRepliesRight = (l : Lamps) (r : Reply) → length l.places ≡ place_count → RepliesRight l r
