-- One On for every stay begun and one Off for every stay ended or handed over; begun, ended and handed over, counted from the answers. Each is the
-- growth of a number of the stays by one event (`Along`), by the five moves.
use Rattle.std.proofs.Common.{◌≡◌, ℕ, ◌+◌, Bool, true, false, cond, ◌&&◌, ◌||◌, eqb, List, [], ◌∷◌, ◌++◌, Option, None, Some, sym, refl, ap, ◌∙◌, zero-add, arith}
use Rattle.laws.proofs.Bools.{never, not_both}
use Rattle.table.specs.declared.State.{State}
use Rattle.table.specs.declared.Table.{Table}
use Rattle.table.specs.Places.{state_number, is_free, empty_table, record_at}
use Rattle.events.specs.declared.Event.{Event}
use Rattle.events.specs.declared.Answer.{Answer}
use Rattle.step.specs.Step.{step_of}
use Rattle.step.specs.Promises.{Move, starts, goes_on, hands_over, ends, is_left, index_at, AtOnePlace}
use Rattle.stays.specs.Stays.{one_if, count, Stay, Stays, none, run, stays, all_stays, each}
use Rattle.stays.specs.ParkTable.{machine}
use Rattle.stays.specs.Demand.{Act}
use Rattle.stays.proofs.Lists.{count_append}
use Rattle.stays.proofs.Requester.{state_snoc}
use Rattle.stays.proofs.Weights.{ended_weight, running_weight, weight}
use Rattle.lamps.specs.declared.Endpoint.{Endpoint}
use Rattle.lamps.specs.declared.members.Indication.{Indication}
use Rattle.lamps.specs.declared.members.Indication.TheVariants.{On, Off}
use Rattle.lamps.specs.declared.members.Lamps.{Lamps}
use Rattle.lamps.specs.declared.notice.Lit.{Lit}
use Rattle.lamps.specs.Members.{same_indication, is_member}
use Rattle.lamps.specs.Notice.{starts_stay, is_over, unlit, lit_by}
use Rattle.lamps.specs.Served.{start, lit_of}
use Rattle.lamps.specs.Runs.{Input, event, reply, sum, events_in, is_for, sent_to}
use Rattle.lamps.specs.Promises.{call_in, is_over_stay, EachOn, EachOff, counted, was_handed_over, AreSameNumbers}
use Rattle.lamps.proofs.Accepted.{on_offer, sends, Came, refused, done, came}
use Rattle.lamps.proofs.Along.{act_of, stays_by, Good, full, good_start, OldStay, Grown, anew, longer, handed_snoc, grown, adds_up}

-- ---- what is counted of stays is a weight of them

count_weight : (h : List Act → Bool) (xss : List (List Act)) → count h xss ≡ ended_weight (λ xs. one_if (h xs)) xss
count_weight h [] = refl
count_weight h (xs ∷ xss) = ap (λ (n : ℕ). one_if (h xs) + n) (count_weight h xss)

running_count : (h : List Act → Bool) (ss : List (Stay Act)) → count h (each ss) ≡ running_weight (λ xs. one_if (h xs)) ss
running_count h [] = refl
running_count h (s ∷ ss) = ap (λ (n : ℕ). one_if (h s.events) + n) (running_count h ss)

all_count : (h : List Act → Bool) (s : Stays Act) → count h (all_stays machine s) ≡ weight (λ xs. one_if (h xs)) s
all_count h s = omega (arith, count_append h s.ended (each s.running), count_weight h s.ended, running_count h s.running)

-- the call of a stay with one event more
call_snoc : (old : List Act) (x : Act) → call_in old ≡ x.answer.call → call_in (old ++ (x ∷ [])) ≡ x.answer.call
call_snoc [] x q = refl
call_snoc (y ∷ old) x q = q

over_snoc : (old : List Act) (x : Act) → is_over_stay (old ++ (x ∷ [])) ≡ is_over x.answer.state
over_snoc old x = ap is_over (state_snoc 0 old x)

-- ---- by the moves

-- what a move sends is an On, or an Off
abbrev is_asked : Indication → Option Indication → Bool
is_asked n None = false
is_asked n (Some k) = same_indication n k

handed_anew : {before after : State} (m : Move before after) → is_free before ≡ true → eqb (state_number after) 5 ≡ false
handed_anew (starts {after} o) h = (on_offer after o).due
handed_anew (goes_on {before} o p) h = absurd (not_both h (on_offer before o).held)
handed_anew (hands_over {before} o) h = absurd (not_both h (on_offer before o).held)
handed_anew (ends {before} o) h = refl
handed_anew is_left h = refl

-- v tells whether the call is counted
module _ (v : Bool) where
  on_anew : {before after : State} (m : Move before after) → is_free before ≡ true → one_if (is_asked On (sends m) && v) ≡ one_if v
  on_anew (starts o) h = refl
  on_anew (goes_on {before} o p) h = absurd (not_both h (on_offer before o).held)
  on_anew (hands_over {before} o) h = absurd (not_both h (on_offer before o).held)
  on_anew (ends {before} o) h = absurd (not_both h (on_offer before o).held)
  on_anew is_left h = never h

  on_longer : {before after : State} (m : Move before after) → is_free before ≡ false → one_if (is_asked On (sends m) && v) ≡ 0
  on_longer (starts o) h = never (sym h)
  on_longer (goes_on o p) h = refl
  on_longer (hands_over o) h = refl
  on_longer (ends o) h = refl
  on_longer is_left h = refl

  off_anew : {before after : State} (m : Move before after) → is_free before ≡ true → one_if (is_asked Off (sends m) && v) ≡ one_if (is_over (state_number after) && v)
  off_anew (starts {after} o) h = rw (on_offer after o).going
  off_anew (goes_on {before} o p) h = absurd (not_both h (on_offer before o).held)
  off_anew (hands_over {before} o) h = absurd (not_both h (on_offer before o).held)
  off_anew (ends {before} o) h = absurd (not_both h (on_offer before o).held)
  off_anew is_left h = never h

  off_longer : {before after : State} (m : Move before after) → is_free before ≡ false
      → one_if (is_asked Off (sends m) && v) + one_if (is_over (state_number before) && v) ≡ one_if (is_over (state_number after) && v)
  off_longer (starts o) h = never (sym h)
  off_longer (goes_on {before} {after} o p) h = rw ((on_offer before o).going, (on_offer after p).going)
  off_longer (hands_over {before} o) h = rw (on_offer before o).going (omega arith)
  off_longer (ends {before} o) h = rw (on_offer before o).going (omega arith)
  off_longer is_left h = omega arith

  handed_longer : {before after : State} (m : Move before after) → is_free before ≡ false
      → one_if (eqb (state_number after) 5 && v) + one_if (eqb (state_number before) 5 && v) ≡ one_if ((eqb (state_number before) 5 || eqb (state_number after) 5) && v)
  handed_longer (starts o) h = never (sym h)
  handed_longer (goes_on {before} {after} o p) h = rw ((on_offer before o).due, (on_offer after p).due)
  handed_longer (hands_over {before} o) h = rw (on_offer before o).due (omega arith)
  handed_longer (ends {before} o) h = rw (on_offer before o).due
  handed_longer is_left h = omega arith

-- ---- one event

-- a number that is that of the new stay, or the growth of that of the old one, is the growth of the sum
grows : {st st' : Stays Act} {x : Act} {before : State} → Grown st st' x before → (g : List Act → ℕ) (w : ℕ) → (is_free before ≡ true → w ≡ g (x ∷ []))
    → ((old : List Act) → is_free before ≡ false → OldStay old before x.answer.call → w + g old ≡ g (old ++ (x ∷ []))) → w + weight g st ≡ weight g st'
grows (anew free state more same) g w new old = omega (arith, more g, new free)
grows (longer stay busy so_far more closed) g w new old = omega (arith, more g, old stay busy so_far)

module _ (f : List ℕ → Bool) where
  -- what a notice has for the member
  noticed_lit : (n : Indication) (m : ℕ) → is_member m ≡ true → (l : Lamps) (i : ℕ) (a : Answer) (asks : Option Indication)
      → one_if (is_for n f m (lit_by l i a asks).notice) ≡ one_if (is_asked n asks && f a.call)
  noticed_lit n m who l i a None = refl
  noticed_lit n m who l i a (Some k) = rw who

  -- the numbers of a stay, where its call is counted
  abbrev of_stay : List Act → ℕ
  of_stay xs = one_if (f (call_in xs))

  abbrev of_over : List Act → ℕ
  of_over xs = one_if (is_over_stay xs && f (call_in xs))

  abbrev of_handed : List Act → ℕ
  of_handed xs = one_if (was_handed_over xs && f (call_in xs))

  module _ (s : Endpoint) (st : Stays Act) (good : Good s st) (e : Event) where
    abbrev t : Table
    t = s.table

    abbrev a : Answer
    a = (step_of t e).answer

    -- a refused event sends nothing, and the stays are as they were
    kept : (m : ℕ) (n : Indication) (g : List Act → ℕ) → eqb a.number 0 ≡ false → lit_of s.lamps t e a ≡ unlit s.lamps
        → sent_to n f m s (event e) + weight g st ≡ weight g (stays_by st s (event e))
    kept m n g q lit =
        let silent : sent_to n f m s (event e) ≡ 0 = ap (λ (z : Lit). one_if (is_for n f m z.notice)) lit in
        rw q (omega (arith, silent))

    -- an event that is done: by how the stays grow
    module _ (x : AtOnePlace t (step_of t e)) (q : eqb a.number 0 ≡ true) where
      abbrev before : State
      before = (record_at t (index_at (step_of t e))).state

      grew : Grown st (stays_by st s (event e)) (act_of t e) before
      grew = grown good e q

      begun_grows : starts_stay e.kind ≡ is_free before → counted (λ e a. starts_stay e.kind) f s (event e) + weight of_stay st ≡ weight of_stay (stays_by st s (event e))
      begun_grows from =
          grows grew of_stay (counted (λ e a. starts_stay e.kind) f s (event e)) (λ h. rw (q, from ∙ h))
          (λ old h o. rw (call_snoc old (act_of t e) o.call_is, o.call_is, q, from ∙ h) (omega arith))

      handed_grows : counted (λ e a. eqb a.state 5) f s (event e) + weight of_handed st ≡ weight of_handed (stays_by st s (event e))
      handed_grows =
          grows grew of_handed (counted (λ e a. eqb a.state 5) f s (event e)) (λ h. rw (q, x.state, handed_anew x.move h))
          (λ old h o. rw (handed_snoc old (act_of t e), call_snoc old (act_of t e) o.call_is, o.call_is, o.handed, q, x.state) (handed_longer (f a.call) x.move h))

      ended_grows : counted (λ e a. eqb a.state 0) f s (event e) + ended_weight of_stay st.ended ≡ ended_weight of_stay (stays_by st s (event e)).ended
      ended_grows = by grew
        where
          by : Grown st (stays_by st s (event e)) (act_of t e) before
              → counted (λ e a. eqb a.state 0) f s (event e) + ended_weight of_stay st.ended ≡ ended_weight of_stay (stays_by st s (event e)).ended
          by (anew free state more same) = rw (same, q, state) (omega arith)
          by (longer old busy o more closed) = rw (closed of_stay, call_snoc old (act_of t e) o.call_is, q) (sum_of (eqb a.state 0))
            where
              sum_of : (b : Bool) → one_if (b && f a.call) + ended_weight of_stay st.ended ≡ ended_weight of_stay st.ended + cond b (one_if (f a.call)) 0
              sum_of true = omega arith
              sum_of false = omega arith

      -- .. and by what it sends
      module _ (m : ℕ) (who : is_member m ≡ true) (lit : lit_of s.lamps t e a ≡ lit_by s.lamps (index_at (step_of t e)) a (sends x.move)) where
        said : (n : Indication) → sent_to n f m s (event e) ≡ one_if (is_asked n (sends x.move) && f a.call)
        said n = ap (λ (z : Lit). one_if (is_for n f m z.notice)) lit ∙ noticed_lit n m who s.lamps (index_at (step_of t e)) a (sends x.move)

        on_grows : sent_to On f m s (event e) + weight of_stay st ≡ weight of_stay (stays_by st s (event e))
        on_grows =
            grows grew of_stay (sent_to On f m s (event e)) (λ h. said On ∙ on_anew (f a.call) x.move h)
            (λ old h o. rw (call_snoc old (act_of t e) o.call_is, o.call_is) (omega (arith, said On, on_longer (f a.call) x.move h)))

        off_grows : sent_to Off f m s (event e) + weight of_over st ≡ weight of_over (stays_by st s (event e))
        off_grows =
            grows grew of_over (sent_to Off f m s (event e)) (λ h. said Off ∙ rw x.state (off_anew (f a.call) x.move h))
            (λ old h o. rw (over_snoc old (act_of t e), call_snoc old (act_of t e) o.call_is, o.call_is, o.state, x.state, said Off) (off_longer (f a.call) x.move h))

  -- ---- one input

  -- what is sent to the member, with a number of the stays that grows by it
  once_sent : (m : ℕ) (n : Indication) (g : List Act → ℕ)
      → ((s : Endpoint) (st : Stays Act) (good : Good s st) (e : Event) (x : AtOnePlace s.table (step_of s.table e)) → eqb (step_of s.table e).answer.number 0 ≡ true
      → lit_of s.lamps s.table e (step_of s.table e).answer ≡ lit_by s.lamps (index_at (step_of s.table e)) (step_of s.table e).answer (sends x.move)
      → sent_to n f m s (event e) + weight g st ≡ weight g (stays_by st s (event e)))
      → (s : Endpoint) (st : Stays Act) → Good s st → (x : Input) → sent_to n f m s x + weight g st ≡ weight g (stays_by st s x)
  once_sent m n g grows-by s st good (event e) = by (came s.lamps s.table e (full good))
    where
      by : Came s.lamps s.table e (step_of s.table e) → sent_to n f m s (event e) + weight g st ≡ weight g (stays_by st s (event e))
      by (refused q same lit) = kept s st good e m n g q lit
      by (done x q from lit) = grows-by s st good e x q lit
  once_sent m n g grows-by s st good (reply r) = zero-add (weight g st)

  -- what is counted of the answers, with a number of the stays that grows by it
  once_counted : (p : Event → Answer → Bool) (total : Stays Act → ℕ)
      → ((s : Endpoint) (st : Stays Act) → Good s st → (e : Event) (x : AtOnePlace s.table (step_of s.table e)) → eqb (step_of s.table e).answer.number 0 ≡ true
      → starts_stay e.kind ≡ is_free (record_at s.table (index_at (step_of s.table e))).state → counted p f s (event e) + total st ≡ total (stays_by st s (event e)))
      → (s : Endpoint) (st : Stays Act) → Good s st → (x : Input) → counted p f s x + total st ≡ total (stays_by st s x)
  once_counted p total grows-by s st good (event e) = by (came s.lamps s.table e (full good))
    where
      by : Came s.lamps s.table e (step_of s.table e) → counted p f s (event e) + total st ≡ total (stays_by st s (event e))
      by (refused q same lit) = rw q (zero-add (total st))
      by (done x q from lit) = grows-by s st good e x q from
  once_counted p total grows-by s st good (reply r) = zero-add (total st)

-- ---- THE COUNTS

-- from the empty table on there is nothing to begin with
from_start : (w : Endpoint → Input → ℕ) (total : Stays Act → ℕ) → total none ≡ 0 → ((s : Endpoint) (st : Stays Act) → Good s st → (x : Input) → w s x + total st ≡ total (stays_by st s x))
    → (xs : List Input) → sum w start xs ≡ total (stays machine none (run machine empty_table (events_in xs)))
from_start w total zero once xs = omega (arith, zero, adds_up w total once start none good_start xs)

pub each_on : EachOn
each_on f m who xs =
    from_start (sent_to On f m) (weight (of_stay f)) refl
    (once_sent f m On (of_stay f) (λ s st good e x q lit. on_grows f s st good e x q m who lit)) xs
    ∙ sym (all_count (λ stay. f (call_in stay)) (stays machine none (run machine empty_table (events_in xs))))

pub each_off : EachOff
each_off f m who xs =
    from_start (sent_to Off f m) (weight (of_over f)) refl
    (once_sent f m Off (of_over f) (λ s st good e x q lit. off_grows f s st good e x q m who lit)) xs
    ∙ sym (all_count (λ stay. is_over_stay stay && f (call_in stay)) (stays machine none (run machine empty_table (events_in xs))))

pub same_numbers : AreSameNumbers
same_numbers f xs =
    let st : Stays Act = stays machine none (run machine empty_table (events_in xs)) in
    record {
      begun =
          from_start (counted (λ e a. starts_stay e.kind) f) (weight (of_stay f)) refl
          (once_counted f (λ e a. starts_stay e.kind) (weight (of_stay f)) (λ s st good e x q from. begun_grows f s st good e x q from)) xs
          ∙ sym (all_count (λ stay. f (call_in stay)) st);
      ended =
          from_start (counted (λ e a. eqb a.state 0) f) (λ s. ended_weight (of_stay f) s.ended) refl
          (once_counted f (λ e a. eqb a.state 0) (λ s. ended_weight (of_stay f) s.ended) (λ s st good e x q from. ended_grows f s st good e x q)) xs
          ∙ sym (count_weight (λ stay. f (call_in stay)) st.ended);
      handed_over =
          from_start (counted (λ e a. eqb a.state 5) f) (weight (of_handed f)) refl
          (once_counted f (λ e a. eqb a.state 5) (weight (of_handed f)) (λ s st good e x q from. handed_grows f s st good e x q)) xs
          ∙ sym (all_count (λ stay. was_handed_over stay && f (call_in stay)) st);
    }
