-- THE THEOREMS of `specs/Clause.antt` and `specs/Promises.antt`, by their names there: those that are short, and the others where they are proved.
use Rattle.std.proofs.Common.{◌≡◌, ℕ, ◌+◌, ◌%◌, ◌^◌, true, List, [], ◌∷◌, Option, None, Some, sym, refl, ap, ◌∙◌, subst, zero-add, arith}
use native.Mathlib.Nat.{mod-add-mod}
use Rattle.events.specs.declared.Event.{Event}
use Rattle.events.specs.declared.Answer.{Answer}
use Rattle.events.specs.Turn.{up}
use Rattle.step.specs.Step.{step_of}
use Rattle.step.specs.Promises.{index_at}
use Rattle.stays.specs.Stays.{one_if, Stays, none}
use Rattle.stays.specs.Demand.{Act}
use Rattle.lamps.specs.declared.Endpoint.{Endpoint}
use Rattle.lamps.specs.declared.members.Indication.{Indication}
use Rattle.lamps.specs.declared.members.Lamps.{Lamps}
use Rattle.lamps.specs.declared.notice.Notice.{Notice}
use Rattle.lamps.specs.declared.notice.Lit.{Lit}
use Rattle.lamps.specs.declared.reply.Reply.{Reply}
use Rattle.lamps.specs.declared.reply.Settlement.{Settlement}
use Rattle.lamps.specs.Members.{timers_of, is_member, lamp_at}
use Rattle.lamps.specs.Notice.{new_lamp, lit_by}
use Rattle.lamps.specs.Served.{start, lit_of}
use Rattle.lamps.specs.Runs.{Input, event, reply, endpoint_after, final, sum, is_request, request_to}
use Rattle.lamps.specs.Promises.{Unaltered, Numbered}
use Rattle.lamps.proofs.Accepted.{sends, Came, refused, done, came}
use Rattle.lamps.proofs.Settling.{Settling, refuses, settles, settling}
use Rattle.lamps.proofs.Along.{Good, full, good_after, good_final, good_start}
pub use Rattle.lamps.proofs.Clause.{follows_clause}
pub use Rattle.lamps.proofs.Clocks.{timers_run}
pub use Rattle.lamps.proofs.Counts.{each_on, each_off, same_numbers}
pub use Rattle.lamps.proofs.Last.{of_last_stay, pending_off, lamps_agree, replaces}
pub use Rattle.lamps.proofs.Replies.{replies_right}

pub unaltered : Unaltered
unaltered s [] = (refl, refl)
unaltered s (event e ∷ xs) =
    let rest = unaltered (endpoint_after s (event e)) xs in
    (ap (λ (l : List Answer). (step_of s.table e).answer ∷ l) rest.0, rest.1)
unaltered s (reply r ∷ xs) = unaltered (endpoint_after s (reply r)) xs

-- ---- numbers

-- the number of a request, and the number that is last after it: both are one above the last
record Counts (l : Lamps) (z : Lit) : Type 0 where
  carried : (y : Notice) → z.notice ≡ Some y → y.invoke.0 ≡ (l.last.0 + 1) % 2 ^ 16
  last : (m : ℕ) → is_member m ≡ true → (n : ℕ) → l.last.0 ≡ n % 2 ^ 16 → z.lamps.last.0 ≡ (n + one_if (is_request m z.notice)) % 2 ^ 16

counts : (l : Lamps) (i : ℕ) (a : Answer) (asks : Option Indication) → Counts l (lit_by l i a asks)
counts l i a None = record {
  carried = λ y q. absurd cc;
  last = λ m who n q. let same : n + 0 ≡ n = omega arith in rw same q;
}
counts l i a (Some k) = record {
  carried = λ y q.
      let is : record { asks = k; call = a.call; place = a.place; invoke = up l.last; stopped = timers_of (lamp_at l i); started = timers_of (new_lamp k a.call (up l.last)) } ≡ y = cc in
      rw (sym is);
  last = λ m who n q. rw (who, q) (mod-add-mod n (2 ^ 16) 1);
}

settled_last : {l : Lamps} {r : Reply} {z : Settlement} → Settling l r z → z.lamps.last ≡ l.last
settled_last (refuses w) = refl
settled_last (settles x) = refl

module _ (s : Endpoint) (st : Stays Act) (good : Good s st) where
  event_counts : (e : Event) → Counts s.lamps (lit_of s.lamps s.table e (step_of s.table e).answer)
  event_counts e = by (came s.lamps s.table e (full good))
    where
      a : Answer
      a = (step_of s.table e).answer

      by : Came s.lamps s.table e (step_of s.table e) → Counts s.lamps (lit_of s.lamps s.table e a)
      by (refused q same lit) = subst (Counts s.lamps) (sym lit) (counts s.lamps 0 a None)
      by (done x q from lit) = subst (Counts s.lamps) (sym lit) (counts s.lamps (index_at (step_of s.table e)) a (sends x.move))

  last_after_lem : (m : ℕ) → is_member m ≡ true → (x : Input) (n : ℕ) → s.lamps.last.0 ≡ n % 2 ^ 16 → (endpoint_after s x).lamps.last.0 ≡ (n + request_to m s x) % 2 ^ 16
  last_after_lem m who (event e) n q = (event_counts e).last m who n q
  last_after_lem m who (reply r) n q = let same : n + 0 ≡ n = omega arith in rw same (ap (λ k. k.0) (settled_last (settling s.lamps good.wide r)) ∙ q)

last_final : (m : ℕ) → is_member m ≡ true → (s : Endpoint) (st : Stays Act) → Good s st → (xs : List Input) (n : ℕ) → s.lamps.last.0 ≡ n % 2 ^ 16
    → (final s xs).lamps.last.0 ≡ (n + sum (request_to m) s xs) % 2 ^ 16
last_final m who s st good [] n q = let same : n + 0 ≡ n = omega arith in rw same q
last_final m who s st good (x ∷ xs) n q =
    last_final m who (endpoint_after s x) _ (good_after good x) xs (n + request_to m s x) (last_after_lem s st good m who x n q) ∙ ap (λ (k : ℕ). k % 2 ^ 16) (omega arith)

pub numbered : Numbered
numbered m who xs (reply r) z q = absurd (cc q)
numbered m who xs (event e) z q =
    let good = good_final start none good_start xs in
    let last = last_final m who start none good_start xs 0 refl ∙ ap (λ (k : ℕ). k % 2 ^ 16) (zero-add (sum (request_to m) start xs)) in
    (event_counts (final start xs) _ good e).carried z q ∙ rw last (mod-add-mod (sum (request_to m) start xs) (2 ^ 16) 1)
