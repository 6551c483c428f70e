-- Clause 7.6 by place and member: a request changes every member at its place and none elsewhere, a reply one member at one place.
use Rattle.std.proofs.Common.{◌≡◌, ℕ, zero, suc, ◌+◌, ◌-◌, ◌<◌, Bool, true, false, cond, eqb, List, [], ◌∷◌, Option, None, Some, length, get_or, set, sym, refl, ap, ◌∙◌, subst, arith, get_or-set_other, get_or-set_same, eq-eqb, ne_eqb}
use native.Mathlib.Decide.{ℕ_discrete}
use lib.ListN.{get_or-replicate, get_or-map}
use Rattle.laws.proofs.Bools.{and_left}
use Rattle.table.specs.Places.{place_at, place_count}
use Rattle.table.proofs.Sides.{place_number}
use Rattle.events.specs.declared.Answer.{Answer}
use Rattle.events.specs.Turn.{up}
use Rattle.step.specs.Step.{step_of}
use Rattle.step.specs.Promises.{index_at}
use Rattle.lamps.specs.declared.members.Indication.{Indication}
use Rattle.lamps.specs.declared.members.Indication.TheVariants.{On, Off}
use Rattle.lamps.specs.declared.members.Timer.{Timer}
use Rattle.lamps.specs.declared.members.Gp.{Gp}
use Rattle.lamps.specs.declared.members.Lamp.{Lamp}
use Rattle.lamps.specs.declared.members.Lamps.{Lamps}
use Rattle.lamps.specs.declared.notice.Lit.{Lit}
use Rattle.lamps.specs.declared.reply.Reply.{Reply}
use Rattle.lamps.specs.declared.reply.Settlement.{Settlement}
use Rattle.lamps.specs.Members.{timer_of, awaits, timer_in, gp_in, gp_of, timers_of, is_member, blank_lamp, lamp_at}
use Rattle.lamps.specs.Notice.{new_lamp, unlit, asked, lit_by}
use Rattle.lamps.specs.Reply.{same_request, replied, settled_at, settled_of}
use Rattle.lamps.specs.Served.{lit_of}
use Rattle.lamps.specs.Runs.{event, reply}
use Rattle.lamps.specs.Clause.{replies, nothing, next, started_by, stopped_by, member_in, member_at, asks_at, asks_start, asks_stop, settles_at, reply_stops, FollowsClause}
use Rattle.lamps.proofs.Numbers.{one_to}
use Rattle.lamps.proofs.Accepted.{Came, refused, done, came, sends}
use Rattle.lamps.proofs.Settling.{no_member, none_pending, Lowest, Settling, refuses, settles, settling}

-- of the timers at a place, that of a member
timer_at : (x : Lamp) (m : ℕ) → get_or (timers_of x) (m - 1) None ≡ timer_in (gp_of x m)
timer_at x m = get_or-map (λ pending. timer_in (gp_in x.indication pending)) x.pending (m - 1) false

-- ---- a request

-- what a notice that left these lamps says of a member at a place
record Asking (l : Lamps) (z : Lit) (i m : ℕ) : Type 0 where
  state : member_at z.lamps i m ≡ next (asks_at z.notice i) (member_at l i m)
  started : asks_start z.notice i m ≡ started_by (asks_at z.notice i)
  stopped : asks_stop z.notice i m ≡ stopped_by (asks_at z.notice i) (member_at l i m)

none_asked : (l : Lamps) (i m : ℕ) → Asking l (unlit l) i m
none_asked l i m = record { state = refl; started = refl; stopped = refl }

module _ (l : Lamps) (wide : length l.places ≡ place_count) (a : Answer) (n : Indication) (i j m : ℕ) (inside : j < place_count) (at : a.place ≡ place_at j) (who : is_member m ≡ true) where
  abbrev new : Lamp
  new = new_lamp n a.call (up l.last)

  number : a.place.0 ≡ j + 1
  number = ap (λ p. p.0) at ∙ place_number j inside

  waits : gp_of new m ≡ awaits n
  waits = let few = one_to 8 m who in rw (get_or-replicate 8 (m - 1) true false (omega (arith, few)))

  all_asked : Asking l (asked l j a n) i m
  all_asked = by (ℕ_discrete i j)
    where
      by : Dec (i ≡ j) → Asking l (asked l j a n) i m
      by (yes q) =
          let here : eqb a.place.0 (i + 1) ≡ true = eq-eqb a.place.0 (i + 1) (omega (arith, number)) in
          let put : lamp_at (asked l j a n).lamps i ≡ new = rw q (get_or-set_same l.places j new blank_lamp (omega arith)) in
          record {
            state = rw here (ap (λ (x : Lamp). member_in x m) put ∙ ap (λ (g : Gp). record { gp = g; call = a.call; number = (up l.last).0 }) waits);
            started = rw here (timer_at new m ∙ ap timer_in waits);
            stopped = rw here (timer_at (lamp_at l j) m ∙ rw q);
          }
      by (no q) =
          let other : eqb a.place.0 (i + 1) ≡ false = ne_eqb a.place.0 (i + 1) (λ e. q (omega (arith, number))) in
          record {
            state = rw other (ap (λ (x : Lamp). member_in x m) (get_or-set_other l.places j i new blank_lamp q));
            started = rw other;
            stopped = rw other;
          }

lit_asked : (l : Lamps) → length l.places ≡ place_count → (a : Answer) (asks : Option Indication) (i j m : ℕ) → j < place_count → a.place ≡ place_at j → is_member m ≡ true → Asking l (lit_by l j a asks) i m
lit_asked l wide a None i j m inside at who = none_asked l i m
lit_asked l wide a (Some n) i j m inside at who = all_asked l wide a n i j m inside at who

-- ---- a reply

record Replying (l : Lamps) (r : Reply) (z : Settlement) (i m : ℕ) : Type 0 where
  state : member_at z.lamps i m ≡ next (cond (settles_at z.answer r i m) replies nothing) (member_at l i m)
  stopped : reply_stops z.answer r i m ≡ stopped_by (cond (settles_at z.answer r i m) replies nothing) (member_at l i m)

runs : (n : Indication) → Some (timer_of n) ≡ timer_in (awaits n)
runs On = refl
runs Off = refl

cleared : (l : List Bool) (i : ℕ) → get_or (set l i false) i false ≡ false
cleared [] i = refl
cleared (b ∷ bs) zero = refl
cleared (b ∷ bs) (suc i) = cleared bs i

module _ (l : Lamps) (wide : length l.places ≡ place_count) (r : Reply) (i m : ℕ) (who : is_member m ≡ true) where
  module _ {j : ℕ} (x : Lowest l r j) where
    abbrev left : Lamp
    left = replied (lamp_at l j) r.member

    one_replies : Replying l r (settled_at l r j) i m
    one_replies = by (ℕ_discrete i j)
      where
        by : Dec (i ≡ j) → Replying l r (settled_at l r j) i m
        by (no q) =
            let other : eqb (place_at j).0 (i + 1) ≡ false = ne_eqb (place_at j).0 (i + 1) (λ e. q (omega (arith, place_number j x.inside))) in
            record { state = rw other (ap (λ (y : Lamp). member_in y m) (get_or-set_other l.places j i left blank_lamp q)); stopped = rw other }
        by (yes q) = of_member (ℕ_discrete r.member m)
          where
            here : eqb (place_at j).0 (i + 1) ≡ true
            here = eq-eqb (place_at j).0 (i + 1) (omega (arith, place_number j x.inside))

            put : lamp_at (settled_at l r j).lamps i ≡ left
            put = rw q (get_or-set_same l.places j left blank_lamp (omega (arith, x.inside)))

            of_member : Dec (r.member ≡ m) → Replying l r (settled_at l r j) i m
            of_member (no d) =
                let else : eqb r.member m ≡ false = ne_eqb r.member m d in
                let kept : get_or left.pending (m - 1) false ≡ get_or (lamp_at l j).pending (m - 1) false =
                get_or-set_other (lamp_at l j).pending (r.member - 1) (m - 1) false false (λ e. d (omega (arith, one_to 8 m who, one_to 8 r.member x.member))) in
                record { state = rw (here, else) (ap (λ (y : Lamp). member_in y m) put ∙ rw (kept, q)); stopped = rw (here, else) }
            of_member (yes d) =
                let this : eqb r.member m ≡ true = eq-eqb r.member m d in
                let still = and_left (get_or (lamp_at l j).pending (r.member - 1) false) (same_request r (lamp_at l j)) x.pending in
                let stood : gp_of (lamp_at l i) m ≡ awaits (lamp_at l j).indication = rw (q, ← d, still) in
                let none : get_or left.pending (m - 1) false ≡ false = rw (← d) (cleared (lamp_at l j).pending (r.member - 1)) in
                record { state = rw (here, this) (ap (λ (y : Lamp). member_in y m) put ∙ rw (none, q)); stopped = rw (here, this) (runs (lamp_at l j).indication ∙ sym (ap timer_in stood)) }

  reply_follows : {z : Settlement} → Settling l r z → Replying l r z i m
  reply_follows (refuses (no_member w)) = record { state = refl; stopped = refl }
  reply_follows (refuses (none_pending w none)) = record { state = refl; stopped = refl }
  reply_follows (settles x) = one_replies x

-- ---- THE CLAUSE

pub follows_clause : FollowsClause
follows_clause s (event e) full i m inside who =
    let f = by (came s.lamps s.table e full.0) in
    record { state = f.state; started = f.started; stopped = f.stopped }
  where
    by : Came s.lamps s.table e (step_of s.table e) → Asking s.lamps (lit_of s.lamps s.table e (step_of s.table e).answer) i m
    by (refused q same lit) = subst (λ z. Asking s.lamps z i m) (sym lit) (none_asked s.lamps i m)
    by (done x q from lit) =
        subst (λ z. Asking s.lamps z i m) (sym lit)
        (lit_asked s.lamps full.1 (step_of s.table e).answer (sends x.move) i (index_at (step_of s.table e)) m x.inside x.place who)
follows_clause s (reply r) full i m inside who =
    let f = reply_follows s.lamps full.1 r i m who (settling s.lamps full.1 r) in
    record { state = f.state; started = by (settles_at (settled_of s.lamps r).answer r i m); stopped = f.stopped }
  where
    by : (b : Bool) → ◌≡◌ {A = Option Timer} None (started_by (cond b replies nothing))
    by true = refl
    by false = refl
