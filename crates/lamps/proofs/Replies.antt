-- Which replies are accepted: 31, 32 and 0 say exactly what the request says of them, and a refusal changes nothing. The test that the code runs is the
-- four facts (`named_of_test`, `test_of_named`).
use Rattle.std.proofs.Common.{◌≡◌, ℕ, ◌-◌, Bool, true, false, ◌&&◌, ◌⊎◌, cond, eqb, get_or, sym, refl, inl, inr, arith, eq-eqb, eqb-true}
use Rattle.laws.proofs.Bools.{never, and_left, and_right, and_both, not_both}
use Rattle.table.specs.Places.{place_at}
use Rattle.table.specs.Search.{same_call}
use Rattle.table.proofs.Calls.{same_is, same_self}
use Rattle.lamps.specs.declared.members.Indication.{Indication}
use Rattle.lamps.specs.declared.members.Indication.TheVariants.{On, Off}
use Rattle.lamps.specs.declared.members.Lamp.{Lamp}
use Rattle.lamps.specs.declared.reply.Reply.{Reply}
use Rattle.lamps.specs.declared.reply.ReplyRefusal.{ReplyRefusal}
use Rattle.lamps.specs.declared.reply.ReplyRefusal.TheVariants.{NoSuchMember, NotPending}
use Rattle.lamps.specs.declared.reply.Settlement.{Settlement}
use Rattle.lamps.specs.Members.{same_indication, timer_of, awaits, gp_in, lamp_at}
use Rattle.lamps.specs.Reply.{same_request, is_pending, refusal_number, settled_of}
use Rattle.lamps.specs.Promises.{Named, RepliesRight, AreRepliesRight}
use Rattle.lamps.proofs.Settling.{no_member, none_pending, Settling, refuses, settles, settling}

-- ---- the test, and the four facts

same_indication_lem : (n k : Indication) → same_indication n k ≡ true → n ≡ k
same_indication_lem On On h = refl
same_indication_lem On Off h = never h
same_indication_lem Off On h = never h
same_indication_lem Off Off h = refl

indication_self : (n : Indication) → same_indication n n ≡ true
indication_self On = refl
indication_self Off = refl

-- a member that awaits the reply has still to reply
is_waiting : (n : Indication) (b : Bool) → gp_in n b ≡ awaits n → b ≡ true
is_waiting n true h = refl
is_waiting On false h = absurd cc
is_waiting Off false h = absurd cc

module _ (r : Reply) (x : Lamp) where
  abbrev waiting : Bool
  waiting = get_or x.pending (r.member - 1) false

  abbrev alike : Bool
  alike = same_indication x.indication r.indication

  abbrev numbered : Bool
  numbered = eqb x.invoke.0 r.invoke.0

  abbrev called : Bool
  called = same_call x.call r.call

  named_of_test : is_pending r x ≡ true → Named r x
  named_of_test h =
      let rest = and_right waiting (same_request r x) h in
      let both = and_right alike (numbered && called) rest in
      let same : x.indication ≡ r.indication = same_indication_lem x.indication r.indication (and_left alike (numbered && called) rest) in
      record {
        call = same_is x.call r.call (and_right numbered called both);
        number = eqb-true x.invoke.0 r.invoke.0 (and_left numbered called both);
        indication = same;
        pending = rw (and_left waiting (same_request r x) h, same);
      }

  test_of_named : Named r x → is_pending r x ≡ true
  test_of_named n =
      let is : waiting ≡ true = is_waiting r.indication waiting (rw n.indication at n.pending) in
      let sort : alike ≡ true = rw n.indication (indication_self r.indication) in
      let tells : numbered ≡ true = eq-eqb x.invoke.0 r.invoke.0 n.number in
      let whose : called ≡ true = rw n.call (same_self r.call) in
      and_both is (and_both sort (and_both tells whose))

  not_named : is_pending r x ≡ false → Named r x → ⊥
  not_named h n = not_both (test_of_named n) h

-- ---- THE REPLIES

one_of_two : (n : ℕ) → cond (eqb n 31) true (eqb n 32) ≡ true → (n ≡ 31) ⊎ (n ≡ 32)
one_of_two n h = by (eqb n 31) (eqb n 32) refl refl h
  where
    by : (a b : Bool) → eqb n 31 ≡ a → eqb n 32 ≡ b → cond a true b ≡ true → (n ≡ 31) ⊎ (n ≡ 32)
    by true b p q h = inl (eqb-true n 31 p)
    by false true p q h = inr (eqb-true n 32 q)
    by false false p q h = never h

no_other : (w : ReplyRefusal) → cond (eqb (refusal_number w) 31) true (eqb (refusal_number w) 32) ≡ true
no_other NoSuchMember = refl
no_other NotPending = refl

pub replies_right : AreRepliesRight
replies_right l r wide = by (settling l wide r) refl
  where
    by : {z : Settlement} → Settling l r z → settled_of l r ≡ z → RepliesRight l r
    by (settles {i} x) is = record {
      done = λ y q.
          let same : record { place = place_at i; stopped = timer_of (lamp_at l i).indication } ≡ y = cc (rw is at q) in (
            x.member,
            record {
              at = i;
              inside = x.inside;
              place = rw (sym same);
              named = named_of_test r (lamp_at l i) x.pending;
              lowest = λ j w. not_named r (lamp_at l j) (x.first j w);
            },
          );
      no_member = λ q. absurd (let z : ◌≡◌ {A = ℕ} 0 31 = rw is at q in omega arith);
      none_pending = λ q. absurd (let z : ◌≡◌ {A = ℕ} 0 32 = rw is at q in omega arith);
      else = λ w q. absurd (cc (rw is at q));
    }
    by (refuses (none_pending who none)) is = record {
      done = λ y q. absurd (cc (rw is at q));
      no_member = λ q. absurd (let z : ◌≡◌ {A = ℕ} 32 31 = rw is at q in omega arith);
      none_pending = λ q. (who, λ j w. not_named r (lamp_at l j) (none j w));
      else = λ w q. (one_of_two (refusal_number w) (no_other w), rw is);
    }
    by (refuses (no_member who)) is = record {
      done = λ y q. absurd (cc (rw is at q));
      no_member = λ q. who;
      none_pending = λ q. absurd (let z : ◌≡◌ {A = ℕ} 31 32 = rw is at q in omega arith);
      else = λ w q. (one_of_two (refusal_number w) (no_other w), rw is);
    }
