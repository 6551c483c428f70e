-- Responses and expiries (document 02, Q-5; H.450.5, 7.6): "On receipt of a groupIndicationOn Return Result, Return Error or Reject APDU, the served
-- endpoint shall stop timer T4 and shall return to GP-Idle state.", and the same of Off and T5; "Expiry .. shall be treated the same as if a Reject
-- APDU had been received."
use Rattle.std.specs.Prelude.{ℕ, ◌-◌, Bool, false, cond, ◌&&◌, List, Option, None, Some, Result, Ok, Err, ◌==◌, slice_index_or, slice_set, position}
use Rattle.table.specs.Places.{place_at}
use Rattle.table.specs.Search.{same_call}
use Rattle.lamps.specs.declared.members.Lamp.{Lamp}
use Rattle.lamps.specs.declared.members.Lamps.{Lamps}
use Rattle.lamps.specs.declared.reply.Reply.{Reply}
use Rattle.lamps.specs.declared.reply.ReplyRefusal.{ReplyRefusal}
use Rattle.lamps.specs.declared.reply.ReplyRefusal.TheVariants.{NoSuchMember, NotPending}
use Rattle.lamps.specs.declared.reply.Settled.{Settled}
use Rattle.lamps.specs.declared.reply.Settlement.{Settlement}
use Rattle.lamps.specs.Members.{same_indication, timer_of, is_member, lamp_at}

-- "Responses and expiries name call, member, invoke number and On or Off": the request has this On or Off, this number and this call,
abbrev pub same_request : Reply → Lamp → Bool
same_request r x = same_indication x.indication r.indication && (x.invoke.0 == r.invoke.0 && same_call x.call r.call)

-- and it is pending to this member: "the pending request with all four"
abbrev pub is_pending : Reply → Lamp → Bool
is_pending r x = slice_index_or x.pending (r.member - 1) false && same_request r x

-- ".. at the lowest place if two match": the index
abbrev pub find_pending : Reply → List Lamp → Option ℕ
find_pending r = position (is_pending r)

-- the member is back in GP-Idle
abbrev pub replied : Lamp → ℕ → Lamp
replied x m = record { indication = x.indication; call = x.call; invoke = x.invoke; pending = slice_set x.pending (m - 1) false }

-- the timer of its request stops, which runs as long as that is pending
abbrev pub settled_at : Lamps → Reply → ℕ → Settlement
settled_at l r i = record {
  lamps = record { places = slice_set l.places i (replied (lamp_at l i) r.member); last = l.last };
  answer = Ok (record { place = place_at i; stopped = timer_of (lamp_at l i).indication });
}

-- a refusal changes nothing
abbrev pub refused_reply : Lamps → ReplyRefusal → Settlement
refused_reply l w = record { lamps = l; answer = Err w }

abbrev pub settled_by : Lamps → Reply → Option ℕ → Settlement
settled_by l r (Some i) = settled_at l r i
settled_by l r None = refused_reply l NotPending

-- "Refusals: 31 member not 1 to 8, 32 no such request pending, checked in that order."
abbrev pub refusal_number : ReplyRefusal → ℕ
refusal_number NoSuchMember = 31
refusal_number NotPending = 32

-- the number of a reply's answer: 0 where it settles a request
abbrev pub reply_number : Result Settled ReplyRefusal → ℕ
reply_number (Ok x) = 0
reply_number (Err w) = refusal_number w

abbrev pub settled_of : Lamps → Reply → Settlement
settled_of l r = cond (is_member r.member) (settled_by l r (find_pending r l.places)) (refused_reply l NoSuchMember)
