-- What an accepted event sends to the members (document 02, Q-5; H.450.5, 7.6).
use Rattle.std.specs.Prelude.{ℕ, Bool, true, cond, ◌||◌, List, replicate, Option, None, Some, ◌==◌, slice_set}
use Rattle.table.specs.declared.Invoke.{Invoke}
use Rattle.table.specs.declared.State.{State}
use Rattle.table.specs.Places.{state_number}
use Rattle.events.specs.declared.Answer.{Answer}
use Rattle.events.specs.Turn.{up}
use Rattle.lamps.specs.declared.members.Indication.{Indication}
use Rattle.lamps.specs.declared.members.Indication.TheVariants.{On, Off}
use Rattle.lamps.specs.declared.members.Lamp.{Lamp}
use Rattle.lamps.specs.declared.members.Lamps.{Lamps}
use Rattle.lamps.specs.declared.notice.Lit.{Lit}
use Rattle.lamps.specs.Members.{timers_of, lamp_at}

-- ---- whether a request is sent

-- kinds 1 and 2, park and alert
abbrev pub starts_stay : ℕ → Bool
starts_stay kind = kind == 1 || kind == 2

-- the state after an event with which the offer of a call is over: the stay has ended, or the call is handed over by a pickup result
abbrev pub is_over : ℕ → Bool
is_over state = state == 0 || state == 5

-- the call has had its Off in this stay, at the result: it is in state 5
abbrev pub had_off : State → Bool
had_off s = state_number s == 5

-- "An accepted park or alert sends groupIndicationOn to each member. Off is sent once in a stay: at an accepted pickup result or, house rule, at any
-- other end." A pickup result leads to state 5 or frees the place, and so does any other end
abbrev pub asks_for : ℕ → State → ℕ → Option Indication
asks_for kind before after = cond (starts_stay kind) (Some On) (cond (had_off before) None (cond (is_over after) (Some Off) None))

-- ---- the request

abbrev pub unlit : Lamps → Lit
unlit l = record { lamps = l; notice = None }

-- pending to each member
abbrev pub new_lamp : Indication → List ℕ → Invoke → Lamp
new_lamp n call invoke = record { indication = n; call = call; invoke = invoke; pending = replicate 8 true }

-- The request to each member has the call and the place of the answer and the number after the last: "0 after 65,535". "Off replaces a pending On and
-- stops T4; On for a new stay replaces a pending Off and stops T5"; T4 starts with On and T5 with Off
abbrev pub asked : Lamps → ℕ → Answer → Indication → Lit
asked l i a n = record {
  lamps = record { places = slice_set l.places i (new_lamp n a.call (up l.last)); last = up l.last };
  notice = Some (record {
    asks = n;
    call = a.call;
    place = a.place;
    invoke = up l.last;
    stopped = timers_of (lamp_at l i);
    started = timers_of (new_lamp n a.call (up l.last));
  });
}

abbrev pub lit_by : Lamps → ℕ → Answer → Option Indication → Lit
lit_by l i a None = unlit l
lit_by l i a (Some n) = asked l i a n
