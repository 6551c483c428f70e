-- What is kept of each place for the eight members (document 02, Q-5), and the state of a place and a member (H.450.5, 7.6 and 10.3.6). A place is
-- counted from 1, and its index from 0; a member is counted from 1.
use Rattle.std.specs.Prelude.{ℕ, ◌-◌, Bool, true, false, cond, ◌&&◌, List, [], map, replicate, nat_le, slice_index_or, Option, None, Some}
use Rattle.table.specs.declared.Place.{Place}
use Rattle.table.specs.Places.{no_call, no_invoke, place_count, index_of}
use Rattle.lamps.specs.declared.members.Indication.{Indication}
use Rattle.lamps.specs.declared.members.Indication.TheVariants.{On, Off}
use Rattle.lamps.specs.declared.members.Timer.{Timer}
use Rattle.lamps.specs.declared.members.Timer.TheVariants.{T4, T5}
use Rattle.lamps.specs.declared.members.Gp.{Gp}
use Rattle.lamps.specs.declared.members.Gp.TheVariants.{Idle, NotifyOnRequ, NotifyOffRequ}
use Rattle.lamps.specs.declared.members.Lamp.{Lamp}
use Rattle.lamps.specs.declared.members.Lamps.{Lamps}

abbrev pub same_indication : Indication → Indication → Bool
same_indication On On = true
same_indication On Off = false
same_indication Off On = false
same_indication Off Off = true

-- ---- the state of a place and a member, and its timer

-- "GP-NotifyOnRequ: The served endpoint is waiting for a confirmation to the groupIndicationOn Invoke APDU.", and GP-NotifyOffRequ the same of Off
abbrev pub awaits : Indication → Gp
awaits On = NotifyOnRequ
awaits Off = NotifyOffRequ

-- the digit of each
abbrev pub timer_number : Timer → ℕ
timer_number T4 = 4
timer_number T5 = 5

-- the timer that runs while a request waits for its reply: "shall enter the GP-NotifyOnRequ state and start timer T4", and T5 with Off
abbrev pub timer_of : Indication → Timer
timer_of On = T4
timer_of Off = T5

-- 10.4: "T4 .. during state GP-NotifyOnRequ", "T5 .. during state GP-NotifyOffRequ"
abbrev pub timer_in : Gp → Option Timer
timer_in Idle = None
timer_in NotifyOnRequ = Some T4
timer_in NotifyOffRequ = Some T5

-- of a member that has still to reply to such a request, or has not
abbrev pub gp_in : Indication → Bool → Gp
gp_in n pending = cond pending (awaits n) Idle

abbrev pub gp_of : Lamp → ℕ → Gp
gp_of x m = gp_in x.indication (slice_index_or x.pending (m - 1) false)

-- the timers that run at a place, of members 1 to 8
abbrev pub timers_of : Lamp → List (Option Timer)
timers_of x = map (λ pending. timer_in (gp_in x.indication pending)) x.pending

-- ---- the empty lamps

-- a place at which no request was ever sent: none is pending
abbrev pub dark_lamp : Lamp
dark_lamp = record { indication = Off; call = no_call; invoke = no_invoke; pending = replicate 8 false }

-- "Requests to one member are numbered on over all places from 1": the number before the first is 0
abbrev pub dark_lamps : Lamps
dark_lamps = record { places = replicate place_count dark_lamp; last = no_invoke }

-- ---- by place and member

-- what a read past the end of a list of lamps gives; no place is read so
abbrev pub blank_lamp : Lamp
blank_lamp = record { indication = On; call = []; invoke = no_invoke; pending = [] }

abbrev pub lamp_at : Lamps → ℕ → Lamp
lamp_at l i = slice_index_or l.places i blank_lamp

-- one of 1 to `most`
abbrev pub is_one_to : ℕ → ℕ → Bool
is_one_to most n = nat_le 1 n && nat_le n most

-- "8 members"; "31 member not 1 to 8"
abbrev pub is_member : ℕ → Bool
is_member m = is_one_to 8 m

-- THE STATE of a place and a member; GP-Idle where there is no such place or member
abbrev pub gp_at : Lamps → Place → ℕ → Gp
gp_at l p m = cond (is_member m && is_one_to place_count p.0) (gp_of (lamp_at l (index_of p.0)) m) Idle
