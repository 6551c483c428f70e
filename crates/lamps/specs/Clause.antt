-- Clause 7.6 as it stands, for one member at one place: what can happen to it, the state that it goes to, and the timers. What is kept for all eight at
-- once is seen here member by member, and what happens to a member is told from the answers alone. `FollowsClause` says that the lamps do nothing else.
use Rattle.std.specs.Prelude.{◌≡◌, ℕ, ◌+◌, ◌-◌, ◌<◌, Bool, true, false, cond, ◌&&◌, List, [], ◌∷◌, length, Option, None, Some, Result, Ok, Err, ◌==◌, slice_index_or}
use Rattle.table.specs.Places.{place_count}
use Rattle.step.specs.Promises.{Full}
use Rattle.lamps.specs.declared.Endpoint.{Endpoint}
use Rattle.lamps.specs.declared.members.Indication.{Indication}
use Rattle.lamps.specs.declared.members.Timer.{Timer}
use Rattle.lamps.specs.declared.members.Gp.{Gp}
use Rattle.lamps.specs.declared.members.Gp.TheVariants.{Idle}
use Rattle.lamps.specs.declared.members.Lamp.{Lamp}
use Rattle.lamps.specs.declared.members.Lamps.{Lamps}
use Rattle.lamps.specs.declared.notice.Notice.{Notice}
use Rattle.lamps.specs.declared.reply.Reply.{Reply}
use Rattle.lamps.specs.declared.reply.Settled.{Settled}
use Rattle.lamps.specs.declared.reply.ReplyRefusal.{ReplyRefusal}
use Rattle.lamps.specs.Members.{timer_number, awaits, timer_in, gp_of, is_member, lamp_at}
use Rattle.lamps.specs.Reply.{settled_of}
use Rattle.lamps.specs.Served.{start, told_of}
use Rattle.lamps.specs.Runs.{Input, event, reply, endpoint_after, final}

-- ---- the clause

-- one member at one place: its state, and the call and the number of the request that was last sent to it
pub record Member : Type 0 where
  pub gp : Gp
  pub call : List ℕ
  pub number : ℕ

-- what happens to it: an Invoke is sent; a Return Result, Return Error or Reject comes, or the timer runs out; nothing
pub data Happens : Type 0 where
  asked_to : Indication → List ℕ → ℕ → Happens
  replies : Happens
  nothing : Happens

-- "Upon sending of the groupIndicationOn Invoke APDU, the served endpoint shall enter the GP-NotifyOnRequ state and start timer T4. On receipt of a
-- groupIndicationOn Return Result, Return Error or Reject APDU, the served endpoint shall stop timer T4 and shall return to GP-Idle state." Off the same,
-- with GP-NotifyOffRequ and T5
abbrev pub next : Happens → Member → Member
next (asked_to n call number) x = record { gp = awaits n; call = call; number = number }
next replies x = record { gp = Idle; call = x.call; number = x.number }
next nothing x = x

abbrev pub started_by : Happens → Option Timer
started_by (asked_to n call number) = timer_in (awaits n)
started_by replies = None
started_by nothing = None

-- a request stops the timer of the one that it replaces, if that is still pending
abbrev pub stopped_by : Happens → Member → Option Timer
stopped_by (asked_to n call number) x = timer_in x.gp
stopped_by replies x = timer_in x.gp
stopped_by nothing x = None

-- ---- the lamps, member by member

abbrev pub member_in : Lamp → ℕ → Member
member_in x m = record { gp = gp_of x m; call = x.call; number = x.invoke.0 }

-- the place has index i, the member number m
abbrev pub member_at : Lamps → ℕ → ℕ → Member
member_at l i m = member_in (lamp_at l i) m

-- what a notice does to a member at the place with index i
abbrev pub asks_at : Option Notice → ℕ → Happens
asks_at None i = nothing
asks_at (Some x) i = cond (x.place.0 == i + 1) (asked_to x.asks x.call x.invoke.0) nothing

-- a reply that is accepted is of this place and this member
abbrev pub settles_at : Result Settled ReplyRefusal → Reply → ℕ → ℕ → Bool
settles_at (Ok x) r i m = x.place.0 == i + 1 && r.member == m
settles_at (Err w) r i m = false

abbrev pub happens : Endpoint → Input → ℕ → ℕ → Happens
happens s (event e) i m = asks_at (told_of s e).notice i
happens s (reply r) i m = cond (settles_at (settled_of s.lamps r).answer r i m) replies nothing

-- the timers that the host is told to start and to stop, of this place and this member
abbrev pub asks_start : Option Notice → ℕ → ℕ → Option Timer
asks_start None i m = None
asks_start (Some x) i m = cond (x.place.0 == i + 1) (slice_index_or x.started (m - 1) None) None

abbrev pub started_at : Endpoint → Input → ℕ → ℕ → Option Timer
started_at s (event e) i m = asks_start (told_of s e).notice i m
started_at s (reply r) i m = None

abbrev pub asks_stop : Option Notice → ℕ → ℕ → Option Timer
asks_stop None i m = None
asks_stop (Some x) i m = cond (x.place.0 == i + 1) (slice_index_or x.stopped (m - 1) None) None

abbrev pub reply_stops : Result Settled ReplyRefusal → Reply → ℕ → ℕ → Option Timer
reply_stops (Ok x) r i m = cond (x.place.0 == i + 1 && r.member == m) (Some x.stopped) None
reply_stops (Err w) r i m = None

abbrev pub stopped_at : Endpoint → Input → ℕ → ℕ → Option Timer
stopped_at s (event e) i m = asks_stop (told_of s e).notice i m
stopped_at s (reply r) i m = reply_stops (settled_of s.lamps r).answer r i m

-- ---- the promise

-- 96 places in the table and in the lamps; of an endpoint in code its types say so
abbrev pub Sized : Endpoint → Type 0
Sized s = Full s.table × (length s.lamps.places ≡ place_count)

pub record Follows (s : Endpoint) (x : Input) (i m : ℕ) : Type 0 where
  pub state : member_at (endpoint_after s x).lamps i m ≡ next (happens s x i m) (member_at s.lamps i m)
  pub started : started_at s x i m ≡ started_by (happens s x i m)
  pub stopped : stopped_at s x i m ≡ stopped_by (happens s x i m) (member_at s.lamps i m)

-- `follows_clause`: of every place and member, whatever the table and the lamps are
abbrev pub FollowsClause : Type 0
FollowsClause = (s : Endpoint) (x : Input) → Sized s → (i m : ℕ) → i < place_count → is_member m ≡ true → Follows s x i m

-- ---- T4 and T5

-- a timer that is stopped no longer runs, any other goes on,
abbrev pub left_by : Option Timer → Option Timer → Option Timer
left_by (Some k) (Some n) = cond (timer_number k == timer_number n) None (Some n)
left_by None (Some n) = Some n
left_by stopped None = None

-- and one that is started runs
abbrev pub clock_after : Option Timer → Option Timer → Option Timer → Option Timer
clock_after stopped (Some n) now = Some n
clock_after stopped None now = left_by stopped now

-- the timer that a host has running for a place and a member, if it does as the answers say and nothing else
abbrev pub clock : Endpoint → List Input → ℕ → ℕ → Option Timer → Option Timer
clock s [] i m now = now
clock s (x ∷ xs) i m now = clock (endpoint_after s x) xs i m (clock_after (stopped_at s x i m) (started_at s x i m) now)

-- `timers_run`: after any run T4 runs exactly in GP-NotifyOnRequ and T5 exactly in GP-NotifyOffRequ
abbrev pub TimersRun : Type 0
TimersRun = (xs : List Input) (i m : ℕ) → i < place_count → is_member m ≡ true → clock start xs i m None ≡ timer_in (member_at (final start xs).lamps i m).gp
