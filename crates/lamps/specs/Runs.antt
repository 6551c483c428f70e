-- Whole runs of the served endpoint: events and replies in any order, refused ones among them, and what goes out.
use Rattle.std.specs.Prelude.{ℕ, ◌+◌, Bool, false, ◌&&◌, List, [], ◌∷◌, Option, None, Some}
use Rattle.events.specs.declared.Event.{Event}
use Rattle.events.specs.declared.Answer.{Answer}
use Rattle.stays.specs.Stays.{one_if}
use Rattle.lamps.specs.declared.Endpoint.{Endpoint}
use Rattle.lamps.specs.declared.members.Indication.{Indication}
use Rattle.lamps.specs.declared.notice.Notice.{Notice}
use Rattle.lamps.specs.declared.reply.Reply.{Reply}
use Rattle.lamps.specs.Members.{same_indication, is_member}
use Rattle.lamps.specs.Reply.{settled_of}
use Rattle.lamps.specs.Served.{told_of}

-- what the host hands in
pub data Input : Type 0 where
  event : Event → Input
  reply : Reply → Input

-- a reply leaves the table alone
abbrev pub endpoint_after : Endpoint → Input → Endpoint
endpoint_after s (event e) = (told_of s e).endpoint
endpoint_after s (reply r) = record { table = s.table; lamps = (settled_of s.lamps r).lamps }

abbrev pub final : Endpoint → List Input → Endpoint
final s [] = s
final s (x ∷ xs) = final (endpoint_after s x) xs

-- the sum over a run of a number of each input
abbrev pub sum : (Endpoint → Input → ℕ) → Endpoint → List Input → ℕ
sum f s [] = 0
sum f s (x ∷ xs) = f s x + sum f (endpoint_after s x) xs

abbrev pub events_in : List Input → List Event
events_in [] = []
events_in (event e ∷ xs) = e ∷ events_in xs
events_in (reply r ∷ xs) = events_in xs

-- the table's answers to the events
abbrev pub answers : Endpoint → List Input → List Answer
answers s [] = []
answers s (event e ∷ xs) = (told_of s e).answer ∷ answers (endpoint_after s (event e)) xs
answers s (reply r ∷ xs) = answers (endpoint_after s (reply r)) xs

-- ---- what goes out

-- a reply sends nothing
abbrev pub notice_of : Endpoint → Input → Option Notice
notice_of s (event e) = (told_of s e).notice
notice_of s (reply r) = None

-- whether a member has a request by it: it goes to each of the members 1 to 8
abbrev pub is_request : ℕ → Option Notice → Bool
is_request m None = false
is_request m (Some x) = is_member m

-- .. whether that is an On, or an Off, for a call that passes the test
abbrev pub is_for : Indication → (List ℕ → Bool) → ℕ → Option Notice → Bool
is_for n f m None = false
is_for n f m (Some x) = is_member m && (same_indication n x.asks && f x.call)

-- a request to the member, of whatever sort
abbrev pub request_to : ℕ → Endpoint → Input → ℕ
request_to m s x = one_if (is_request m (notice_of s x))

-- an On, or an Off, to the member for a call that passes the test: any call, or one call alone
abbrev pub sent_to : Indication → (List ℕ → Bool) → ℕ → Endpoint → Input → ℕ
sent_to n f m s x = one_if (is_for n f m (notice_of s x))
