-- Stays: what a machine of places does, stay by stay. Over any machine: its runs, the stays of a run by a fold over the accepted events, and two things
-- that hold of this fold for every machine with the laws of `proofs/Laws.antt`. The demand itself, of the table, is `Demand.antt`.
use Rattle.std.specs.Prelude.{◌≡◌, ◌⊎◌, Bool, true, false, List, [], ◌∷◌, ◌++◌, map, ℕ, ◌+◌, ◌≤◌}
use Rattle.std.proofs.Math.Decide.{ℕ_discrete}

-- What an accepted event does to the stay at its place.
pub data Mark : Type 0 where
  starts goes_on ends : Mark

-- An event, as it was accepted, and its answer.
pub record Done (Event Answer : Type 0) : Type 0 where
  pub event : Event
  pub answer : Answer

-- One step of a table, and what may be read off an accepted event with its answer.
pub record Machine : Type 1 where
  pub Table : Type 0
  pub Event : Type 0
  pub Answer : Type 0
  pub empty : Table
  pub next : Table → Event → Table
  pub answer : Table → Event → Answer
  pub accepted : Answer → Bool
  -- the event with the call and the place that it was given, and a pickup asking by name
  pub named : Event → Answer → Event
  pub mark : Done Event Answer → Mark
  pub place : Done Event Answer → ℕ
  -- an accepted pickup result
  pub result : Done Event Answer → Bool

-- ---- stays

-- A running stay: its place, and its events in order.
pub record Stay (X : Type 0) : Type 0 where
  pub at : ℕ
  pub events : List X

-- The ended stays, in the order of their ends, and the running ones, in the order of their starts.
pub record Stays (X : Type 0) : Type 0 where
  pub ended : List (List X)
  pub running : List (Stay X)

abbrev pub whether : {P A : Type 0} → Dec P → A → A → A
whether (yes h) a b = a
whether (no h) a b = b

abbrev pub one_if : Bool → ℕ
one_if true = 1
one_if false = 0

-- a number is in a list
abbrev pub In : ℕ → List ℕ → Type 0
In j [] = ⊥
In j (p ∷ ps) = (j ≡ p) ⊎ In j ps

-- one stands before the other
pub data Before (i j : ℕ) : List ℕ → Type 0 where
  first : {p : ℕ} {ps : List ℕ} → i ≡ p → In j ps → Before i j (p ∷ ps)
  later : {p : ℕ} {ps : List ℕ} → Before i j ps → Before i j (p ∷ ps)

module _ {X : Type 0} where
  -- each element is so
  abbrev pub Every : (X → Type 0) → List X → Type 0
  Every P [] = Unit {0}
  Every P (x ∷ xs) = P x × Every P xs

  -- the first is a start, and no later one is
  abbrev pub BeginsBy : (X → Type 0) → List X → Type 0
  BeginsBy Start [] = ⊥
  BeginsBy Start (x ∷ xs) = Start x × Every (λ y. Start y → ⊥) xs

  -- the stay, with one more event if it is at this place
  abbrev pub longer : ℕ → X → Stay X → Stay X
  longer p x s = whether (ℕ_discrete p s.at) (record { at = s.at; events = s.events ++ (x ∷ []) }) s

  -- the stays at other places
  abbrev pub others : ℕ → List (Stay X) → List (Stay X)
  others p [] = []
  others p (s ∷ ss) = whether (ℕ_discrete p s.at) (others p ss) (s ∷ others p ss)

  -- the places of stays, in their order
  abbrev pub places_of : List (Stay X) → List ℕ
  places_of [] = []
  places_of (s ∷ ss) = s.at ∷ places_of ss

  -- the events of the stay at this place
  abbrev pub events_at : ℕ → List (Stay X) → List X
  events_at p [] = []
  events_at p (s ∷ ss) = whether (ℕ_discrete p s.at) s.events (events_at p ss)

  -- An event is added by its mark:
  -- a start is a new stay, after those that run;
  -- one that goes on makes the stay at its place longer;
  -- one that ends it takes the stay at its place, with itself, to the end of those that have ended.
  abbrev pub add : Mark → ℕ → X → Stays X → Stays X
  add starts p x s = record { ended = s.ended; running = s.running ++ (record { at = p; events = x ∷ [] } ∷ []) }
  add goes_on p x s = record { ended = s.ended; running = map (longer p x) s.running }
  add ends p x s = record { ended = s.ended ++ ((events_at p s.running ++ (x ∷ [])) ∷ []); running = others p s.running }

  abbrev pub none : Stays X
  none = record { ended = []; running = [] }

  abbrev pub joined : List (List X) → List X
  joined [] = []
  joined (xs ∷ xss) = xs ++ joined xss

  -- the events of each running stay
  abbrev pub each : List (Stay X) → List (List X)
  each ss = map (λ (s : Stay X). s.events) ss

  -- stay by stay: the ended first, then the running
  abbrev pub stay_by_stay : Stays X → List X
  stay_by_stay s = joined s.ended ++ joined (each s.running)

  abbrev pub keep : Bool → X → List X → List X
  keep true x xs = x ∷ xs
  keep false x xs = xs

  abbrev pub count : (X → Bool) → List X → ℕ
  count f [] = 0
  count f (x ∷ xs) = one_if (f x) + count f xs

  -- THE FOLD: each event added to the stays so far, by what it does and where
  abbrev pub fold : (X → Mark) → (X → ℕ) → Stays X → List X → Stays X
  fold mark place s [] = s
  fold mark place s (x ∷ xs) = fold mark place (add (mark x) (place x) x s) xs

-- ---- runs of a machine

module _ (m : Machine) where
  open m use {Table, Event, Answer, empty, next, answer, accepted, named, mark, place, result}

  -- the event as it was accepted, and its answer
  abbrev pub done : Table → Event → Done Event Answer
  done t e = record { event = named e (answer t e); answer = answer t e }

  abbrev pub final : Table → List Event → Table
  final t [] = t
  final t (e ∷ es) = final (next t e) es

  -- the accepted events, named, with their answers
  abbrev pub run : Table → List Event → List (Done Event Answer)
  run t [] = []
  run t (e ∷ es) = keep (accepted (answer t e)) (done t e) (run (next t e) es)

  abbrev pub stays : Stays (Done Event Answer) → List (Done Event Answer) → Stays (Done Event Answer)
  stays s xs = fold mark place s xs

  -- from `t` every event is accepted with the answer beside it, and `u` is the table after them
  pub data Replays : Table → List (Done Event Answer) → Table → Type 0 where
    stop : {t : Table} → Replays t [] t
    go : {t u : Table} {x : Done Event Answer} {xs : List (Done Event Answer)} → answer t x.event ≡ x.answer → accepted x.answer ≡ true
        → Replays (next t x.event) xs u → Replays t (x ∷ xs) u

  -- the events of each stay
  abbrev pub all_stays : Stays (Done Event Answer) → List (List (Done Event Answer))
  all_stays s = s.ended ++ each s.running

  -- of the fold: its events, stay by stay, are accepted again, and lead to the same table
  abbrev pub Rearranges : Type 0
  Rearranges = (es : List Event) → Replays empty (stay_by_stay (stays none (run empty es))) (final empty es)

  -- .. and every stay has at most one accepted pickup result
  abbrev pub OneResult : Type 0
  OneResult = (es : List Event) → Every (λ xs. count result xs ≤ 1) (all_stays (stays none (run empty es)))
