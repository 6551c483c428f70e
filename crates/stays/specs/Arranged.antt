-- What "rearranged stay by stay" says, in words that know of no fold: which lists of stays are an arrangement of the accepted events of a run. The
-- events are numbered as they were accepted, so that each can be told from every other.
use Rattle.std.specs.Prelude.{◌≡◌, cond, List, [], ◌∷◌, ◌++◌, map, ℕ, suc, ◌<◌, eqb}
use Rattle.stays.specs.Stays.{Every, joined}

-- An accepted event, with its number in the run.
pub record Numbered (X : Type 0) : Type 0 where
  pub number : ℕ
  pub act : X

-- Stays, each a list of numbered events: those that have ended, and those that run.
pub record Arrangement (X : Type 0) : Type 0 where
  pub ended : List (List (Numbered X))
  pub running : List (List (Numbered X))

-- each number is below all that come after it
abbrev pub Rising : List ℕ → Type 0
Rising [] = Unit {0}
Rising (k ∷ ks) = Every (λ j. k < j) ks × Rising ks

module _ {X : Type 0} where
  -- events, numbered from n on, and from 1
  abbrev pub numbered_from : ℕ → List X → List (Numbered X)
  numbered_from n [] = []
  numbered_from n (x ∷ xs) = record { number = n; act = x } ∷ numbered_from (suc n) xs

  abbrev pub numbered : List X → List (Numbered X)
  numbered xs = numbered_from 1 xs

  -- events without their numbers
  abbrev pub acts : List (Numbered X) → List X
  acts ys = map (λ (y : Numbered X). y.act) ys

  -- the number of the first event of a stay, and of the last
  abbrev pub first_number : List (Numbered X) → ℕ
  first_number [] = 0
  first_number (y ∷ ys) = y.number

  abbrev pub last_after : ℕ → List (Numbered X) → ℕ
  last_after n [] = n
  last_after n (y ∷ ys) = last_after y.number ys

  abbrev pub last_number : List (Numbered X) → ℕ
  last_number ys = last_after 0 ys

  -- all stays, and their events one after the other: "Ended stays first .., then open stays"
  abbrev pub all_of : Arrangement X → List (List (Numbered X))
  all_of a = a.ended ++ a.running

  abbrev pub listed : Arrangement X → List (Numbered X)
  listed a = joined (all_of a)

  -- the events at a place, in their order
  abbrev pub at : (X → ℕ) → ℕ → List (Numbered X) → List (Numbered X)
  at place p [] = []
  at place p (y ∷ ys) = cond (eqb (place y.act) p) (y ∷ at place p ys) (at place p ys)

  -- The stays of `a` are the accepted events `xs` of a run, stay by stay, where it is known which place an event is at, and which events are a
  -- stay that has ended or one that runs.
  pub record StayByStay (place : X → ℕ) (Ended Runs : List X → Type 0) (xs : List X) (a : Arrangement X) : Type 0 where
    pub each_ended : Every (λ s. Ended (acts s)) a.ended
    pub each_running : Every (λ s. Runs (acts s)) a.running
    -- "in order of their ends"
    pub by_ends : Rising (map last_number a.ended)
    -- "in order of their starts"
    pub by_starts : Rising (map first_number a.running)
    -- "a stay's events keep their order": at each place the rearranged events are those of the run, in the order of the run
    pub same_at : (p : ℕ) → at place p (listed a) ≡ at place p (numbered xs)
