-- At each place the events of the fold stand as they do in the run. What stands at a place is what stands there of the ended stays, and then the stay
-- that runs there; an event is put at the end of that, whatever its mark is.
use mathlib.Core.Path.{◌≡◌, refl, sym, ap, ap₂, subst, ◌∙◌}
use mathlib.Core.Logic.{inl, inr}
use mathlib.Core.List.{List, [], ◌∷◌, ◌++◌, map, append-nil, append_assoc}
use Prim.Native.Nat.{ℕ}
use native.Mathlib.Decide.{ℕ_discrete}
use Rattle.stays.specs.Stays.{Mark, starts, goes_on, ends, Stay, Stays, In, places_of, Every, longer, others, events_at, add, joined, each}
use Rattle.stays.specs.Arranged.{Numbered, Arrangement, listed, at}
use Rattle.stays.proofs.Lists.{every_append, joined_append}
use Rattle.stays.proofs.Places.{Distinct, Allowed, distinct_snoc, distinct_without, places_snoc, places_longer, places_others, events_here, events_there, longer_here, longer_there, no_events, none_longer, events_others, none_left}
use Rattle.stays.proofs.OnlyOne.{at_append, AllAt, at_all, at_none}
use Rattle.stays.proofs.Starts.{every_others}

-- the arrangement that stays of the fold are
abbrev pub arranged : {X : Type 0} → Stays (Numbered X) → Arrangement X
arranged {X} s = record { ended = s.ended; running = each s.running }

-- ---- at a place, the events so far and one more

module _ {X : Type 0} (place : X → ℕ) where
  -- an event by itself
  at_one : (p : ℕ) (y : Numbered X) → place y.act ≡ p → at place p (y ∷ []) ≡ y ∷ []
  at_one p y e = at_all place p (y ∷ []) (e, tt)

  at_other : (p q : ℕ) (y : Numbered X) → place y.act ≡ q → (p ≡ q → ⊥) → at place p (y ∷ []) ≡ []
  at_other p q y e n = at_none place p q (y ∷ []) (e, tt) (λ f. n (sym f))

  -- the events of each stay that runs are at its place
  abbrev Settled : List (Stay (Numbered X)) → Type 0
  Settled ss = Every (λ r. AllAt place r.at r.events) ss

  events_at_lem : (p : ℕ) (ss : List (Stay (Numbered X))) → Settled ss → AllAt place p (events_at p ss)
  events_at_lem p [] h = tt
  events_at_lem p (s ∷ ss) h = by (ℕ_discrete p s.at) (events_at_lem p ss h.1)
    where
      by : Dec (p ≡ s.at) → AllAt place p (events_at p ss) → AllAt place p (events_at p (s ∷ ss))
      by (yes e) rec = subst (AllAt place p) (sym (events_here p s ss e)) (subst (λ n. AllAt place n s.events) (sym e) h.0)
      by (no n) rec = subst (AllAt place p) (sym (events_there p s ss n)) rec

  -- what stands at a place of the running stays is the stay there
  at_running : (p : ℕ) (ss : List (Stay (Numbered X))) → Settled ss → Distinct (places_of ss)
      → at place p (joined (each ss)) ≡ events_at p ss
  at_running p [] h d = refl
  at_running p (s ∷ ss) h d = at_append place p s.events (joined (each ss)) ∙ by (ℕ_discrete p s.at) (at_running p ss h.1 d.1)
    where
      rest : List (Numbered X)
      rest = at place p (joined (each ss))

      by : Dec (p ≡ s.at) → rest ≡ events_at p ss → at place p s.events ++ rest ≡ events_at p (s ∷ ss)
      by (yes e) rec =
          let here : at place p s.events ≡ s.events = at_all place p s.events (subst (λ n. AllAt place n s.events) (sym e) h.0) in
          let gone : rest ≡ [] = rec ∙ no_events p ss (subst (λ n. ¬ In n (places_of ss)) (sym e) d.0) in
          ap₂ (λ (a b : List (Numbered X)). a ++ b) here gone ∙ (append-nil s.events ∙ sym (events_here p s ss e))
      by (no n) rec =
          let none : at place p s.events ≡ [] = at_none place p s.at s.events h.0 (λ e. n (sym e)) in
          ap₂ (λ (a b : List (Numbered X)). a ++ b) none rec ∙ sym (events_there p s ss n)

  module _ (p q : ℕ) (y : Numbered X) (there : place y.act ≡ q) where
    events_starts : (ss : List (Stay (Numbered X))) → ¬ In q (places_of ss) → events_at p (ss ++ (record { at = q; events = y ∷ [] } ∷ [])) ≡ events_at p ss ++ at place p (y ∷ [])
    events_starts [] n = by (ℕ_discrete p q)
      where
        new : Stay (Numbered X)
        new = record { at = q; events = y ∷ [] }

        by : Dec (p ≡ q) → events_at p (new ∷ []) ≡ at place p (y ∷ [])
        by (yes e) = events_here p new [] e ∙ sym (at_one p y (there ∙ sym e))
        by (no k) = events_there p new [] k ∙ sym (at_other p q y there k)
    events_starts (s ∷ ss) n = by (ℕ_discrete p s.at) (events_starts ss (λ i. n (inr i)))
      where
        more : List (Stay (Numbered X))
        more = ss ++ (record { at = q; events = y ∷ [] } ∷ [])

        by : Dec (p ≡ s.at) → events_at p more ≡ events_at p ss ++ at place p (y ∷ []) → events_at p (s ∷ more) ≡ events_at p (s ∷ ss) ++ at place p (y ∷ [])
        by (yes e) rec =
            events_here p s more e
            ∙ sym (ap₂ (λ (a b : List (Numbered X)). a ++ b) (events_here p s ss e) (at_other p q y there (λ f. n (inl (sym f ∙ e)))) ∙ append-nil s.events)
        by (no k) rec = events_there p s more k ∙ (rec ∙ ap (λ (l : List (Numbered X)). l ++ at place p (y ∷ [])) (sym (events_there p s ss k)))

    events_longer : (ss : List (Stay (Numbered X))) → Distinct (places_of ss) → In q (places_of ss) → events_at p (map (longer q y) ss) ≡ events_at p ss ++ at place p (y ∷ [])
    events_longer [] d b = absurd b
    events_longer (s ∷ ss) d i = by (ℕ_discrete q s.at) (ℕ_discrete p s.at) i (events_longer ss d.1)
      where
        more : List (Stay (Numbered X))
        more = map (longer q y) ss

        grown : Stay (Numbered X)
        grown = record { at = s.at; events = s.events ++ (y ∷ []) }

        -- the stay at q is this one, and no later one
        same : q ≡ s.at → events_at p (longer q y s ∷ more) ≡ events_at p (grown ∷ ss)
        same e = ap₂ (λ (r : Stay (Numbered X)) (rs : List (Stay (Numbered X))). events_at p (r ∷ rs)) (longer_here q y s e) (none_longer q y ss (subst (λ n. ¬ In n (places_of ss)) (sym e) d.0))

        other : (q ≡ s.at → ⊥) → events_at p (longer q y s ∷ more) ≡ events_at p (s ∷ more)
        other n = ap (λ (r : Stay (Numbered X)). events_at p (r ∷ more)) (longer_there q y s n)

        nothing : (p ≡ q → ⊥) → (l : List (Numbered X)) → l ≡ l ++ at place p (y ∷ [])
        nothing n l = sym (ap (λ (a : List (Numbered X)). l ++ a) (at_other p q y there n) ∙ append-nil l)

        by : Dec (q ≡ s.at) → Dec (p ≡ s.at) → In q (places_of (s ∷ ss)) → (In q (places_of ss) → events_at p more ≡ events_at p ss ++ at place p (y ∷ []))
            → events_at p (longer q y s ∷ more) ≡ events_at p (s ∷ ss) ++ at place p (y ∷ [])
        by (yes e) (yes f) h rec =
            same e ∙ (events_here p grown ss f
            ∙ sym (ap₂ (λ (a b : List (Numbered X)). a ++ b) (events_here p s ss f) (at_one p y (there ∙ (e ∙ sym f)))))
        by (yes e) (no k) h rec =
            same e ∙ (events_there p grown ss k ∙ (sym (events_there p s ss k) ∙ nothing (λ f. k (f ∙ e)) (events_at p (s ∷ ss))))
        by (no n) (yes f) h rec =
            other n ∙ (events_here p s more f ∙ (sym (events_here p s ss f) ∙ nothing (λ g. n (sym g ∙ f)) (events_at p (s ∷ ss))))
        by (no n) (no k) (inl e) rec = absurd (n e)
        by (no n) (no k) (inr h) rec =
            other n ∙ (events_there p s more k ∙ (rec h ∙ ap (λ (l : List (Numbered X)). l ++ at place p (y ∷ [])) (sym (events_there p s ss k))))

    -- an ended stay and those that run on, against the running ones before
    events_ends : (ss : List (Stay (Numbered X))) → Settled ss
        → at place p (events_at q ss ++ (y ∷ [])) ++ events_at p (others q ss) ≡ events_at p ss ++ at place p (y ∷ [])
    events_ends ss h = by (ℕ_discrete p q)
      where
        over : List (Numbered X)
        over = events_at q ss ++ (y ∷ [])

        all : AllAt place q over
        all = every_append _ (events_at q ss) (y ∷ []) (events_at_lem q ss h) (there, tt)

        by : Dec (p ≡ q) → at place p over ++ events_at p (others q ss) ≡ events_at p ss ++ at place p (y ∷ [])
        by (yes e) =
            let here : at place p over ≡ over = at_all place p over (subst (λ n. AllAt place n over) (sym e) all) in
            let left : events_at p (others q ss) ≡ [] = ap (λ n. events_at n (others q ss)) e ∙ none_left q ss in
            ap₂ (λ (a b : List (Numbered X)). a ++ b) here left
            ∙ (append-nil over ∙ ap₂ (λ (a b : List (Numbered X)). a ++ b) (ap (λ n. events_at n ss) (sym e)) (sym (at_one p y (there ∙ sym e))))
        by (no n) =
            ap₂ (λ (a b : List (Numbered X)). a ++ b) (at_none place p q over all (λ f. n (sym f))) (events_others p q ss n)
            ∙ sym (ap (λ (a : List (Numbered X)). events_at p ss ++ a) (at_other p q y there n) ∙ append-nil (events_at p ss))

  -- ---- one event more

  -- the events of each stay that runs are at its place, and no two run at one
  pub record Placed (ss : List (Stay (Numbered X))) : Type 0 where
    settled : Settled ss
    distinct : Distinct (places_of ss)

  pub placed_none : Placed []
  placed_none = record { settled = tt; distinct = tt }

  settled_longer : (q : ℕ) (y : Numbered X) → place y.act ≡ q → (ss : List (Stay (Numbered X))) → Settled ss → Settled (map (longer q y) ss)
  settled_longer q y there [] h = tt
  settled_longer q y there (s ∷ ss) h = (by (ℕ_discrete q s.at), settled_longer q y there ss h.1)
    where
      by : Dec (q ≡ s.at) → AllAt place (longer q y s).at (longer q y s).events
      by (yes e) = subst (λ (r : Stay (Numbered X)). AllAt place r.at r.events) (sym (longer_here q y s e)) (every_append _ s.events (y ∷ []) h.0 (there ∙ e, tt))
      by (no n) = subst (λ (r : Stay (Numbered X)). AllAt place r.at r.events) (sym (longer_there q y s n)) h.0

  -- what stands at a place: of the ended stays, and then the stay that runs there
  stands : (p : ℕ) (s : Stays (Numbered X)) → Placed s.running → at place p (listed (arranged s)) ≡ at place p (joined s.ended) ++ events_at p s.running
  stands p s o =
      let running = each s.running in
      ap (at place p) (joined_append s.ended running)
      ∙ (at_append place p (joined s.ended) (joined running)
      ∙ ap (λ l. at place p (joined s.ended) ++ l) (at_running p s.running o.settled o.distinct))

  module _ (q : ℕ) (y : Numbered X) (there : place y.act ≡ q) (s : Stays (Numbered X)) (o : Placed s.running) where
    pub placed_added : (k : Mark) → Allowed k q (places_of s.running) → Placed (add k q y s).running
    placed_added starts fresh =
        let new : Stay (Numbered X) = record { at = q; events = y ∷ [] } in
        record {
          settled = every_append _ s.running (new ∷ []) o.settled ((there, tt), tt);
          distinct = subst Distinct (sym (places_snoc s.running new)) (distinct_snoc q (places_of s.running) o.distinct fresh);
        }
    placed_added goes_on h = record {
      settled = settled_longer q y there s.running o.settled;
      distinct = subst Distinct (sym (places_longer q y s.running)) o.distinct;
    }
    placed_added ends h = record {
      settled = every_others _ q s.running o.settled;
      distinct = subst Distinct (sym (places_others q s.running)) (distinct_without q (places_of s.running) o.distinct);
    }

    module _ (p : ℕ) where
      abbrev before : List (Numbered X)
      before = at place p (joined s.ended)

      abbrev one : List (Numbered X)
      one = at place p (y ∷ [])

      -- what stands at the place of the new stays, against what stood there
      stands_more : (new : Stays (Numbered X)) → Placed new.running
          → at place p (joined new.ended) ++ events_at p new.running ≡ before ++ (events_at p s.running ++ one)
          → at place p (listed (arranged new)) ≡ at place p (listed (arranged s)) ++ one
      stands_more new after e =
          stands p new after
          ∙ (e ∙ (sym (append_assoc before (events_at p s.running) one) ∙ ap (λ l. l ++ one) (sym (stands p s o))))

      -- a stay more among the ended ones
      ended_more : (over : List (Numbered X)) → at place p (joined (s.ended ++ (over ∷ []))) ≡ before ++ at place p over
      ended_more over = ap (at place p) (joined_append s.ended (over ∷ []) ∙ ap (λ l. joined s.ended ++ l) (append-nil over)) ∙ at_append place p (joined s.ended) over

      pub stands_added : (k : Mark) → Allowed k q (places_of s.running) → at place p (listed (arranged (add k q y s))) ≡ at place p (listed (arranged s)) ++ one
      stands_added starts h = stands_more (add starts q y s) (placed_added starts h) (ap (λ l. before ++ l) (events_starts p q y there s.running h))
      stands_added goes_on h = stands_more (add goes_on q y s) (placed_added goes_on h) (ap (λ l. before ++ l) (events_longer p q y there s.running o.distinct h))
      stands_added ends h =
          let over : List (Numbered X) = events_at q s.running ++ (y ∷ []) in
          stands_more (add ends q y s) (placed_added ends h)
          (ap (λ l. l ++ events_at p (others q s.running)) (ended_more over)
          ∙ (append_assoc before (at place p over) (events_at p (others q s.running)) ∙ ap (λ l. before ++ l) (events_ends p q y there s.running o.settled)))
