-- Two arrangements of one run are equal. At each place both have the events of the run in their order, and these fall into stays in one way, since
-- a stay begins with a start and has no other (`one_split`). So both have the same stays; ended and running ones are told apart, and two lists
-- in rising order that have the same elements are equal (`one_order`).
use mathlib.Core.Path.{◌≡◌, refl, sym, ap, subst, ◌∙◌}
use mathlib.Core.Logic.{◌⊎◌, inl, inr, ⊎_elim}
use mathlib.Core.Bool.{Bool, true, false, cond}
use mathlib.Core.List.Memᴰ
use mathlib.Core.List.{List, [], ◌∷◌, ◌++◌, map, Memᴰ, nil≢cons, head-eq_of_cons-eq, tail-eq_of_cons-eq}
use Prim.Native.Nat.{ℕ, ◌<◌}
use native.Mathlib.Omega.{arith}
use lib.Dec.{eqb}
use borrow.Author.Tests.{eqb-true, eqb-false, eq-eqb, ne_eqb}
use Rattle.stays.specs.Stays.{Every, BeginsBy, joined}
use Rattle.stays.specs.Arranged.{Numbered, Arrangement, Rising, acts, first_number, last_number, all_of, at, StayByStay}
use Rattle.stays.proofs.Lists.{every_at, every_append, every_so, every_map}

-- ---- two lists in rising order with the same elements

module _ {A : Type 0} (key : A → ℕ) where
  above : (n : ℕ) (a : A) (xs : List A) → Every (λ j. n < j) (map key xs) → Memᴰ a xs → n < key a
  above n a [] h i = absurd (Memᴰ.not-nil i)
  above n a (x ∷ xs) h i = ⊎_elim (λ e. rw e h.0) (λ j. above n a xs h.1 j) (Memᴰ.cases_cons i)

  -- of the elements after the first, each is among those after the other's first
  further : (x y : A) (xs ys : List A) → x ≡ y → Rising (map key (x ∷ xs)) → ((a : A) → Memᴰ a (x ∷ xs) → Memᴰ a (y ∷ ys))
      → (a : A) → Memᴰ a xs → Memᴰ a ys
  further x y xs ys e h to a i = by (Memᴰ.cases_cons (to a (Memᴰ.tail i)))
    where
      by : (a ≡ y) ⊎ Memᴰ a ys → Memᴰ a ys
      by (inl f) = absurd (let low = above (key x) a xs h.0 i in let same : key a ≡ key x = ap key (f ∙ sym e) in omega (arith, low, same))
      by (inr j) = j

  one_order : (xs ys : List A) → Rising (map key xs) → Rising (map key ys) → ((a : A) → Memᴰ a xs → Memᴰ a ys) → ((a : A) → Memᴰ a ys → Memᴰ a xs)
      → xs ≡ ys
  one_order [] [] h k to from = refl
  one_order [] (y ∷ ys) h k to from = absurd (Memᴰ.not-nil (from y (Memᴰ.head refl)))
  one_order (x ∷ xs) [] h k to from = absurd (Memᴰ.not-nil (to x (Memᴰ.head refl)))
  one_order (x ∷ xs) (y ∷ ys) h k to from =
      let rest : x ≡ y → xs ≡ ys = λ e. one_order xs ys h.1 k.1 (further x y xs ys e h to) (further y x ys xs (sym e) k from) in
      let same : x ≡ y = heads (Memᴰ.cases_cons (to x (Memᴰ.head refl))) (Memᴰ.cases_cons (from y (Memᴰ.head refl))) in
      λ j. same j ∷ rest same j
    where
      heads : (x ≡ y) ⊎ Memᴰ x ys → (y ≡ x) ⊎ Memᴰ y xs → x ≡ y
      heads (inl e) i = e
      heads (inr i) (inl e) = sym e
      heads (inr i) (inr j) = absurd (let low = above (key y) x ys k.0 i in let high = above (key x) y xs h.0 j in omega (arith, low, high))

-- ---- events fall into stays in one way

module _ {Y : Type 0} (Start : Y → Type 0) where
  -- stays, one after the other, do not begin with anything else
  start_first : (ss : List (List Y)) → Every (BeginsBy Start) ss → (y : Y) (ys : List Y) → (Start y → ⊥) → joined ss ≡ y ∷ ys → ⊥
  start_first [] h y ys n e = nil≢cons e
  start_first ([] ∷ ss) h y ys n e = h.0
  start_first ((x ∷ xs) ∷ ss) h y ys n e = n (subst Start (head-eq_of_cons-eq e) h.0.0)

  -- what is left of a stay, and the stays after it
  one_rest : (xs ys : List Y) (ss us : List (List Y)) → Every (λ z. Start z → ⊥) xs → Every (λ z. Start z → ⊥) ys → Every (BeginsBy Start) ss → Every (BeginsBy Start) us
      → xs ++ joined ss ≡ ys ++ joined us → (xs ≡ ys) × (joined ss ≡ joined us)
  one_rest [] [] ss us n m h k e = (refl, e)
  one_rest [] (y ∷ ys) ss us n m h k e = absurd (start_first ss h y (ys ++ joined us) m.0 e)
  one_rest (x ∷ xs) [] ss us n m h k e = absurd (start_first us k x (xs ++ joined ss) n.0 (sym e))
  one_rest (x ∷ xs) (y ∷ ys) ss us n m h k e =
      let r = one_rest xs ys ss us n.1 m.1 h k (tail-eq_of_cons-eq e) in
      ((λ j. head-eq_of_cons-eq e j ∷ r.0 j), r.1)

  one_split : (ss us : List (List Y)) → Every (BeginsBy Start) ss → Every (BeginsBy Start) us → joined ss ≡ joined us → ss ≡ us
  one_split [] [] h k e = refl
  one_split [] ([] ∷ us) h k e = absurd k.0
  one_split [] ((y ∷ ys) ∷ us) h k e = absurd (nil≢cons e)
  one_split ([] ∷ ss) us h k e = absurd h.0
  one_split ((x ∷ xs) ∷ ss) [] h k e = absurd (nil≢cons (sym e))
  one_split ((x ∷ xs) ∷ ss) ([] ∷ us) h k e = absurd k.0
  one_split ((x ∷ xs) ∷ ss) ((y ∷ ys) ∷ us) h k e =
      let r = one_rest xs ys ss us h.0.1 k.0.1 h.1 k.1 (tail-eq_of_cons-eq e) in
      let rest : ss ≡ us = one_split ss us h.1 k.1 r.1 in
      λ j. (head-eq_of_cons-eq e j ∷ r.0 j) ∷ rest j

-- ---- the events at a place, and the stays there

module _ {X : Type 0} (place : X → ℕ) where
  pub at_append : (p : ℕ) (xs ys : List (Numbered X)) → at place p (xs ++ ys) ≡ at place p xs ++ at place p ys
  at_append p [] ys = refl
  at_append p (x ∷ xs) ys = by (eqb (place x.act) p) (at_append p xs ys)
    where
      by : (b : Bool) → at place p (xs ++ ys) ≡ at place p xs ++ at place p ys → cond b (x ∷ at place p (xs ++ ys)) (at place p (xs ++ ys)) ≡ cond b (x ∷ at place p xs) (at place p xs) ++ at place p ys
      by true e = ap (λ l. x ∷ l) e
      by false e = e

  -- all events are at this place
  abbrev pub AllAt : ℕ → List (Numbered X) → Type 0
  AllAt p ys = Every (λ y. place y.act ≡ p) ys

  pub at_all : (p : ℕ) (ys : List (Numbered X)) → AllAt p ys → at place p ys ≡ ys
  at_all p [] h = refl
  at_all p (y ∷ ys) h = rw (eq-eqb (place y.act) p h.0) (ap (λ l. y ∷ l) (at_all p ys h.1))

  pub at_none : (p q : ℕ) (ys : List (Numbered X)) → AllAt q ys → (q ≡ p → ⊥) → at place p ys ≡ []
  at_none p q [] h n = refl
  at_none p q (y ∷ ys) h n = rw (ne_eqb (place y.act) p (λ e. n (sym h.0 ∙ e))) (at_none p q ys h.1 n)

  -- the place of a stay is that of its first event
  abbrev place_of : List (Numbered X) → ℕ
  place_of [] = 0
  place_of (y ∷ ys) = place y.act

  abbrev stays_at : ℕ → List (List (Numbered X)) → List (List (Numbered X))
  stays_at p [] = []
  stays_at p (s ∷ ss) = cond (eqb (place_of s) p) (s ∷ stays_at p ss) (stays_at p ss)

  at_joined : (p : ℕ) (ss : List (List (Numbered X))) → Every (λ s. AllAt (place_of s) s) ss → at place p (joined ss) ≡ joined (stays_at p ss)
  at_joined p [] h = refl
  at_joined p (s ∷ ss) h = at_append p s (joined ss) ∙ by (eqb (place_of s) p) refl (at_joined p ss h.1)
    where
      by : (b : Bool) → eqb (place_of s) p ≡ b → at place p (joined ss) ≡ joined (stays_at p ss) → at place p s ++ at place p (joined ss) ≡ joined (cond b (s ∷ stays_at p ss) (stays_at p ss))
      by true q e = let here : at place p s ≡ s = at_all p s (subst (λ n. AllAt n s) (eqb-true (place_of s) p q) h.0) in rw (here, e)
      by false q e = let gone : at place p s ≡ [] = at_none p (place_of s) s h.0 (eqb-false (place_of s) p q) in rw (gone, e)

  stays_at_every : (P : List (Numbered X) → Type 0) (p : ℕ) (ss : List (List (Numbered X))) → Every P ss → Every P (stays_at p ss)
  stays_at_every P p [] h = tt
  stays_at_every P p (s ∷ ss) h = by (eqb (place_of s) p) (stays_at_every P p ss h.1)
    where
      by : (b : Bool) → Every P (stays_at p ss) → Every P (cond b (s ∷ stays_at p ss) (stays_at p ss))
      by true r = (h.0, r)
      by false r = r

  to_place : (s : List (Numbered X)) (ss : List (List (Numbered X))) → Memᴰ s ss → Memᴰ s (stays_at (place_of s) ss)
  to_place s [] i = absurd (Memᴰ.not-nil i)
  to_place s (u ∷ us) i = by (eqb (place_of u) (place_of s)) refl (Memᴰ.cases_cons i) (to_place s us)
    where
      by : (b : Bool) → eqb (place_of u) (place_of s) ≡ b → (s ≡ u) ⊎ Memᴰ s us → (Memᴰ s us → Memᴰ s (stays_at (place_of s) us)) → Memᴰ s (cond b (u ∷ stays_at (place_of s) us) (stays_at (place_of s) us))
      by true q (inl e) rec = Memᴰ.head e
      by true q (inr j) rec = Memᴰ.tail (rec j)
      by false q (inl e) rec = absurd (eqb-false (place_of u) (place_of s) q (ap place_of (sym e)))
      by false q (inr j) rec = rec j

  from_place : (p : ℕ) (s : List (Numbered X)) (ss : List (List (Numbered X))) → Memᴰ s (stays_at p ss) → Memᴰ s ss
  from_place p s [] i = i
  from_place p s (u ∷ us) i = by (eqb (place_of u) p) i (from_place p s us)
    where
      by : (b : Bool) → Memᴰ s (cond b (u ∷ stays_at p us) (stays_at p us)) → (Memᴰ s (stays_at p us) → Memᴰ s us) → Memᴰ s (u ∷ us)
      by true j rec = ⊎_elim (λ e. Memᴰ.head e) (λ k. Memᴰ.tail (rec k)) (Memᴰ.cases_cons j)
      by false j rec = Memᴰ.tail (rec j)

-- ---- the theorem

-- what is known of a stay: it begins with a start, is at one place, and has not both ended and not
pub record Tells {X : Type 0} (place : X → ℕ) (Start : X → Type 0) (Ended Runs : List X → Type 0) : Type 0 where
  pub ended_begins : (xs : List X) → Ended xs → BeginsBy Start xs
  pub running_begins : (xs : List X) → Runs xs → BeginsBy Start xs
  pub ended_place : (xs : List X) → Ended xs → (p : ℕ) × Every (λ x. place x ≡ p) xs
  pub running_place : (xs : List X) → Runs xs → (p : ℕ) × Every (λ x. place x ≡ p) xs
  pub either : (xs : List X) → Ended xs → Runs xs → ⊥

module _ {X : Type 0} {place : X → ℕ} {Start : X → Type 0} {Ended Runs : List X → Type 0} (k : Tells place Start Ended Runs) where
  begins_acts : (s : List (Numbered X)) → BeginsBy Start (acts s) → BeginsBy (λ y. Start y.act) s
  begins_acts [] h = h
  begins_acts (y ∷ ys) h = (h.0, every_map _ (λ x. Start x → ⊥) ys h.1)

  at_first : (s : List (Numbered X)) (p : ℕ) → Every (λ x. place x ≡ p) (acts s) → AllAt place (place_of place s) s
  at_first [] p h = tt
  at_first (y ∷ ys) p h = every_so (λ z. place z.act ≡ p) (λ z. place z.act ≡ place y.act) (λ z e. e ∙ sym h.0) (y ∷ ys) (every_map _ (λ x. place x ≡ p) (y ∷ ys) h)

  module _ {xs : List X} (a : Arrangement X) (h : StayByStay place Ended Runs xs a) where
    all_begin : Every (BeginsBy (λ y. Start y.act)) (all_of a)
    all_begin = every_append _ a.ended a.running
        (every_so _ _ (λ s e. begins_acts s (k.ended_begins (acts s) e)) a.ended h.each_ended)
        (every_so _ _ (λ s e. begins_acts s (k.running_begins (acts s) e)) a.running h.each_running)

    all_at : Every (λ s. AllAt place (place_of place s) s) (all_of a)
    all_at = every_append _ a.ended a.running
        (every_so _ _ (λ s e. at_first s _ (k.ended_place (acts s) e).1) a.ended h.each_ended)
        (every_so _ _ (λ s e. at_first s _ (k.running_place (acts s) e).1) a.running h.each_running)

  module _ {xs : List X} (a b : Arrangement X) (h : StayByStay place Ended Runs xs a) (g : StayByStay place Ended Runs xs b) where
    same_there : (p : ℕ) → stays_at place p (all_of a) ≡ stays_at place p (all_of b)
    same_there p = one_split (λ y. Start y.act) (stays_at place p (all_of a)) (stays_at place p (all_of b))
        (stays_at_every place _ p (all_of a) (all_begin a h)) (stays_at_every place _ p (all_of b) (all_begin b g))
        (sym (at_joined place p (all_of a) (all_at a h)) ∙ h.same_at p ∙ sym (g.same_at p) ∙ at_joined place p (all_of b) (all_at b g))

    -- a stay of the one is a stay of the other
    shared : (s : List (Numbered X)) → Memᴰ s (all_of a) → Memᴰ s (all_of b)
    shared s i = from_place place (place_of place s) s (all_of b) (subst (Memᴰ s) (same_there (place_of place s)) (to_place place s (all_of a) i))

    ended_shared : (s : List (Numbered X)) → Memᴰ s a.ended → Memᴰ s b.ended
    ended_shared s i =
        ⊎_elim (λ j. j)
        (λ j. absurd (k.either (acts s) (every_at _ s a.ended h.each_ended i) (every_at _ s b.running g.each_running j)))
        (Memᴰ.append_cases b.ended (shared s (Memᴰ.append_left a.running i)))

    running_shared : (s : List (Numbered X)) → Memᴰ s a.running → Memᴰ s b.running
    running_shared s i =
        ⊎_elim
        (λ j. absurd (k.either (acts s) (every_at _ s b.ended g.each_ended j) (every_at _ s a.running h.each_running i)))
        (λ j. j)
        (Memᴰ.append_cases b.ended (shared s (Memᴰ.append_right a.ended i)))

  -- THE THEOREM
  pub only_one : (xs : List X) (a b : Arrangement X) → StayByStay place Ended Runs xs a → StayByStay place Ended Runs xs b → a ≡ b
  only_one xs a b h g =
      let ended : a.ended ≡ b.ended = one_order last_number a.ended b.ended h.by_ends g.by_ends (ended_shared a b h g) (ended_shared b a g h) in
      let running : a.running ≡ b.running = one_order first_number a.running b.running h.by_starts g.by_starts (running_shared a b h g) (running_shared b a g h) in
      λ j. record { ended = ended j; running = running j }
