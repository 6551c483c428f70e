-- A fold over events with something beside them, their numbers, is the fold over the events once that is forgotten.
use mathlib.Core.Path.{◌≡◌, refl, ap, ap₂, ◌∙◌}
use mathlib.Core.List.{List, [], ◌∷◌, ◌++◌, map}
use Prim.Native.Nat.{ℕ, suc}
use native.Mathlib.Decide.{ℕ_discrete}
use Rattle.stays.specs.Stays.{Mark, starts, goes_on, ends, Stay, Stays, whether, longer, others, events_at, add, fold}
use Rattle.stays.specs.Arranged.{numbered_from, acts}
use Rattle.stays.proofs.Lists.{whether_through, map_snoc}

-- the numbers forgotten, the events are left
pub acts_numbered : {X : Type 0} (n : ℕ) (xs : List X) → acts (numbered_from n xs) ≡ xs
acts_numbered n [] = refl
acts_numbered n (x ∷ xs) = ap (λ l. x ∷ l) (acts_numbered (suc n) xs)

module _ {Y X : Type 0} (f : Y → X) where
  abbrev pub plain : Stay Y → Stay X
  plain r = record { at = r.at; events = map f r.events }

  abbrev pub forget : Stays Y → Stays X
  forget s = record { ended = map (map f) s.ended; running = map plain s.running }

  plain_longer : (p : ℕ) (y : Y) (ss : List (Stay Y)) → map plain (map (longer p y) ss) ≡ map (longer p (f y)) (map plain ss)
  plain_longer p y [] = refl
  plain_longer p y (s ∷ ss) = ap₂ (λ (r : Stay X) (rs : List (Stay X)). r ∷ rs) one (plain_longer p y ss)
    where
      one : plain (longer p y s) ≡ longer p (f y) (plain s)
      one =
          whether_through plain (ℕ_discrete p s.at) (record { at = s.at; events = s.events ++ (y ∷ []) }) s
          ∙ ap (λ (l : List X). whether (ℕ_discrete p s.at) (record { at = s.at; events = l }) (plain s)) (map_snoc f s.events y)

  plain_others : (p : ℕ) (ss : List (Stay Y)) → map plain (others p ss) ≡ others p (map plain ss)
  plain_others p [] = refl
  plain_others p (s ∷ ss) =
      let d = ℕ_discrete p s.at in
      whether_through (map plain) d (others p ss) (s ∷ others p ss) ∙ ap (λ rs. whether d rs (plain s ∷ rs)) (plain_others p ss)

  plain_events : (p : ℕ) (ss : List (Stay Y)) → map f (events_at p ss) ≡ events_at p (map plain ss)
  plain_events p [] = refl
  plain_events p (s ∷ ss) =
      let d = ℕ_discrete p s.at in
      whether_through (map f) d s.events (events_at p ss) ∙ ap (whether d (map f s.events)) (plain_events p ss)

  forget_add : (k : Mark) (p : ℕ) (y : Y) (s : Stays Y) → forget (add k p y s) ≡ add k p (f y) (forget s)
  forget_add starts p y s = λ j. record { ended = map (map f) s.ended; running = map_snoc plain s.running (record { at = p; events = y ∷ [] }) j }
  forget_add goes_on p y s = λ j. record { ended = map (map f) s.ended; running = plain_longer p y s.running j }
  forget_add ends p y s =
      let over : map f (events_at p s.running ++ (y ∷ [])) ≡ events_at p (map plain s.running) ++ (f y ∷ []) =
      map_snoc f (events_at p s.running) y ∙ ap (λ l. l ++ (f y ∷ [])) (plain_events p s.running) in
      let ended : map (map f) (s.ended ++ ((events_at p s.running ++ (y ∷ [])) ∷ [])) ≡ map (map f) s.ended ++ ((events_at p (map plain s.running) ++ (f y ∷ [])) ∷ []) =
      map_snoc (map f) s.ended (events_at p s.running ++ (y ∷ [])) ∙ ap (λ l. map (map f) s.ended ++ (l ∷ [])) over in
      λ j. record { ended = ended j; running = plain_others p s.running j }

  pub forget_fold : (mark : X → Mark) (place : X → ℕ) (ys : List Y) (s : Stays Y) → forget (fold (λ y. mark (f y)) (λ y. place (f y)) s ys) ≡ fold mark place (forget s) (map f ys)
  forget_fold mark place [] s = refl
  forget_fold mark place (y ∷ ys) s =
      forget_fold mark place ys (add (mark (f y)) (place (f y)) y s) ∙ ap (λ t. fold mark place t (map f ys)) (forget_add (mark (f y)) (place (f y)) y s)
