-- Lists of places: whether a place is among them, that they differ, one put at the end and one taken out. The places of the running stays are such a
-- list, and each event does to it what `arrange` says.
use mathlib.Core.Path.{◌≡◌, refl, sym, ◌∙◌, ap, ap₂, subst}
use mathlib.Core.Logic.{◌≢◌, ◌⊎◌, inl, inr}
use mathlib.Core.List.{List, [], ◌∷◌, ◌++◌, map}
use Prim.Native.Nat.{ℕ}
use native.Mathlib.Decide.{ℕ_discrete}
use Rattle.stays.specs.Stays.{Mark, starts, goes_on, ends, In, places_of, whether, Stay, longer, others, events_at}
use Rattle.stays.proofs.Lists.{whether_yes, whether_no, whether_through}

pub dec_in : (j : ℕ) (ps : List ℕ) → Dec (In j ps)
dec_in j [] = no (λ h. h)
dec_in j (p ∷ ps) = either (ℕ_discrete j p) (dec_in j ps)
  where
    either : Dec (j ≡ p) → Dec (In j ps) → Dec ((j ≡ p) ⊎ In j ps)
    either (yes e) d = yes (inl e)
    either (no n) (yes i) = yes (inr i)
    either (no n) (no k) = no (elim [ inl e ↦ n e | inr i ↦ k i ])

abbrev pub Distinct : List ℕ → Type 0
Distinct [] = Unit {0}
Distinct (p ∷ ps) = (¬ In p ps) × Distinct ps

-- the places without this one
abbrev pub without : ℕ → List ℕ → List ℕ
without p [] = []
without p (q ∷ qs) = whether (ℕ_discrete p q) (without p qs) (q ∷ without p qs)

-- the places in use, in the order of their starts, after an event at `p`
abbrev pub arrange : Mark → ℕ → List ℕ → List ℕ
arrange starts p o = o ++ (p ∷ [])
arrange goes_on p o = o
arrange ends p o = without p o

-- an event of this mark may come at a place, where stays run at these: a start where none does, any other where one does
abbrev pub Allowed : Mark → ℕ → List ℕ → Type 0
Allowed starts p ps = ¬ In p ps
Allowed goes_on p ps = In p ps
Allowed ends p ps = In p ps

-- each event of a list may come where it comes
abbrev pub Follows : {X : Type 0} → (X → Mark) → (X → ℕ) → List ℕ → List X → Type 0
Follows mark place ps [] = Unit {0}
Follows mark place ps (x ∷ xs) = Allowed (mark x) (place x) ps × Follows mark place (arrange (mark x) (place x) ps) xs

-- ---- among them, or not

pub without_not : (p : ℕ) (o : List ℕ) → ¬ In p o → without p o ≡ o
without_not p [] h = refl
without_not p (q ∷ qs) h =
    whether_no (ℕ_discrete p q) (without p qs) (q ∷ without p qs) (λ e. h (inl e)) ∙ ap (λ l. q ∷ l) (without_not p qs (λ i. h (inr i)))

-- a place that was taken out is not there
pub gone : (p : ℕ) (o : List ℕ) → ¬ In p (without p o)
gone p [] h = h
gone p (q ∷ qs) h = by (ℕ_discrete p q) h (gone p qs)
  where
    by : (d : Dec (p ≡ q)) → In p (whether d (without p qs) (q ∷ without p qs)) → ¬ In p (without p qs) → ⊥
    by (yes e) x rec = rec x
    by (no k) (inl e) rec = k e
    by (no k) (inr x) rec = rec x

pub in_snoc : (j p : ℕ) (ps : List ℕ) → In j (ps ++ (p ∷ [])) → In j ps ⊎ (j ≡ p)
in_snoc j p [] (inl e) = inr e
in_snoc j p [] (inr b) = absurd b
in_snoc j p (q ∷ ps) (inl e) = inl (inl e)
in_snoc j p (q ∷ ps) (inr i) = further (in_snoc j p ps i)
  where
    further : In j ps ⊎ (j ≡ p) → In j (q ∷ ps) ⊎ (j ≡ p)
    further (inl h) = inl (inr h)
    further (inr e) = inr e

pub in_left : (j p : ℕ) (ps : List ℕ) → In j ps → In j (ps ++ (p ∷ []))
in_left j p [] b = absurd b
in_left j p (q ∷ ps) (inl e) = inl e
in_left j p (q ∷ ps) (inr i) = inr (in_left j p ps i)

pub in_last : (j p : ℕ) (ps : List ℕ) → j ≡ p → In j (ps ++ (p ∷ []))
in_last j p [] e = inl e
in_last j p (q ∷ ps) e = inr (in_last j p ps e)

pub distinct_snoc : (p : ℕ) (ps : List ℕ) → Distinct ps → ¬ In p ps → Distinct (ps ++ (p ∷ []))
distinct_snoc p [] d n = ((λ h. h), tt)
distinct_snoc p (q ∷ ps) d n = (λ i. apart (in_snoc q p ps i), distinct_snoc p ps d.1 (λ i. n (inr i)))
  where
    apart : In q ps ⊎ (q ≡ p) → ⊥
    apart (inl i) = d.0 i
    apart (inr e) = n (inl (sym e))

pub in_without : (j p : ℕ) (ps : List ℕ) → In j (without p ps) → In j ps
in_without j p [] b = b
in_without j p (q ∷ ps) i = by (ℕ_discrete p q) i (in_without j p ps)
  where
    by : (d : Dec (p ≡ q)) → In j (whether d (without p ps) (q ∷ without p ps)) → (In j (without p ps) → In j ps) → In j (q ∷ ps)
    by (yes e) h rec = inr (rec h)
    by (no n) (inl e) rec = inl e
    by (no n) (inr h) rec = inr (rec h)

pub in_other : (j p : ℕ) (ps : List ℕ) → In j ps → j ≢ p → In j (without p ps)
in_other j p [] b n = b
in_other j p (q ∷ ps) i n = by (ℕ_discrete p q) i (in_other j p ps)
  where
    by : (d : Dec (p ≡ q)) → In j (q ∷ ps) → (In j ps → j ≢ p → In j (without p ps)) → In j (whether d (without p ps) (q ∷ without p ps))
    by (yes e) (inl f) rec = absurd (n (f ∙ sym e))
    by (yes e) (inr h) rec = rec h n
    by (no k) (inl f) rec = inl f
    by (no k) (inr h) rec = inr (rec h n)

pub distinct_without : (p : ℕ) (ps : List ℕ) → Distinct ps → Distinct (without p ps)
distinct_without p [] d = d
distinct_without p (q ∷ ps) d = by (ℕ_discrete p q) (distinct_without p ps d.1)
  where
    by : (e : Dec (p ≡ q)) → Distinct (without p ps) → Distinct (whether e (without p ps) (q ∷ without p ps))
    by (yes e) rec = rec
    by (no n) rec = ((λ i. d.0 (in_without q p ps i)), rec)

-- ---- the places of stays

module _ {X : Type 0} where
  pub places_snoc : (ss : List (Stay X)) (s : Stay X) → places_of (ss ++ (s ∷ [])) ≡ places_of ss ++ (s.at ∷ [])
  places_snoc [] s = refl
  places_snoc (r ∷ ss) s = ap (λ ps. r.at ∷ ps) (places_snoc ss s)

  pub places_longer : (p : ℕ) (x : X) (ss : List (Stay X)) → places_of (map (longer p x) ss) ≡ places_of ss
  places_longer p x [] = refl
  places_longer p x (s ∷ ss) = by (ℕ_discrete p s.at) (places_longer p x ss)
    where
      by : (d : Dec (p ≡ s.at)) → places_of (map (longer p x) ss) ≡ places_of ss
          → places_of (whether d (record { at = s.at; events = s.events ++ (x ∷ []) }) s ∷ map (longer p x) ss) ≡ s.at ∷ places_of ss
      by (yes e) rec = ap (λ ps. s.at ∷ ps) rec
      by (no n) rec = ap (λ ps. s.at ∷ ps) rec

  pub places_others : (p : ℕ) (ss : List (Stay X)) → places_of (others p ss) ≡ without p (places_of ss)
  places_others p [] = refl
  places_others p (s ∷ ss) =
      let d = ℕ_discrete p s.at in
      whether_through places_of d (others p ss) (s ∷ others p ss) ∙ ap (λ ps. whether d ps (s.at ∷ ps)) (places_others p ss)

-- ---- the stay at a place, and the others

module _ {Y : Type 0} where
  module _ (p : ℕ) (s : Stay Y) (ss : List (Stay Y)) where
    pub events_here : p ≡ s.at → events_at p (s ∷ ss) ≡ s.events
    events_here e = whether_yes (ℕ_discrete p s.at) s.events (events_at p ss) e

    pub events_there : (p ≡ s.at → ⊥) → events_at p (s ∷ ss) ≡ events_at p ss
    events_there n = whether_no (ℕ_discrete p s.at) s.events (events_at p ss) n

    pub others_here : p ≡ s.at → others p (s ∷ ss) ≡ others p ss
    others_here e = whether_yes (ℕ_discrete p s.at) (others p ss) (s ∷ others p ss) e

    pub others_there : (p ≡ s.at → ⊥) → others p (s ∷ ss) ≡ s ∷ others p ss
    others_there n = whether_no (ℕ_discrete p s.at) (others p ss) (s ∷ others p ss) n

  module _ (p : ℕ) (y : Y) (s : Stay Y) where
    pub longer_here : p ≡ s.at → longer p y s ≡ record { at = s.at; events = s.events ++ (y ∷ []) }
    longer_here e = whether_yes (ℕ_discrete p s.at) (record { at = s.at; events = s.events ++ (y ∷ []) }) s e

    pub longer_there : (p ≡ s.at → ⊥) → longer p y s ≡ s
    longer_there n = whether_no (ℕ_discrete p s.at) (record { at = s.at; events = s.events ++ (y ∷ []) }) s n

  pub no_events : (p : ℕ) (ss : List (Stay Y)) → ¬ In p (places_of ss) → events_at p ss ≡ []
  no_events p [] n = refl
  no_events p (s ∷ ss) n = events_there p s ss (λ e. n (inl e)) ∙ no_events p ss (λ i. n (inr i))

  pub none_longer : (p : ℕ) (y : Y) (ss : List (Stay Y)) → ¬ In p (places_of ss) → map (longer p y) ss ≡ ss
  none_longer p y [] n = refl
  none_longer p y (s ∷ ss) n = ap₂ (λ (r : Stay Y) (rs : List (Stay Y)). r ∷ rs) (longer_there p y s (λ e. n (inl e))) (none_longer p y ss (λ i. n (inr i)))

  -- what is taken out at one place stands at no other
  pub events_others : (p q : ℕ) (ss : List (Stay Y)) → (p ≡ q → ⊥) → events_at p (others q ss) ≡ events_at p ss
  events_others p q [] n = refl
  events_others p q (s ∷ ss) n = by (ℕ_discrete q s.at) (ℕ_discrete p s.at) (events_others p q ss n)
    where
      by : Dec (q ≡ s.at) → Dec (p ≡ s.at) → events_at p (others q ss) ≡ events_at p ss → events_at p (others q (s ∷ ss)) ≡ events_at p (s ∷ ss)
      by (yes e) d rec = ap (events_at p) (others_here q s ss e) ∙ (rec ∙ sym (events_there p s ss (λ f. n (f ∙ sym e))))
      by (no k) (yes f) rec = ap (events_at p) (others_there q s ss k) ∙ (events_here p s (others q ss) f ∙ sym (events_here p s ss f))
      by (no k) (no j) rec = ap (events_at p) (others_there q s ss k) ∙ (events_there p s (others q ss) j ∙ (rec ∙ sym (events_there p s ss j)))

  pub none_left : (p : ℕ) (ss : List (Stay Y)) → events_at p (others p ss) ≡ []
  none_left p ss = no_events p (others p ss) (subst (λ ps. ¬ In p ps) (sym (places_others p ss)) (gone p (places_of ss)))
