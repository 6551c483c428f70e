-- The invariant `Inv` holds along every run, and with it the rearranged events are accepted again: a refused event keeps the table, and an
-- accepted one starts a stay, goes on with it or ends it, each by the law of its mark.
use mathlib.Core.Path.{◌≡◌, refl, sym, ◌∙◌, subst}
use mathlib.Core.Logic.{◌≢◌, ◌⊎◌, inl, inr}
use mathlib.Core.Bool.{Bool, true, false}
use mathlib.Core.List.{List, [], ◌∷◌, ◌++◌, map}
use Prim.Native.Nat.{ℕ, ◌<◌}
use native.Mathlib.Decide.{ℕ_discrete}
use lib.ListN.{length, get_or, set, replicate}
use lib.Seq.{get_or-set_same, get_or-set_other}
use Rattle.stays.specs.Stays.{In, places_of, Mark, starts, goes_on, ends, Done, Machine, done, whether, Stay, Stays, longer, others, events_at, add, none, keep, final, run, stays, Rearranges}
use Rattle.stays.proofs.Places.{dec_in, arrange, without, in_last, in_left, in_other, distinct_snoc, distinct_without, places_snoc, places_longer, places_others, Allowed, Follows}
use Rattle.stays.proofs.Numbers.{places_added}
use Rattle.stays.proofs.Laws.{Laws}
use Rattle.stays.proofs.Part.{begun, onward, Whole, whole, within, getD-free}
use Rattle.stays.proofs.Build.{Stands, Opens, Wholes, Inv, replayed}

-- ---- the invariant

module _ (m : Machine) (l : Laws m) where
  open m use {Table, Event, Answer, empty, next, answer, accepted, mark, place}
  open l use {Core, Call, size, free, call, Holds, Turn, free_holds, one_call, inside, at_start, at_going, at_end, Shows, shows_empty, refused, taken}

  stands_other : {cs : List Core} {q : ℕ} {xs : List (Done Event Answer)} (p : ℕ) (r : Core) → Stands m l cs q xs → q ≢ p → Stands m l (set cs p r) q xs
  stands_other {cs} {q} p r st n =
      let e : get_or (set cs p r) q free ≡ get_or cs q free = get_or-set_other cs p q r free n in
      record { whose = st.whose; holds = rw e st.holds; part = rw e st.part }

  opens_other : (cs : List Core) (p : ℕ) (r : Core) (ss : List (Stay (Done Event Answer))) → Opens m l cs ss → ¬ In p (places_of ss) → Opens m l (set cs p r) ss
  opens_other cs p r [] os n = tt
  opens_other cs p r (s ∷ ss) os n = (stands_other p r os.0 (λ e. n (inl (sym e))), opens_other cs p r ss os.1 (λ i. n (inr i)))

  pub stand_at : (cs : List Core) (p : ℕ) (ss : List (Stay (Done Event Answer))) → Opens m l cs ss → In p (places_of ss) → Stands m l cs p (events_at p ss)
  stand_at cs p [] os b = absurd b
  stand_at cs p (s ∷ ss) os i = by (ℕ_discrete p s.at) i (stand_at cs p ss os.1)
    where
      by : (d : Dec (p ≡ s.at)) → In p (places_of (s ∷ ss)) → (In p (places_of ss) → Stands m l cs p (events_at p ss)) → Stands m l cs p (whether d s.events (events_at p ss))
      by (yes e) h rec = subst (λ q. Stands m l cs q s.events) (sym e) os.0
      by (no n) (inl e) rec = absurd (n e)
      by (no n) (inr h) rec = rec h

  opens_snoc : (cs : List Core) (ss : List (Stay (Done Event Answer))) (s : Stay (Done Event Answer)) → Opens m l cs ss → Stands m l cs s.at s.events → Opens m l cs (ss ++ (s ∷ []))
  opens_snoc cs [] s os st = (st, tt)
  opens_snoc cs (r ∷ ss) s os st = (os.0, opens_snoc cs ss s os.1 st)

  stands_longer : {cs : List Core} {p : ℕ} {xs : List (Done Event Answer)} {x : Done Event Answer} {r : Core} → p < length cs → Turn p (get_or cs p free) x r → mark x ≡ goes_on
      → Stands m l cs p xs → Stands m l (set cs p r) p (xs ++ (x ∷ []))
  stands_longer {cs} {p} {xs} {x} {r} b turn k st =
      let e : get_or (set cs p r) p free ≡ r = get_or-set_same cs p r free b in
      let g = at_going turn k in
      let q : call x ≡ st.whose = one_call g.0 st.holds in
      record { whose = st.whose; holds = rw (e, ← q) g.1; part = rw e (onward st.part turn k q) }

  opens_longer : (cs : List Core) {p : ℕ} {x : Done Event Answer} {r : Core} → p < length cs → Turn p (get_or cs p free) x r → mark x ≡ goes_on
      → (ss : List (Stay (Done Event Answer))) → Opens m l cs ss → Opens m l (set cs p r) (map (longer p x) ss)
  opens_longer cs b turn k [] os = tt
  opens_longer cs {p} {x} {r} b turn k (s ∷ ss) os = by (ℕ_discrete p s.at) (opens_longer cs b turn k ss os.1)
    where
      by : (d : Dec (p ≡ s.at)) → Opens m l (set cs p r) (map (longer p x) ss)
          → Opens m l (set cs p r) (whether d (record { at = s.at; events = s.events ++ (x ∷ []) }) s ∷ map (longer p x) ss)
      by (yes e) rec = (subst (λ q. Stands m l (set cs p r) q (s.events ++ (x ∷ []))) e (stands_longer b turn k (subst (λ q. Stands m l cs q s.events) (sym e) os.0)), rec)
      by (no n) rec = (stands_other p r os.0 (λ e. n (sym e)), rec)

  opens_others : (cs : List Core) (p : ℕ) (r : Core) (ss : List (Stay (Done Event Answer))) → Opens m l cs ss → Opens m l (set cs p r) (others p ss)
  opens_others cs p r [] os = tt
  opens_others cs p r (s ∷ ss) os = by (ℕ_discrete p s.at) (opens_others cs p r ss os.1)
    where
      by : (d : Dec (p ≡ s.at)) → Opens m l (set cs p r) (others p ss) → Opens m l (set cs p r) (whether d (others p ss) (s ∷ others p ss))
      by (yes e) rec = rec
      by (no n) rec = (stands_other p r os.0 (λ e. n (sym e)), rec)

  wholes_snoc : (xss : List (List (Done Event Answer))) {xs : List (Done Event Answer)} → Wholes m l xss → Whole m l xs → Wholes m l (xss ++ (xs ∷ []))
  wholes_snoc [] w h = (h, tt)
  wholes_snoc (ys ∷ xss) w h = (w.0, wholes_snoc xss w.1 h)

  module _ {t : Table} {s : Stays (Done Event Answer)} (v : Inv m l t s) {p : ℕ} {x : Done Event Answer} {r : Core} (turn : Turn p (get_or v.cores p free) x r) where
    bound : p < length v.cores
    bound = within m l v.shows (inside turn)

    same : get_or (set v.cores p r) p free ≡ r
    same = get_or-set_same v.cores p r free bound

    other : (j : ℕ) → j ≢ p → get_or (set v.cores p r) j free ≡ get_or v.cores j free
    other j n = get_or-set_other v.cores p j r free n

    -- an occupied place is that of a running stay
    pub occupied : (c : Call) → Holds (get_or v.cores p free) c → In p (places_of s.running)
    occupied c h = by (dec_in p (places_of s.running))
      where
        by : Dec (In p (places_of s.running)) → In p (places_of s.running)
        by (yes i) = i
        by (no n) = absurd (free_holds c (rw (v.rest p n) at h))

    rest_after : (ps : List ℕ) → In p ps ⊎ (r ≡ free) → ((j : ℕ) → j ≢ p → In j (places_of s.running) → In j ps)
        → (j : ℕ) → ¬ In j ps → get_or (set v.cores p r) j free ≡ free
    rest_after ps h kept j n = by (ℕ_discrete j p) h
      where
        by : Dec (j ≡ p) → In p ps ⊎ (r ≡ free) → get_or (set v.cores p r) j free ≡ free
        by (yes e) (inl i) = absurd (n (rw e i))
        by (yes e) (inr f) = rw e (same ∙ f)
        by (no k) a = other j k ∙ v.rest j (λ i. n (kept j k i))

    -- a stay starts where none runs
    fresh : mark x ≡ starts → ¬ In p (places_of s.running)
    fresh k i = let st = stand_at v.cores p s.running v.opens i in free_holds st.whose (rw (at_start turn k).0 at st.holds)

    -- an event may come where it comes
    allowed : (k : Mark) → mark x ≡ k → Allowed k p (places_of s.running)
    allowed starts k = fresh k
    allowed goes_on k = occupied (call x) (at_going turn k).0
    allowed ends k = occupied (call x) (at_end turn k).0

    pub inv_starts : {u : Table} → mark x ≡ starts → Shows u (set v.cores p r) (arrange starts p (places_of s.running)) → Inv m l u (add starts p x s)
    inv_starts k sh =
        let g = at_start turn k in
        let now : Stands m l (set v.cores p r) p (x ∷ []) = record { whose = call x; holds = rw same g.1; part = rw same (begun (rw g.0 at turn) k refl) } in
        record {
          cores = set v.cores p r;
          shows = rw places_snoc sh;
          wholes = v.wholes;
          opens = opens_snoc (set v.cores p r) s.running (record { at = p; events = x ∷ [] }) (opens_other v.cores p r s.running v.opens (fresh k)) now;
          distinct = rw places_snoc (distinct_snoc p (places_of s.running) v.distinct (fresh k));
          rest = rw places_snoc (rest_after (places_of s.running ++ (p ∷ [])) (inl (in_last p p (places_of s.running) refl)) (λ j n i. in_left j p (places_of s.running) i));
        }

    pub inv_goes_on : {u : Table} → mark x ≡ goes_on → Shows u (set v.cores p r) (arrange goes_on p (places_of s.running)) → Inv m l u (add goes_on p x s)
    inv_goes_on k sh =
        let g = at_going turn k in
        record {
          cores = set v.cores p r;
          shows = rw places_longer sh;
          wholes = v.wholes;
          opens = opens_longer v.cores bound turn k s.running v.opens;
          distinct = rw places_longer v.distinct;
          rest = rw places_longer (rest_after (places_of s.running) (inl (occupied (call x) g.0)) (λ j n i. i));
        }

    pub inv_ends : {u : Table} → mark x ≡ ends → Shows u (set v.cores p r) (arrange ends p (places_of s.running)) → Inv m l u (add ends p x s)
    inv_ends k sh =
        let g = at_end turn k in
        let st = stand_at v.cores p s.running v.opens (occupied (call x) g.0) in
        record {
          cores = set v.cores p r;
          shows = rw places_others sh;
          wholes = wholes_snoc s.ended v.wholes (whole st.part (rw g.1 at turn) k (one_call g.0 st.holds));
          opens = opens_others v.cores p r s.running v.opens;
          distinct = rw places_others (distinct_without p (places_of s.running) v.distinct);
          rest = rw places_others (rest_after (without p (places_of s.running)) (inr g.1) (λ j n i. in_other j p (places_of s.running) i n));
        }

  pub inv_taken : {t : Table} {s : Stays (Done Event Answer)} → Inv m l t s → (e : Event) → accepted (answer t e) ≡ true
      → Inv m l (next t e) (add (mark (done m t e)) (place (done m t e)) (done m t e) s)
  inv_taken {t} {s} v e k = by (mark (done m t e)) refl a.2
    where
      a : (r : Core) × Turn (place (done m t e)) (get_or v.cores (place (done m t e)) free) (done m t e) r × Shows (next t e) (set v.cores (place (done m t e)) r) (arrange (mark (done m t e)) (place (done m t e)) (places_of s.running))
      a = taken v.shows e k

      by : (k : Mark) → mark (done m t e) ≡ k → Shows (next t e) (set v.cores (place (done m t e)) a.0) (arrange k (place (done m t e)) (places_of s.running))
          → Inv m l (next t e) (add k (place (done m t e)) (done m t e) s)
      by starts q sh = inv_starts v a.1 q sh
      by goes_on q sh = inv_goes_on v a.1 q sh
      by ends q sh = inv_ends v a.1 q sh

  inv_run : {t : Table} {s : Stays (Done Event Answer)} → Inv m l t s → (es : List Event) → Inv m l (final m t es) (stays m s (run m t es))
  inv_run {t = t} {s = s} v [] = v
  inv_run {t = t} {s = s} v (e ∷ es) = by (accepted (answer t e)) refl (λ s' w. inv_run {t = next t e} {s = s'} w es)
    where
      by : (b : Bool) → accepted (answer t e) ≡ b → ((s' : Stays (Done Event Answer)) → Inv m l (next t e) s' → Inv m l (final m (next t e) es) (stays m s' (run m (next t e) es)))
          → Inv m l (final m (next t e) es) (stays m s (keep b (done m t e) (run m (next t e) es)))
      by true k rec = rec (add (mark (done m t e)) (place (done m t e)) (done m t e) s) (inv_taken v e k)
      by false k rec = rec s (rw (refused v.shows e k) v)

  -- along a run, each accepted event may come where it comes
  follows_run : {t : Table} {s : Stays (Done Event Answer)} → Inv m l t s → (es : List Event) → Follows mark place (places_of s.running) (run m t es)
  follows_run {t = t} {s = s} v [] = tt
  follows_run {t = t} {s = s} v (e ∷ es) = by (accepted (answer t e)) refl (λ s' w. follows_run {t = next t e} {s = s'} w es)
    where
      x : Done Event Answer
      x = done m t e

      by : (b : Bool) → accepted (answer t e) ≡ b → ((s' : Stays (Done Event Answer)) → Inv m l (next t e) s' → Follows mark place (places_of s'.running) (run m (next t e) es))
          → Follows mark place (places_of s.running) (keep b x (run m (next t e) es))
      by true k rec = (
        allowed v (taken v.shows e k).1 (mark x) refl,
        subst (λ ps. Follows mark place ps (run m (next t e) es)) (places_added (mark x) (place x) x s) (rec (add (mark x) (place x) x s) (inv_taken v e k)),
      )
      by false k rec = rec s (rw (refused v.shows e k) v)

  pub inv_none : Inv m l empty none
  inv_none = record {
    cores = replicate size free;
    shows = shows_empty;
    wholes = tt;
    opens = tt;
    distinct = tt;
    rest = λ j n. getD-free free size j;
  }

  pub inv_all : (es : List Event) → Inv m l (final m empty es) (stays m none (run m empty es))
  inv_all es = inv_run inv_none es

  pub follows_all : (es : List Event) → Follows mark place [] (run m empty es)
  follows_all es = follows_run inv_none es

  -- of the fold, that its events are accepted again
  pub rearranges : Rearranges m
  rearranges es = replayed m l (inv_all es)
