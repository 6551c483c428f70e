-- The running stays, one after the other, build up the table that holds them; the ended ones before them change nothing. On the way
-- each place is as it will be, or free and still to come (`Due`). `Inv` is what holds of a table and of the stays that led to it; with
-- it the stays are replayed from the empty table to this one (`replayed`).
use mathlib.Core.Path.{◌≡◌, refl, sym, ◌∙◌}
use mathlib.Core.Logic.{◌⊎◌, inl, inr}
use mathlib.Core.List.{List, [], ◌∷◌, ◌++◌, append-nil}
use Prim.Native.Nat.{ℕ, ◌<◌}
use native.Mathlib.Decide.{ℕ_discrete}
use lib.ListN.{length, get_or, set, replicate}
use lib.Seq.{get_or-set_same, get_or-set_other, ext_get_or, append_snoc}
use Rattle.stays.specs.Stays.{In, places_of, Done, Machine, Replays, stop, Stay, Stays, joined, stay_by_stay, each}
use Rattle.stays.proofs.Places.{dec_in, Distinct}
use Rattle.stays.proofs.Laws.{Laws}
use Rattle.stays.proofs.Part.{Part, Whole, embed, embed_whole, getD-free, replays_append, part_inside, within, Elsewhere}

module _ (m : Machine) (l : Laws m) where
  open m use {Table, Event, Answer, empty}
  open l use {Core, Call, size, free, Holds, free_holds, Shows, shows_empty, shows_size, shows_one, shows_same}

  -- The events lead from the free place to the record there.
  pub record Stands (cs : List Core) (p : ℕ) (xs : List (Done Event Answer)) : Type 0 where
    pub whose : Call
    pub holds : Holds (get_or cs p free) whose
    pub part : Part m l p whose xs (get_or cs p free)

  abbrev pub Opens : List Core → List (Stay (Done Event Answer)) → Type 0
  Opens cs [] = Unit {0}
  Opens cs (s ∷ ss) = Stands cs s.at s.events × Opens cs ss

  abbrev pub Wholes : List (List (Done Event Answer)) → Type 0
  Wholes [] = Unit {0}
  Wholes (xs ∷ xss) = Whole m l xs × Wholes xss

  -- A place on the way: as it will be, or free and still to come.
  abbrev Due : List Core → List Core → List ℕ → ℕ → Type 0
  Due us cs ps j = ((get_or us j free ≡ get_or cs j free) × (¬ In j ps)) ⊎ ((get_or us j free ≡ free) × In j ps)

  due_free : (us cs : List Core) (p : ℕ) (ps : List ℕ) → Due us cs (p ∷ ps) p → get_or us p free ≡ free
  due_free us cs p ps (inl h) = absurd (h.1 (inl refl))
  due_free us cs p ps (inr h) = h.0

  due_other : (us cs : List Core) (ps : List ℕ) (j : ℕ) (c : Call) → Due us cs ps j → ¬ Holds (get_or cs j free) c → ¬ Holds (get_or us j free) c
  due_other us cs ps j c (inl h) n = rw h.0 n
  due_other us cs ps j c (inr h) n = rw h.0 (free_holds c)

  due_next : (us cs : List Core) (p : ℕ) (ps : List ℕ) → p < length us → ¬ In p ps → (j : ℕ) → Due us cs (p ∷ ps) j → Dec (j ≡ p) → Due (set us p (get_or cs p free)) cs ps j
  due_next us cs p ps b n j d (yes e) = inl (rw e (get_or-set_same us p (get_or cs p free) free b), rw e n)
  due_next us cs p ps b n j (inl h) (no k) = inl (get_or-set_other us p j (get_or cs p free) free k ∙ h.0, λ i. h.1 (inr i))
  due_next us cs p ps b n j (inr h) (no k) = inr (get_or-set_other us p j (get_or cs p free) free k ∙ h.0, still h.1)
    where
      still : In j (p ∷ ps) → In j ps
      still (inl e) = absurd (k e)
      still (inr i) = i

  build : {f : Table} {cs : List Core} {fo : List ℕ} → Shows f cs fo → (ss : List (Stay (Done Event Answer))) → Opens cs ss → Distinct (places_of ss)
      → {t : Table} {us : List Core} {o : List ℕ} → Shows t us o → ((j : ℕ) → Due us cs (places_of ss) j)
      → (v : Table) × Replays m t (joined (each ss)) v × Shows v cs (o ++ places_of ss)
  build {f} {cs} {fo} shf [] os ds {t} {us} {o} sh due =
      let lengths : length us ≡ length cs = shows_size sh ∙ sym (shows_size shf) in
      let same : us ≡ cs = ext_get_or free us cs lengths (λ i h. final i (due i)) in
      (t, stop, rw (append-nil, ← same) sh)
    where
      final : (i : ℕ) → Due us cs [] i → get_or us i free ≡ get_or cs i free
      final i (inl h) = h.0
      final i (inr h) = absurd h.1
  build {f} {cs} {fo} shf (s ∷ ss) os ds {t} {us} {o} sh due =
      let st = os.0 in
      let p = s.at in
      let other : Elsewhere m l us p st.whose = λ j n. due_other us cs (p ∷ places_of ss) j st.whose (due j) (λ h. n (shows_one shf j p st.whose h st.holds)) in
      let a = embed m l sh (due_free us cs p (places_of ss) (due p)) other st.part in
      let b = build shf ss os.1 ds.1 a.2 (λ j. due_next us cs p (places_of ss) (within m l sh (part_inside m l st.part)) ds.0 j (due j) (ℕ_discrete j p)) in
      (b.0, replays_append m a.1 b.1, rw append_snoc at b.2)

  build_ended : (xss : List (List (Done Event Answer))) → Wholes xss → {t : Table} → Shows t (replicate size free) []
      → (u : Table) × Replays m t (joined xss) u × Shows u (replicate size free) []
  build_ended [] w {t} sh = (t, stop, sh)
  build_ended (xs ∷ xss) w sh =
      let a = embed_whole m l sh w.0 in
      let b = build_ended xss w.1 a.2 in
      (b.0, replays_append m a.1 b.1, b.2)

  -- What holds of a table and of the stays that led to it.
  pub record Inv (t : Table) (s : Stays (Done Event Answer)) : Type 0 where
    pub cores : List Core
    pub shows : Shows t cores (places_of s.running)
    pub wholes : Wholes s.ended
    pub opens : Opens cores s.running
    pub distinct : Distinct (places_of s.running)
    pub rest : (j : ℕ) → ¬ In j (places_of s.running) → get_or cores j free ≡ free

  pub replayed : {t : Table} {s : Stays (Done Event Answer)} → Inv t s → Replays m empty (stay_by_stay s) t
  replayed {t} {s} v =
      let a = build_ended s.ended v.wholes shows_empty in
      let b = build v.shows s.running v.opens v.distinct a.2 (λ j. first j (dec_in j (places_of s.running))) in
      let same : b.0 ≡ t = shows_same b.2 v.shows in
      rw same at (replays_append m a.1 b.1)
    where
      first : (j : ℕ) → Dec (In j (places_of s.running)) → Due (replicate size free) v.cores (places_of s.running) j
      first j (yes i) = inr (getD-free free size j, i)
      first j (no n) = inl (getD-free free size j ∙ sym (v.rest j n), n)
