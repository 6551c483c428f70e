-- A stay by itself, and its replay in any table that has its place free and its call nowhere. A stay is built at its end, event by
-- event, as the fold builds it (`Part`, and `Whole` with its end); it is replayed turn by turn, by the law `again`.
use mathlib.Core.Path.{◌≡◌, refl}
use mathlib.Core.Logic.{◌≢◌}
use mathlib.Core.List.{List, [], ◌∷◌, ◌++◌}
use Prim.Native.Nat.{ℕ, zero, ◌<◌, suc}
use native.Mathlib.Decide.{ℕ_discrete}
use lib.ListN.{length, get_or, set, replicate}
use lib.Seq.{get_or-set_same, get_or-set_other, set-set, set-get_or}
use Rattle.stays.specs.Stays.{starts, goes_on, ends, Done, Machine, whether, Replays, stop, go}
use Rattle.stays.proofs.Places.{arrange}
use Rattle.stays.proofs.Laws.{Laws}

pub getD-free {ℓ} : {A : Type ℓ} (a : A) (n i : ℕ) → get_or (replicate n a) i a ≡ a
getD-free a zero i = refl
getD-free a (suc n) zero = refl
getD-free a (suc n) (suc i) = getD-free a n i

alone : (p : ℕ) (d : Dec (p ≡ p)) → whether d [] (p ∷ []) ≡ []
alone p (yes e) = refl
alone p (no n) = absurd (n refl)

module _ (m : Machine) where
  pub replays_append : {t u v : m.Table} {xs ys : List (Done m.Event m.Answer)} → Replays m t xs u → Replays m u ys v → Replays m t (xs ++ ys) v
  replays_append stop b = b
  replays_append (go e k r) b = go e k (replays_append r b)

module _ (m : Machine) (l : Laws m) where
  open m use {Table, Event, Answer, next, mark}
  open l use {Core, Call, size, free, call, Holds, Turn, free_holds, inside, agrees, Shows, shows_size, again}

  -- A stay that has not ended: from the free place to the record.
  pub data Part (p : ℕ) (c : Call) : List (Done Event Answer) → Core → Type 0 where
    begun : {x : Done Event Answer} {r : Core} → Turn p free x r → mark x ≡ starts → call x ≡ c → Part p c (x ∷ []) r
    onward : {xs : List (Done Event Answer)} {x : Done Event Answer} {r s : Core} → Part p c xs r → Turn p r x s → mark x ≡ goes_on → call x ≡ c → Part p c (xs ++ (x ∷ [])) s

  -- A stay that has ended.
  pub data Whole : List (Done Event Answer) → Type 0 where
    whole : {p : ℕ} {c : Call} {xs : List (Done Event Answer)} {x : Done Event Answer} {r : Core} → Part p c xs r → Turn p r x free → mark x ≡ ends → call x ≡ c → Whole (xs ++ (x ∷ []))

  -- The call stands at no other place.
  abbrev pub Elsewhere : List Core → ℕ → Call → Type 0
  Elsewhere cs p c = (j : ℕ) → j ≢ p → ¬ Holds (get_or cs j free) c

  pub part_inside : {p : ℕ} {c : Call} {xs : List (Done Event Answer)} {r : Core} → Part p c xs r → p < size
  part_inside (begun t e k) = inside t
  part_inside (onward h t e k) = inside t

  pub within : {t : Table} {cs : List Core} {o : List ℕ} → Shows t cs o → {p : ℕ} → p < size → p < length cs
  within sh h = rw (shows_size sh) h

  step_in : {t : Table} {cs : List Core} {o : List ℕ} → Shows t cs o → {p : ℕ} {r s : Core} {x : Done Event Answer} {c : Call} → Turn p r x s
      → get_or cs p free ≡ r → call x ≡ c → Elsewhere cs p c
      → Replays m t (x ∷ []) (next t x.event) × Shows (next t x.event) (set cs p s) (arrange (mark x) p o)
  step_in {t} {cs} sh {p} {r} {s} {x} turn e k other =
      let here : Turn p (get_or cs p free) x s = rw e turn in
      let a = again sh here (λ j n. rw k (other j n)) in
      (go a.0 (agrees turn) stop, a.1)

  pub embed : {t : Table} {cs : List Core} {o : List ℕ} → Shows t cs o → {p : ℕ} {c : Call} → get_or cs p free ≡ free → Elsewhere cs p c
      → {xs : List (Done Event Answer)} {r : Core} → Part p c xs r
      → (u : Table) × Replays m t xs u × Shows u (set cs p r) (o ++ (p ∷ []))
  embed sh e other (begun {x} turn k q) =
      let a = step_in sh turn e q other in
      (_, a.0, rw k at a.1)
  embed {t} {cs} {o} sh {p} {c} e other (onward {xs} {x} {r} {s} h turn k q) =
      let b = embed sh e other h in
      let same : get_or (set cs p r) p free ≡ r = get_or-set_same cs p r free (within sh (inside turn)) in
      let a = step_in b.2 turn same q (λ j n. rw get_or-set_other (other j n)) in
      (_, replays_append m b.1 a.0, rw (k, set-set) at a.1)

  -- An ended stay leaves every table as it was.
  pub embed_whole : {t : Table} → Shows t (replicate size free) [] → {xs : List (Done Event Answer)} → Whole xs
      → (u : Table) × Replays m t xs u × Shows u (replicate size free) []
  embed_whole sh (whole {p} {c} {xs} {x} {r} h turn k q) =
      let cs : List Core = replicate size free in
      let e : get_or cs p free ≡ free = getD-free free size p in
      let other : Elsewhere cs p c = λ j n. rw (getD-free free size j) (free_holds c) in
      let b = embed sh e other h in
      let same : get_or (set cs p r) p free ≡ r = get_or-set_same cs p r free (within sh (inside turn)) in
      let a = step_in b.2 turn same q (λ j n. rw (get_or-set_other cs p j r free n) (other j n)) in
      let back : set cs p free ≡ cs = rw e at (set-get_or cs p free) in
      (_, replays_append m b.1 a.0, rw (k, set-set, back, alone p (ℕ_discrete p p)) at a.1)
