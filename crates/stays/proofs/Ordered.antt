-- The ranks of a table are those that the order of the starts gives (`Ordered`), and a turn keeps that: a start puts its place at the end of the
-- order, an end takes it out, and any other event leaves order and ranks.
use mathlib.Core.Path.{◌≡◌, refl, sym, ap, subst, ◌∙◌}
use mathlib.Core.Logic.{◌≢◌, inl, inr, ⊎_elim}
use mathlib.Core.Bool.{Bool, true, false, cond, not, ◌&&◌}
use mathlib.Core.List.{List, [], ◌∷◌, ◌++◌}
use Prim.Native.Nat.{ℕ, ◌+◌, ◌<◌}
use native.Mathlib.Decide.{ℕ_discrete}
use native.Mathlib.Omega.{arith}
use lib.ListN.{length}
use Rattle.laws.proofs.Bools.{not_both, equal_or}
use Rattle.table.specs.declared.Side.{Side}
use Rattle.table.specs.declared.Record.{Record}
use Rattle.table.specs.declared.Table.{Table}
use Rattle.table.specs.Places.{is_free, same_side, side_at, record_at, rank_at, place_count}
use Rattle.table.specs.Sound.{is_sound}
use Rattle.table.specs.Ranks.{calls_on, put}
use Rattle.table.proofs.Sides.{side_is, same_side_lem, other_side}
use Rattle.table.proofs.RankLaws.{Drops, drops, keeps, aside, drops_view}
use Rattle.table.proofs.Keep.{put_size, put_wide, put_here, put_other, calls_put, rank_new, rank_kept, rank_freed, ranks_stay, ranks_drop}
use Rattle.step.specs.Promises.{Full}
use Rattle.stays.specs.Stays.{whether, one_if, count, In}
use Rattle.stays.proofs.Places.{Distinct, without, in_snoc, in_left, in_last, distinct_snoc, in_without, in_other, distinct_without, without_not, gone}
use Rattle.stays.proofs.Lists.{count_snoc}
use Rattle.stays.proofs.StartRanks.{rank, rank_out, start_other, start_new, end_aside, end_beside}

-- q is on the side of j
abbrev pub beside : ℕ → ℕ → Bool
beside j q = same_side (side_at q) (side_at j)

-- the number of calls on a side, of places
abbrev pub on_side : Side → ℕ → Bool
on_side a q = same_side (side_at q) a

-- A sound table whose occupied places are those of the order, each with the rank that the order gives it.
pub record Ordered (t : Table) (o : List ℕ) : Type 0 where
  pub full : Full t
  pub sound : is_sound t ≡ true
  pub distinct : Distinct o
  pub used : (j : ℕ) → In j o → is_free (record_at t j).state ≡ false
  pub all : (j : ℕ) → is_free (record_at t j).state ≡ false → In j o
  pub calls : (a : Side) → calls_on t a ≡ count (on_side a) o
  pub ranks : (j : ℕ) → j < place_count → rank_at t j ≡ rank beside 0 o j

-- ---- counting a side

count_without : (f : ℕ → Bool) (p : ℕ) (o : List ℕ) → Distinct o → In p o → count f (without p o) + one_if (f p) ≡ count f o
count_without f p [] d b = absurd b
count_without f p (q ∷ qs) d i = by (ℕ_discrete p q) i (count_without f p qs d.1)
  where
    by : (x : Dec (p ≡ q)) → In p (q ∷ qs) → (In p qs → count f (without p qs) + one_if (f p) ≡ count f qs)
        → count f (whether x (without p qs) (q ∷ without p qs)) + one_if (f p) ≡ one_if (f q) + count f qs
    by (yes e) h rec =
        let same : without p qs ≡ qs = without_not p qs (rw e d.0) in
        let here : one_if (f p) ≡ one_if (f q) = ap (λ x. one_if (f x)) e in
        omega (arith, ap (count f) same, here)
    by (no n) (inl e) rec = absurd (n e)
    by (no n) (inr h) rec = omega (arith, rec h)

pub beside_alike : (j p : ℕ) → beside j p ≡ true → (q : ℕ) → beside j q ≡ beside p q
beside_alike j p h q = let same : side_at p ≡ side_at j = side_is (side_at p) (side_at j) h in rw same

-- ---- a record put anew

module _ (t : Table) (o : List ℕ) (O : Ordered t o) (p : ℕ) (inside : p < place_count) (s : Record) (still : is_sound (put t p s) ≡ true) where
  abbrev size : length t.places ≡ place_count
  size = O.full.0

  abbrev wide : length t.ranks ≡ place_count
  wide = O.full.1

  full_after : Full (put t p s)
  full_after = (put_size t size p inside s, put_wide t size p inside s wide)

  -- which places are occupied after it, by what becomes of this one
  used_after : (q : List ℕ) → (In p q → is_free s.state ≡ false) → ((j : ℕ) → j ≢ p → In j q → In j o) → (j : ℕ) → In j q
      → is_free (record_at (put t p s) j).state ≡ false
  used_after q here there j i =
      ⊎_elim (λ e. subst (λ (k : ℕ). is_free (record_at (put t p s) k).state ≡ false) (sym e) (rw (put_here t size p inside s) (here (subst (λ (k : ℕ). In k q) e i)))) (λ n. rw (put_other t size p inside s j n) (O.used j (there j n i))) (equal_or j p)

  all_after : (q : List ℕ) → (is_free s.state ≡ false → In p q) → ((j : ℕ) → j ≢ p → In j o → In j q) → (j : ℕ)
      → is_free (record_at (put t p s) j).state ≡ false → In j q
  all_after q here there j v =
      ⊎_elim
      (λ e.
      let at_p : is_free (record_at (put t p s) p).state ≡ false = subst (λ (k : ℕ). is_free (record_at (put t p s) k).state ≡ false) e v in
      let new : is_free s.state ≡ false = rw (put_here t size p inside s) at at_p in
      subst (λ (k : ℕ). In k q) (sym e) (here new))
      (λ n. there j n (O.all j (rw (put_other t size p inside s j n) at v)))
      (equal_or j p)

  -- the calls of a side, where this place was free or not and is free or not
  calls_after : (a : Side) (was is : Bool) → is_free (record_at t p).state ≡ was → is_free s.state ≡ is
      → calls_on (put t p s) a + cond {A = ℕ} (on_side a p && not was) 1 0 ≡ calls_on t a + cond {A = ℕ} (on_side a p && not is) 1 0
  calls_after a was is q r = rw (q, r) at (calls_put t size p inside s a)

  one_of : (b : Bool) → cond {A = ℕ} (b && true) 1 0 ≡ one_if b
  one_of true = refl
  one_of false = refl

  none_of : (b : Bool) → cond {A = ℕ} (b && false) 1 0 ≡ 0
  none_of true = refl
  none_of false = refl

  -- ---- a start

  pub ordered_starts : is_free (record_at t p).state ≡ true → is_free s.state ≡ false → Ordered (put t p s) (o ++ (p ∷ []))
  ordered_starts was is =
      let fresh : ¬ In p o = λ i. not_both was (O.used p i) in
      record {
        full = full_after;
        sound = still;
        distinct = distinct_snoc p o O.distinct fresh;
        used = used_after (o ++ (p ∷ [])) (λ i. is) (λ j n i. elim (in_snoc j p o i) [ inl h ↦ h | inr f ↦ absurd (n f) ]);
        all = all_after (o ++ (p ∷ [])) (λ v. in_last p p o refl) (λ j n i. in_left j p o i);
        calls = λ a. omega (arith, calls_after a true false was is, one_of (on_side a p), none_of (on_side a p), O.calls a, count_snoc (on_side a) o p);
        ranks = λ j h.
            ⊎_elim
            (λ e. rw e (rank_new t size p inside s wide is was ∙ omega (arith, O.calls (side_at p), start_new beside 0 p o fresh)))
            (λ n. ranks_stay t size p inside s wide is j n ∙ O.ranks j h ∙ sym (start_other beside 0 j p o n))
            (equal_or j p);
      }

  -- ---- an event that leaves the call there

  pub ordered_goes_on : is_free (record_at t p).state ≡ false → is_free s.state ≡ false → Ordered (put t p s) o
  ordered_goes_on was is = record {
    full = full_after;
    sound = still;
    distinct = O.distinct;
    used = used_after o (λ i. is) (λ j n i. i);
    all = all_after o (λ v. O.all p was) (λ j n i. i);
    calls = λ a. omega (arith, calls_after a false false was is, O.calls a);
    ranks = λ j h.
        ⊎_elim (λ e. rw e (rank_kept t size p inside s wide is was ∙ O.ranks p inside)) (λ n. ranks_stay t size p inside s wide is j n ∙ O.ranks j h) (equal_or j p);
  }

  -- ---- an end

  module _ (was : is_free (record_at t p).state ≡ false) (is : is_free s.state ≡ true) where
    there : In p o
    there = O.all p was

    dropped : (j : ℕ) → j < place_count → j ≢ p → (x : ℕ) → Drops (side_at p) (rank_at t p) j (rank_at t j) x → x ≡ rank beside 0 (without p o) j
    dropped j h n x (drops side lt) =
        let d = end_beside beside j p n (same_side_lem (side_at p) (side_at j) (sym side)) (beside_alike j p (same_side_lem (side_at p) (side_at j) (sym side))) 0 o O.distinct there in
        let e = d.0 (omega (arith, O.ranks p inside, O.ranks j h, lt)) in
        omega (arith, e, O.ranks j h, lt)
    dropped j h n x (keeps side le) =
        let d = end_beside beside j p n (same_side_lem (side_at p) (side_at j) (sym side)) (beside_alike j p (same_side_lem (side_at p) (side_at j) (sym side))) 0 o O.distinct there in
        O.ranks j h ∙ sym (d.1 (omega (arith, O.ranks p inside, O.ranks j h, le)))
    dropped j h n x (aside other) = O.ranks j h ∙ sym (end_aside beside 0 j p o n (other_side (side_at p) (side_at j) (λ e. other (sym e))))

    pub ordered_ends : Ordered (put t p s) (without p o)
    ordered_ends = record {
      full = full_after;
      sound = still;
      distinct = distinct_without p o O.distinct;
      used = used_after (without p o) (λ i. absurd (gone p o i)) (λ j n i. in_without j p o i);
      all = all_after (without p o) (λ v. absurd (not_both is v)) (λ j n i. in_other j p o i n);
      calls = λ a. omega (arith, calls_after a false true was is, one_of (on_side a p), none_of (on_side a p), O.calls a, count_without (on_side a) p o O.distinct there);
      ranks = λ j h.
          ⊎_elim
          (λ e. rw e (rank_freed t size p inside s wide was is ∙ sym (rank_out beside 0 p (without p o) (gone p o))))
          (λ n. ranks_drop t size p inside s wide was is j h n ∙ dropped j h n _ (drops_view (side_at p) (rank_at t p) j (rank_at t j)))
          (equal_or j p);
    }
