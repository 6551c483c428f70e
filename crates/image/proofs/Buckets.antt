-- Buckets of calls: an occupied place with the call of a later one is in its bucket, and the last place of a bucket leads back to every one
-- before it. So the places of a bucket, from its last one down, are all that have to be looked at. By induction on the places.
use mathlib.Core.Path.{◌≡◌, refl, sym, ap, ◌∙◌}
use mathlib.Core.Bool.{Bool, true, false, cond, not, ◌&&◌}
use mathlib.Core.List.{List}
use mathlib.Core.Logic.{⊎_elim}
use Prim.Native.Nat.{ℕ, zero, suc, ◌+◌, ◌<◌, ◌≤◌}
use native.Mathlib.Numerals.{add-one}
use native.Mathlib.Omega.{arith}
use lib.Dec.{eqb}
use lib.ListN.{get_or, set, replicate, length-set, length-replicate, get_or-replicate}
use lib.Seq.{get_or-set_same, get_or-set_other}
use borrow.Author.Count.{below_more}
use borrow.Author.Tests.{eqb-true, eqb-false, eq-eqb, ne_eqb, not-true}
use Rattle.table.specs.Places.{place_count}
use Rattle.laws.proofs.Bools.{and_left, and_right, not_both, less_or, equal_or}
use Rattle.image.specs.Image.{state_octet}
use Rattle.image.specs.Quick.{Busy, call_at, bucket_of, in_bucket, last_in, Linked, Apart, Entered}

module _ (s : List ℕ) (h k : ℕ) where
  in_made : Busy s k → bucket_of (call_at s k) ≡ h → in_bucket s h k ≡ true
  unfolding in_bucket
  in_made b e = rw (ne_eqb (state_octet s k) 0 b, eq-eqb (bucket_of (call_at s k)) h e)

  in_not : (bucket_of (call_at s k) ≡ h → ⊥) → in_bucket s h k ≡ false
  unfolding in_bucket
  in_not n = by (not (eqb (state_octet s k) 0)) (ne_eqb (bucket_of (call_at s k)) h n)
    where
      by : (b : Bool) → eqb (bucket_of (call_at s k)) h ≡ false → (b && eqb (bucket_of (call_at s k)) h) ≡ false
      by true e = e
      by false e = refl

  in_free : state_octet s k ≡ 0 → in_bucket s h k ≡ false
  unfolding in_bucket
  in_free e = rw e

  module _ (e : in_bucket s h k ≡ true) where
    in_busy : Busy s k
    unfolding in_bucket
    in_busy = eqb-false (state_octet s k) 0 (not-true (eqb (state_octet s k) 0) (and_left (not (eqb (state_octet s k) 0)) _ e))

    in_same : bucket_of (call_at s k) ≡ h
    unfolding in_bucket
    in_same = eqb-true (bucket_of (call_at s k)) h (and_right (not (eqb (state_octet s k) 0)) _ e)

-- ---- the last place of a bucket

module _ (s : List ℕ) (h : ℕ) where
  last_here : (n : ℕ) → in_bucket s h n ≡ true → last_in s h (n + 1) ≡ n + 1
  unfolding last_in
  last_here n e = rw (add-one n, e)

  last_before : (n : ℕ) → in_bucket s h n ≡ false → last_in s h (n + 1) ≡ last_in s h n
  unfolding last_in
  last_before n e = rw (add-one n, e)

  last_le : (n : ℕ) → last_in s h n ≤ n
  unfolding last_in
  last_le zero = omega arith
  last_le (suc n) = by (in_bucket s h n) (last_le n)
    where
      by : (b : Bool) → last_in s h n ≤ n → cond b (suc n) (last_in s h n) ≤ suc n
      by true l = omega arith
      by false l = omega arith

  last_in_lem : (n q : ℕ) → last_in s h n ≡ suc q → in_bucket s h q ≡ true
  unfolding last_in
  last_in_lem zero q e = absurd (omega arith)
  last_in_lem (suc n) q e = by (in_bucket s h n) refl e (last_in_lem n q)
    where
      by : (b : Bool) → in_bucket s h n ≡ b → cond b (suc n) (last_in s h n) ≡ suc q → (last_in s h n ≡ suc q → in_bucket s h q ≡ true)
          → in_bucket s h q ≡ true
      by true i e f = let same : q ≡ n = omega arith in rw same i
      by false i e f = f e

  last_past : (n k : ℕ) → k < n → last_in s h n ≤ k → in_bucket s h k ≡ false
  unfolding last_in
  last_past zero k l p = absurd (omega arith)
  last_past (suc n) k l p = by (in_bucket s h n) refl p (last_past n k)
    where
      by : (b : Bool) → in_bucket s h n ≡ b → cond b (suc n) (last_in s h n) ≤ k → (k < n → last_in s h n ≤ k → in_bucket s h k ≡ false)
          → in_bucket s h k ≡ false
      by true i p f = absurd (omega arith)
      by false i p f = ⊎_elim (λ lt. f lt p) (λ le. let same : k ≡ n = omega arith in rw same i) (less_or k n)

-- ---- from the last place of a bucket down

-- p is one more than a place below i and in its bucket, or 0, and no place from p on has the call of i
pub record Walk (s : List ℕ) (i p : ℕ) : Type 0 where
  pub low : p ≤ i
  pub here : (q : ℕ) → p ≡ suc q → in_bucket s (bucket_of (call_at s i)) q ≡ true
  pub passed : (k : ℕ) → k < i → p ≤ k → Apart s k i

walk_from : (s : List ℕ) (i m p : ℕ) → m ≤ i → p ≡ last_in s (bucket_of (call_at s i)) m → ((k : ℕ) → k < i → m ≤ k → Apart s k i) → Walk s i p
walk_from s i m p le e passed =
    let h = bucket_of (call_at s i) in
    record {
      low = omega (arith, last_le s h m);
      here = λ q f. last_in_lem s h m q (sym e ∙ f);
      passed = λ k l g. ⊎_elim
          (λ lt bk bi c. not_both (in_made s h k bk (ap bucket_of c)) (last_past s h m k lt (omega arith)))
          (λ ge. passed k l ge)
          (less_or k m);
    }

pub walk_start : {s : List ℕ} {i p : ℕ} → p ≡ last_in s (bucket_of (call_at s i)) i → Walk s i p
walk_start {s} {i} {p} e = walk_from s i i p (omega arith) e (λ k l g. absurd (omega arith))

-- the place that a walk has come to is occupied
module _ {s : List ℕ} {i p q : ℕ} (w : Walk s i p) (at : p ≡ suc q) where
  pub walk_busy : Busy s q
  walk_busy = in_busy s (bucket_of (call_at s i)) q (w.here q at)

  module _ (before : List ℕ) (linked : Linked s i before) where
    link : get_or before q 0 ≡ last_in s (bucket_of (call_at s i)) q
    link = linked q (omega (arith, w.low)) walk_busy ∙ ap (λ (h : ℕ). last_in s h q) (in_same s (bucket_of (call_at s i)) q (w.here q at))

    pub walk_less : get_or before q 0 < p
    walk_less = omega (arith, link, last_le s (bucket_of (call_at s i)) q)

    -- if it has another call, the walk goes on to the one before it
    pub walk_on : (call_at s q ≡ call_at s i → ⊥) → Walk s i (get_or before q 0)
    walk_on other =
        walk_from s i q (get_or before q 0) (omega (arith, w.low)) link
        (λ k l g. ⊎_elim
        (λ lt. w.passed k l (omega arith))
        (λ le. let here : k ≡ q = omega arith in λ bk bi c. other (rw here at c))
        (less_or q k))

-- ---- entering a place

pub entered_none : (s : List ℕ) → Entered s 0 (replicate 509 0) (replicate place_count 0)
unfolding last_in
entered_none s = record {
  buckets = length-replicate {A = ℕ} 509 0;
  places = length-replicate {A = ℕ} place_count 0;
  lasts = λ h l. get_or-replicate 509 h 0 0 l;
  linked = λ k l. absurd (omega arith);
  apart = λ m l. absurd (omega arith);
}

module _ {s : List ℕ} {n : ℕ} {last before : List ℕ} (e : Entered s n last before) where
  pub enter_free : state_octet s n ≡ 0 → Entered s (n + 1) last before
  enter_free z = record {
    buckets = e.buckets;
    places = e.places;
    lasts = λ h l. e.lasts h l ∙ sym (last_before s h n (in_free s h n z));
    linked = below_more _ n e.linked (λ b. absurd (b z));
    apart = below_more _ n e.apart (λ k l bk bn c. bn z);
  }

  module _ {h : ℕ} (eh : h ≡ bucket_of (call_at s n)) (lh : h < 509) where
    pub enter_first : get_or last h 0 ≡ last_in s (bucket_of (call_at s n)) n
    enter_first = e.lasts h lh ∙ ap (λ (g : ℕ). last_in s g n) eh

    pub enter_busy : n < place_count → Busy s n → ((k : ℕ) → k < n → Apart s k n)
        → Entered s (n + 1) (set last h (n + 1)) (set before n (get_or last h 0))
    enter_busy ln busy apart =
        let made : last_in s h (n + 1) ≡ n + 1 = last_here s h n (in_made s h n busy (sym eh)) in
        record {
          buckets = length-set last h (n + 1) ∙ e.buckets;
          places = length-set before n (get_or last h 0) ∙ e.places;
          lasts = λ g l. ⊎_elim
              (λ same. rw same (get_or-set_same last h (n + 1) 0 (omega (arith, e.buckets)) ∙ sym made))
              (λ other. get_or-set_other last h g (n + 1) 0 other
              ∙ e.lasts g l
              ∙ sym (last_before s g n (in_not s g n (λ q. other (sym q ∙ sym eh)))))
              (equal_or g h);
          linked = below_more _ n
              (λ k l b. get_or-set_other before n k (get_or last h 0) 0 (λ q. omega arith) ∙ e.linked k l b)
              (λ b. get_or-set_same before n (get_or last h 0) 0 (omega (arith, e.places)) ∙ enter_first);
          apart = below_more _ n e.apart apart;
        }
