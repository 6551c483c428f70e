-- The fold over the numbered events of a run, each of which may come where it comes (`Follows`), keeps the order of the run: one event after the other,
-- by `Starts`, `AtPlaces` and `Ends`.
use mathlib.Core.Path.{◌≡◌, refl, sym, ap, subst, ◌∙◌}
use mathlib.Core.List.{List, [], ◌∷◌, ◌++◌, map, append-nil, append_assoc}
use Prim.Native.Nat.{ℕ, suc}
use Rattle.stays.specs.Stays.{Mark, starts, goes_on, ends, Stays, places_of, none, add, fold}
use Rattle.stays.specs.Arranged.{Numbered, Rising, numbered_from, numbered, first_number, last_number, listed, at}
use Rattle.stays.proofs.Places.{arrange, Follows, places_snoc, places_longer, places_others}
use Rattle.stays.proofs.OnlyOne.{at_append}
use Rattle.stays.proofs.Starts.{Started, started_none, started_added}
use Rattle.stays.proofs.AtPlaces.{arranged, Placed, placed_none, placed_added, stands_added}
use Rattle.stays.proofs.Ends.{Over, over_none, over_added}

pub places_added : {Y : Type 0} (k : Mark) (p : ℕ) (y : Y) (s : Stays Y) → places_of (add k p y s).running ≡ arrange k p (places_of s.running)
places_added starts p y s = places_snoc s.running (record { at = p; events = y ∷ [] })
places_added goes_on p y s = places_longer p y s.running
places_added ends p y s = places_others p s.running

module _ {X : Type 0} (mark : X → Mark) (place : X → ℕ) where
  abbrev pub numbered_fold : Stays (Numbered X) → List (Numbered X) → Stays (Numbered X)
  numbered_fold s ys = fold (λ (y : Numbered X). mark y.act) (λ (y : Numbered X). place y.act) s ys

  -- what holds of stays whose events have numbers below n
  record Orderly (n : ℕ) (s : Stays (Numbered X)) : Type 0 where
    started : Started n s.running
    placed : Placed place s.running
    over : Over n s.ended

  module _ (n : ℕ) (x : X) (xs : List X) (s : Stays (Numbered X)) (f : Follows mark place (places_of s.running) (x ∷ xs)) (o : Orderly n s) where
    abbrev y : Numbered X
    y = record { number = n; act = x }

    abbrev more : Stays (Numbered X)
    more = add (mark x) (place x) y s

    orderly_more : Orderly (suc n) more
    orderly_more = record {
      started = started_added n (place x) y refl s o.started (mark x);
      placed = placed_added place (place x) y refl s o.placed (mark x) f.0;
      over = over_added n (place x) y refl s o.over (mark x);
    }

    follows_more : Follows mark place (places_of more.running) xs
    follows_more = subst (λ ps. Follows mark place ps xs) (sym (places_added (mark x) (place x) y s)) f.1

    stands_more : (p : ℕ) → at place p (listed (arranged more)) ≡ at place p (listed (arranged s)) ++ at place p (y ∷ [])
    stands_more p = stands_added place (place x) y refl s o.placed p (mark x) f.0

  orderly_fold : (xs : List X) (n : ℕ) (s : Stays (Numbered X)) → Follows mark place (places_of s.running) xs → Orderly n s → (k : ℕ) × Orderly k (numbered_fold s (numbered_from n xs))
  orderly_fold [] n s f o = (n, o)
  orderly_fold (x ∷ xs) n s f o = orderly_fold xs (suc n) (more n x xs s f o) (follows_more n x xs s f o) (orderly_more n x xs s f o)

  stands_fold : (p : ℕ) (xs : List X) (n : ℕ) (s : Stays (Numbered X)) → Follows mark place (places_of s.running) xs → Orderly n s
      → at place p (listed (arranged (numbered_fold s (numbered_from n xs)))) ≡ at place p (listed (arranged s)) ++ at place p (numbered_from n xs)
  stands_fold p [] n s f o = sym (append-nil (at place p (listed (arranged s))))
  stands_fold p (x ∷ xs) n s f o =
      let here = at place p (listed (arranged s)) in
      let first = at place p (y n x xs s f o ∷ []) in
      let rest = at place p (numbered_from (suc n) xs) in
      stands_fold p xs (suc n) (more n x xs s f o) (follows_more n x xs s f o) (orderly_more n x xs s f o)
      ∙ (ap (λ l. l ++ rest) (stands_more n x xs s f o p)
      ∙ (append_assoc here first rest ∙ ap (λ l. here ++ l) (sym (at_append place p (y n x xs s f o ∷ []) (numbered_from (suc n) xs)))))

  -- ---- from no stay on

  orderly_none : Orderly 1 none
  orderly_none = record { started = started_none 1; placed = placed_none place; over = over_none 1 }

  module _ (xs : List X) (f : Follows mark place [] xs) where
    pub ends_rise : Rising (map last_number (arranged (numbered_fold none (numbered xs))).ended)
    ends_rise = (orderly_fold xs 1 none f orderly_none).1.over.rise

    pub starts_rise : Rising (map first_number (arranged (numbered_fold none (numbered xs))).running)
    starts_rise = (orderly_fold xs 1 none f orderly_none).1.started.rise

    pub same_at : (p : ℕ) → at place p (listed (arranged (numbered_fold none (numbered xs)))) ≡ at place p (numbered xs)
    same_at p = stands_fold p xs 1 none f orderly_none
