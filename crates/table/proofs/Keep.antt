-- A table with one record put anew: what stands at its places, what becomes of the ranks, and when it is sound.
use mathlib.Core.Path.{◌≡◌, refl, sym, ap, ◌∙◌}
use mathlib.Core.Bool.{Bool, true, false, cond, ◌&&◌}
use mathlib.Core.Logic.{⊎_elim}
use mathlib.Core.List.{List}
use Prim.Native.Nat.{ℕ, ◌+◌, ◌-◌, ◌<◌, ◌≤◌}
use native.Mathlib.Nat.{zero-add}
use native.Mathlib.Omega.{arith}
use lib.Dec.{eqb}
use borrow.Author.Tests.{eqb-true, eq-eqb, ne_eqb}
use lib.ListN.{length, get_or, set, length-set}
use lib.Seq.{get_or-set_same, get_or-set_other, set-get_or}
use Rattle.laws.proofs.Bools.{equal_or, not_both}
use Rattle.table.specs.declared.Side.{Side}
use Rattle.table.specs.declared.Record.{Record}
use Rattle.table.specs.declared.Table.{Table}
use Rattle.table.specs.Places.{state_number, is_free, same_side, side_at, no_connection, free_record, blank, record_at, rank_at, place_count}
use Rattle.table.specs.Sound.{fits_side, Sound}
use Rattle.table.specs.Ranks.{held_on, calls_on, lowered, closed_up, Change, comes, goes, neither, change_of, reranked, put}
use Rattle.table.proofs.Sides.{same_side_lem, other_side}
use Rattle.table.proofs.RankLaws.{total_set, closed_size, closed_at, Drops, drops, keeps, aside, drops_view}

-- the record that was there, put again
pub put_same : (t : Table) (i : ℕ) → put t i (record_at t i) ≡ t
put_same t i = by (is_free (record_at t i).state)
  where
    by : (b : Bool) → record { places = set t.places i (record_at t i); ranks = reranked t i (change_of b b) } ≡ t
    by true = λ j. record { places = set-get_or t.places i blank j; ranks = t.ranks }
    by false = λ j. record { places = set-get_or t.places i blank j; ranks = t.ranks }

-- there are as many ranks as before
pub reranked_wide : (t : Table) (i : ℕ) → length t.ranks ≡ place_count → (c : Change) → length (reranked t i c) ≡ place_count
reranked_wide t i wide comes = length-set t.ranks i _ ∙ wide
reranked_wide t i wide goes = length-set (closed_up (side_at i) (rank_at t i) t.ranks) i _ ∙ closed_size (side_at i) (rank_at t i) t.ranks ∙ wide
reranked_wide t i wide neither = wide

module _ (t : Table) (size : length t.places ≡ place_count) (i : ℕ) (inside : i < place_count) (r : Record) where
  pub put_size : length (put t i r).places ≡ place_count
  put_size = length-set t.places i r ∙ size

  pub put_here : record_at (put t i r) i ≡ r
  put_here = get_or-set_same t.places i r blank (omega arith)

  hit : (j : ℕ) → j ≡ i → record_at (put t i r) j ≡ r
  hit j e = ap (record_at (put t i r)) e ∙ put_here

  pub put_other : (j : ℕ) → (j ≡ i → ⊥) → record_at (put t i r) j ≡ record_at t j
  put_other j ne = get_or-set_other t.places i j r blank ne

  -- what holds of r at i and of each other record at its index holds of each record of the new table
  pub each : (P : ℕ → Record → Type 0) → P i r → ((j : ℕ) → j < place_count → P j (record_at t j)) → (j : ℕ) → j < place_count → P j (record_at (put t i r) j)
  each P p f j h = ⊎_elim (λ e. rw e (rw put_here p)) (λ ne. rw (put_other j ne) (f j h)) (equal_or j i)

  -- ---- the ranks after it

  -- the calls of a side, with the record that was there counted on one side and the new one on the other
  pub calls_put : (a : Side) → calls_on (put t i r) a + held_on a i (record_at t i) ≡ calls_on t a + held_on a i r
  calls_put a = rw (zero-add i) at (total_set (held_on a) 0 t.places i r (omega arith))

  module _ (wide : length t.ranks ≡ place_count) where
    pub put_wide : length (put t i r).ranks ≡ place_count
    put_wide = reranked_wide t i wide (change_of (is_free (record_at t i).state) (is_free r.state))

    -- a place that is not freed: it has a rank as before, or the next of its side, and the others keep theirs
    module _ (is : is_free r.state ≡ false) where
      pub rank_new : is_free (record_at t i).state ≡ true → rank_at (put t i r) i ≡ calls_on t (side_at i) + 1
      rank_new was = rw (was, is) (get_or-set_same t.ranks i (calls_on t (side_at i) + 1) 0 (omega arith))

      pub rank_kept : is_free (record_at t i).state ≡ false → rank_at (put t i r) i ≡ rank_at t i
      rank_kept was = rw (was, is)

      pub ranks_stay : (j : ℕ) → (j ≡ i → ⊥) → rank_at (put t i r) j ≡ rank_at t j
      ranks_stay j ne = rw is (by (is_free (record_at t i).state))
        where
          by : (b : Bool) → get_or (reranked t i (change_of b false)) j 0 ≡ rank_at t j
          by true = get_or-set_other t.ranks i j (calls_on t (side_at i) + 1) 0 ne
          by false = refl

    -- a place that is freed
    module _ (was : is_free (record_at t i).state ≡ false) (is : is_free r.state ≡ true) where
      abbrev closed : List ℕ
      closed = closed_up (side_at i) (rank_at t i) t.ranks

      pub rank_freed : rank_at (put t i r) i ≡ 0
      rank_freed = rw (was, is) (get_or-set_same closed i 0 0 (omega (arith, closed_size (side_at i) (rank_at t i) t.ranks)))

      pub ranks_drop : (j : ℕ) → j < place_count → (j ≡ i → ⊥) → rank_at (put t i r) j ≡ lowered (side_at i) (rank_at t i) j (rank_at t j)
      ranks_drop j h ne = rw (was, is) (get_or-set_other closed i j _ 0 ne ∙ closed_at (side_at i) (rank_at t i) t.ranks j (omega arith))

  module _ (wide : length t.ranks ≡ place_count) (S : Sound t) where
    -- what a sound table has of ranks
    record RankFacts : Type 0 where
      held : (j : ℕ) → j < place_count → is_free (record_at (put t i r) j).state ≡ eqb (rank_at (put t i r) j) 0
      to_n : (j : ℕ) → j < place_count → rank_at (put t i r) j ≤ calls_on (put t i r) (side_at j)
      one : (j k : ℕ) → j < place_count → k < place_count → side_at j ≡ side_at k → (rank_at (put t i r) j ≡ 0 → ⊥) → rank_at (put t i r) j ≡ rank_at (put t i r) k → j ≡ k

    -- a place that stays free or stays occupied
    rank_stays : is_free (record_at t i).state ≡ is_free r.state → (put t i r).ranks ≡ t.ranks → RankFacts
    rank_stays same ranks =
        let calls : (a : Side) → calls_on (put t i r) a ≡ calls_on t a = λ a. let h = rw same at (calls_put a) in omega (arith, h) in
        let rank : (j : ℕ) → rank_at (put t i r) j ≡ rank_at t j = λ j. ap (λ (l : List ℕ). get_or l j 0) ranks in
        record {
          held = λ j h. each (λ j x. is_free x.state ≡ eqb (rank_at t j) 0) (sym same ∙ S.ranked_if_held i inside) S.ranked_if_held j h ∙ ap (λ n. eqb n 0) (sym (rank j));
          to_n = λ j h. rw (calls (side_at j), rank j) (S.rank_to_n j h);
          one = λ j k hj hk side n e. S.one_rank j k hj hk side (λ z. n (rank j ∙ z)) (sym (rank j) ∙ e ∙ rank k);
        }

    -- ---- a new call

    module _ (was : is_free (record_at t i).state ≡ true) (is : is_free r.state ≡ false) where
      new_here : rank_at (put t i r) i ≡ calls_on t (side_at i) + 1
      new_here = rank_new wide is was

      new_there : (j : ℕ) → (j ≡ i → ⊥) → rank_at (put t i r) j ≡ rank_at t j
      new_there = ranks_stay wide is

      one_more : calls_on (put t i r) (side_at i) ≡ calls_on t (side_at i) + 1
      one_more =
          let yes : same_side (side_at i) (side_at i) ≡ true = same_side_lem (side_at i) (side_at i) refl in
          let h = rw (was, is, yes) at (calls_put (side_at i)) in
          omega (arith, h)

      no_fewer : (a : Side) → calls_on t a ≤ calls_on (put t i r) a
      no_fewer a = let h = rw (was, is) at (calls_put a) in by (same_side (side_at i) a) h
        where
          by : (b : Bool) → calls_on (put t i r) a + cond (b && false) 1 0 ≡ calls_on t a + cond (b && true) 1 0 → calls_on t a ≤ calls_on (put t i r) a
          by true h = omega (arith, h)
          by false h = omega (arith, h)

      -- the new rank is above every other of its side
      above : (j : ℕ) → j < place_count → side_at j ≡ side_at i → rank_at t j ≡ rank_at (put t i r) i → ⊥
      above j h side same = let low = rw side at (S.rank_to_n j h) in omega (arith, low, same ∙ new_here)

      rank_begins : RankFacts
      rank_begins = record {
        held = λ j h.
            ⊎_elim (λ e. rw e (rw put_here (is ∙ sym (ne_eqb (rank_at (put t i r) i) 0 (λ z. absurd (omega (arith, sym z ∙ new_here)))))))
            (λ ne. rw (put_other j ne, new_there j ne) (S.ranked_if_held j h)) (equal_or j i);
        to_n = λ j h.
            ⊎_elim (λ e. rw e (omega (arith, new_here, one_more)))
            (λ ne. omega (arith, new_there j ne, S.rank_to_n j h, no_fewer (side_at j))) (equal_or j i);
        one = λ j k hj hk side ranked same.
            ⊎_elim
            (λ ej. ⊎_elim (λ ek. ej ∙ sym ek)
            (λ nk. absurd (above k hk (sym side ∙ ap side_at ej) (sym (new_there k nk) ∙ sym same ∙ ap (λ (n : ℕ). rank_at (put t i r) n) ej))) (equal_or k i))
            (λ nj. ⊎_elim (λ ek. absurd (above j hj (side ∙ ap side_at ek) (sym (new_there j nj) ∙ same ∙ ap (λ (n : ℕ). rank_at (put t i r) n) ek)))
            (λ nk. S.one_rank j k hj hk side (λ z. ranked (new_there j nj ∙ z)) (sym (new_there j nj) ∙ same ∙ new_there k nk)) (equal_or k i))
            (equal_or j i);
      }

    -- ---- a place that is freed

    module _ (was : is_free (record_at t i).state ≡ false) (is : is_free r.state ≡ true) where
      abbrev gone : ℕ
      gone = rank_at t i

      ranked : gone ≡ 0 → ⊥
      ranked z = not_both (eq-eqb gone 0 z) (sym (S.ranked_if_held i inside) ∙ was)

      freed_here : rank_at (put t i r) i ≡ 0
      freed_here = rank_freed wide was is

      freed_there : (j : ℕ) → j < place_count → (j ≡ i → ⊥) → rank_at (put t i r) j ≡ lowered (side_at i) gone j (rank_at t j)
      freed_there = ranks_drop wide was is

      one_fewer : calls_on (put t i r) (side_at i) + 1 ≡ calls_on t (side_at i)
      one_fewer =
          let yes : same_side (side_at i) (side_at i) ≡ true = same_side_lem (side_at i) (side_at i) refl in
          let h = rw (was, is, yes) at (calls_put (side_at i)) in
          omega (arith, h)

      as_many : (a : Side) → (a ≡ side_at i → ⊥) → calls_on (put t i r) a ≡ calls_on t a
      as_many a other =
          let no_side : same_side (side_at i) a ≡ false = other_side (side_at i) a (λ e. other (sym e)) in
          let h = rw no_side at (calls_put a) in
          omega (arith, h)

      -- no other place of the side has the rank of the freed one
      unlike : (j : ℕ) → j < place_count → (j ≡ i → ⊥) → side_at j ≡ side_at i → rank_at t j ≡ gone → ⊥
      unlike j h ne side e = ne (sym (S.one_rank i j inside h (sym side) ranked (sym e)))

      dropped_0 : (j x : ℕ) → Drops (side_at i) gone j (rank_at t j) x → eqb (rank_at t j) 0 ≡ eqb x 0
      dropped_0 j x (drops side lt) =
          ne_eqb (rank_at t j) 0 (λ z. absurd (omega (arith, z))) ∙ sym (ne_eqb (rank_at t j - 1) 0 (λ z. ranked (omega (arith, z, lt))))
      dropped_0 j x (keeps side le) = refl
      dropped_0 j x (aside other) = refl

      dropped_low : (j : ℕ) → j < place_count → (j ≡ i → ⊥) → (x : ℕ) → Drops (side_at i) gone j (rank_at t j) x → x ≤ calls_on (put t i r) (side_at j)
      dropped_low j h ne x (drops side lt) = let low = S.rank_to_n j h in rw side (omega (arith, rw side at low, one_fewer))
      dropped_low j h ne x (keeps side le) =
          rw side (⊎_elim (λ e. absurd (unlike j h ne side e)) (λ n. omega (arith, n, le, S.rank_to_n i inside, one_fewer)) (equal_or (rank_at t j) gone))
      dropped_low j h ne x (aside other) = rw (as_many (side_at j) other) (S.rank_to_n j h)

      dropped_one : (j k : ℕ) → j < place_count → k < place_count → (j ≡ i → ⊥) → (k ≡ i → ⊥) → side_at j ≡ side_at k → (x y : ℕ)
          → Drops (side_at i) gone j (rank_at t j) x → Drops (side_at i) gone k (rank_at t k) y → (x ≡ 0 → ⊥) → x ≡ y → rank_at t j ≡ rank_at t k
      dropped_one j k hj hk nj nk side x y (drops sj lj) (drops sk lk) n e = omega (arith, e, lj, lk)
      dropped_one j k hj hk nj nk side x y (drops sj lj) (keeps sk lk) n e = absurd (unlike k hk nk sk (omega (arith, e, lj, lk)))
      dropped_one j k hj hk nj nk side x y (keeps sj lj) (drops sk lk) n e = absurd (unlike j hj nj sj (omega (arith, e, lj, lk)))
      dropped_one j k hj hk nj nk side x y (keeps sj lj) (keeps sk lk) n e = e
      dropped_one j k hj hk nj nk side x y (drops sj lj) (aside ok) n e = absurd (ok (sym side ∙ sj))
      dropped_one j k hj hk nj nk side x y (keeps sj lj) (aside ok) n e = absurd (ok (sym side ∙ sj))
      dropped_one j k hj hk nj nk side x y (aside oj) (drops sk lk) n e = absurd (oj (side ∙ sk))
      dropped_one j k hj hk nj nk side x y (aside oj) (keeps sk lk) n e = absurd (oj (side ∙ sk))
      dropped_one j k hj hk nj nk side x y (aside oj) (aside ok) n e = e

      view : (j : ℕ) → Drops (side_at i) gone j (rank_at t j) (lowered (side_at i) gone j (rank_at t j))
      view j = drops_view (side_at i) gone j (rank_at t j)

      rank_ends : RankFacts
      rank_ends = record {
        held = λ j h.
            ⊎_elim (λ e. rw e (rw put_here (is ∙ sym (eq-eqb (rank_at (put t i r) i) 0 freed_here))))
            (λ ne. rw (put_other j ne, freed_there j h ne) (S.ranked_if_held j h ∙ dropped_0 j _ (view j))) (equal_or j i);
        to_n = λ j h.
            ⊎_elim (λ e. rw e (omega (arith, freed_here)))
            (λ ne. rw (freed_there j h ne) (dropped_low j h ne _ (view j))) (equal_or j i);
        one = λ j k hj hk side nonzero same.
            let nj : j ≡ i → ⊥ = λ e. nonzero (ap (λ (n : ℕ). rank_at (put t i r) n) e ∙ freed_here) in
            let nk : k ≡ i → ⊥ = λ e. nonzero (same ∙ ap (λ (n : ℕ). rank_at (put t i r) n) e ∙ freed_here) in
            let ej = freed_there j hj nj in
            let ek = freed_there k hk nk in
            let was_same = dropped_one j k hj hk nj nk side _ _ (view j) (view k) (λ z. nonzero (ej ∙ z)) (sym ej ∙ same ∙ ek) in
            S.one_rank j k hj hk side (λ z. let d = dropped_0 j _ (view j) in nonzero (ej ∙ eqb-true _ 0 (sym d ∙ eq-eqb (rank_at t j) 0 z))) was_same;
      }

    rank_facts : RankFacts
    rank_facts = by (is_free (record_at t i).state) refl (is_free r.state) refl
      where
        by : (b : Bool) → is_free (record_at t i).state ≡ b → (c : Bool) → is_free r.state ≡ c → RankFacts
        by true p true q = rank_stays (p ∙ sym q) (rw (p, q))
        by false p false q = rank_stays (p ∙ sym q) (rw (p, q))
        by true p false q = rank_begins p q
        by false p true q = rank_ends p q

  -- a record that fits its place, is tidy, and whose call no other place holds
  pub put_sound : length t.ranks ≡ place_count → Sound t → fits_side (side_at i) r.state ≡ true → (is_free r.state ≡ true → r ≡ free_record)
      → ((state_number r.state ≡ 4 → ⊥) → r.connection ≡ no_connection)
      → ((j : ℕ) → j < place_count → (j ≡ i → ⊥) → is_free r.state ≡ false → is_free (record_at t j).state ≡ false → r.call ≡ (record_at t j).call → ⊥)
      → Sound (put t i r)
  put_sound wide s fit zeros none alone = record {
    fits = each (λ j x. fits_side (side_at j) x.state ≡ true) fit s.fits;
    free_is_zeros = each (λ j x. is_free x.state ≡ true → x ≡ free_record) zeros s.free_is_zeros;
    connection_in_4_only = each (λ j x. (state_number x.state ≡ 4 → ⊥) → x.connection ≡ no_connection) none s.connection_in_4_only;
    one_place = λ j k hj hk.
        ⊎_elim
        (λ ej. ⊎_elim
        (λ ek fj fk c. ej ∙ sym ek)
        (λ nk. rw (hit j ej, put_other k nk) (λ fj fk c. absurd (alone k hk nk fj fk c)))
        (equal_or k i))
        (λ nj. ⊎_elim
        (λ ek. rw (hit k ek, put_other j nj) (λ fj fk c. absurd (alone j hj nj fk fj (sym c))))
        (λ nk. rw (put_other j nj, put_other k nk) (s.one_place j k hj hk))
        (equal_or k i))
        (equal_or j i);
    ranked_if_held = (rank_facts wide s).held;
    rank_to_n = (rank_facts wide s).to_n;
    one_rank = (rank_facts wide s).one;
  }
