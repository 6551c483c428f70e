-- The call that is served with choice 1 or 2 began its stay before every other that waits on its side: it has the lowest rank of those that wait
-- (`takes_first`), and ranks go by the order of the starts (`rank_before`).
use mathlib.Core.Path.{◌≡◌, sym, ◌∙◌}
use mathlib.Core.Logic.{◌⊎◌, inl, inr, ⊎_elim}
use mathlib.Core.Bool.{true, false, true≢false}
use mathlib.Core.List.{List, [], ◌∷◌}
use Prim.Native.Nat.{ℕ, ◌<◌, ◌≤◌}
use native.Mathlib.Omega.{arith}
use lib.ListN.{get_or-eq_default}
use borrow.Author.Tests.{eqb-true}
use Rattle.laws.proofs.Bools.{less_or, and_left, and_right}
use Rattle.table.specs.declared.State.{State}
use Rattle.table.specs.declared.Side.{Side}
use Rattle.table.specs.declared.Side.TheVariants.{Position, Line}
use Rattle.table.specs.declared.Table.{Table}
use Rattle.table.specs.Places.{state_number, is_free, same_state, same_side, waiting_on, side_at, blank, record_at, rank_at, empty_table, place_count}
use Rattle.table.proofs.Sides.{side_is, same_side_lem}
use Rattle.step.specs.Step.{step_of}
use Rattle.step.specs.Promises.{index_at, Waits}
use Rattle.step.proofs.Promises.{accepted_at_one_place}
use Rattle.step.proofs.First.{takes_first}
use Rattle.stays.specs.Stays.{In, Before, first, later, final}
use Rattle.stays.specs.ParkTable.{machine}
use Rattle.stays.specs.Demand.{running_places, ServesFirst}
use Rattle.stays.proofs.Keep.{inv_all}
use Rattle.stays.proofs.StartRanks.{rank_before}
use Rattle.stays.proofs.Ordered.{Ordered, beside, beside_alike}
use Rattle.stays.proofs.TableLaws.{laws}

-- of two different places of a list one stands before the other
either : (i j : ℕ) (o : List ℕ) → In i o → In j o → (j ≡ i) ⊎ (Before i j o ⊎ Before j i o)
either i j [] a b = absurd a
either i j (q ∷ qs) (inl a) (inl b) = inl (b ∙ sym a)
either i j (q ∷ qs) (inl a) (inr b) = inr (inl (first a b))
either i j (q ∷ qs) (inr a) (inl b) = inr (inr (first b a))
either i j (q ∷ qs) (inr a) (inr b) = deeper (either i j qs a b)
  where
    deeper : (j ≡ i) ⊎ (Before i j qs ⊎ Before j i qs) → (j ≡ i) ⊎ (Before i j (q ∷ qs) ⊎ Before j i (q ∷ qs))
    deeper (inl e) = inl e
    deeper (inr (inl h)) = inr (inl (later h))
    deeper (inr (inr h)) = inr (inr (later h))

-- a state in which a call waits is not free
waiting_held : (a : Side) (s : State) → same_state s (waiting_on a) ≡ true → is_free s ≡ false
waiting_held Position s h = let one : state_number s ≡ 1 = eqb-true (state_number s) 1 h in rw one
waiting_held Line s h = let two : state_number s ≡ 2 = eqb-true (state_number s) 2 h in rw two

module _ (t : Table) (o : List ℕ) (O : Ordered t o) (a : Side) where
  held : (i : ℕ) → Waits t a i → is_free (record_at t i).state ≡ false
  held i w = waiting_held a (record_at t i).state (and_right (same_side (side_at i) a) _ w)

  waits_there : (i : ℕ) → Waits t a i → In i o
  waits_there i w = O.all i (held i w)

  waits_inside : (i : ℕ) → Waits t a i → i < place_count
  waits_inside i w =
      ⊎_elim (λ h. h)
      (λ out. let past : record_at t i ≡ blank = get_or-eq_default t.places blank (omega (arith, O.full.0, out)) in absurd (true≢false (rw past at (held i w))))
      (less_or i place_count)

  waits_side : (i : ℕ) → Waits t a i → side_at i ≡ a
  waits_side i w = side_is (side_at i) a (and_left (same_side (side_at i) a) _ w)

  -- no call that waits on the side began before the one with the lowest rank
  least_first : (i : ℕ) → i < place_count → Waits t a i → ((j : ℕ) → j < place_count → Waits t a j → rank_at t i ≤ rank_at t j)
      → (j : ℕ) → j < place_count → Waits t a j → (j ≡ i) ⊎ Before i j o
  least_first i hi wi least j hj wj = by (either i j o (waits_there i wi) (waits_there j wj))
    where
      by : (j ≡ i) ⊎ (Before i j o ⊎ Before j i o) → (j ≡ i) ⊎ Before i j o
      by (inl e) = inl e
      by (inr (inl h)) = inr h
      by (inr (inr h)) =
          let sides : beside i j ≡ true = same_side_lem (side_at j) (side_at i) (waits_side j wj ∙ sym (waits_side i wi)) in
          let lower = rank_before beside j i sides (λ q. sym (beside_alike i j sides q)) 0 o O.distinct h in
          absurd (omega (arith, lower, O.ranks i hi, O.ranks j hj, least j hj wj))

pub serves_first : ServesFirst
serves_first es e a kind choice accepted =
    let t : Table = final machine empty_table es in
    let v = inv_all machine laws es in
    let O : Ordered t (running_places es) = v.shows.1 in
    let x = accepted_at_one_place t e O.full accepted in
    let leads = takes_first t e a O.full accepted kind choice in
    record {
      at = index_at (step_of t e);
      place = x.place;
      runs = waits_there t (running_places es) O a (index_at (step_of t e)) leads.0;
      waits = leads.0;
      first = λ j w. least_first t (running_places es) O a (index_at (step_of t e)) x.inside leads.0 leads.1 j (waits_inside t (running_places es) O a j w) w;
    }
