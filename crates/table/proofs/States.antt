-- States by their numbers: a number from 0 to 5 is that of one state, and a state is known by its number.
use mathlib.Core.Path.{◌≡◌, refl, sym, ap, ◌∙◌}
use mathlib.Core.Bool.{true}
use mathlib.Core.Logic.{◌⊎◌, inl, inr, ⊎_elim}
use Prim.Native.Nat.{ℕ, zero, suc, ◌<◌}
use native.Mathlib.Omega.{arith}
use lib.Dec.{lit<}
use borrow.Author.Tests.{eqb-true}
use Rattle.laws.proofs.Bools.{equal_or}
use Rattle.table.specs.declared.State.{State}
use Rattle.table.specs.declared.State.TheVariants.{Free, ParkWaiting, LineWaiting, Requested, RemoteRequested, HandedOver}
use Rattle.table.specs.Places.{state_number, same_state, is_free, state_of}

pub state_below : (s : State) → state_number s < 6
state_below Free = lit< tt
state_below ParkWaiting = lit< tt
state_below LineWaiting = lit< tt
state_below Requested = lit< tt
state_below RemoteRequested = lit< tt
state_below HandedOver = lit< tt

pub state_back : (s : State) → state_of (state_number s) ≡ s
state_back Free = refl
state_back ParkWaiting = refl
state_back LineWaiting = refl
state_back Requested = refl
state_back RemoteRequested = refl
state_back HandedOver = refl

pub number_back : (n : ℕ) → n < 6 → state_number (state_of n) ≡ n
number_back zero h = refl
number_back (suc zero) h = refl
number_back (suc (suc zero)) h = refl
number_back (suc (suc (suc zero))) h = refl
number_back (suc (suc (suc (suc zero)))) h = refl
number_back (suc (suc (suc (suc (suc zero))))) h = refl
number_back (suc (suc (suc (suc (suc (suc n)))))) h = absurd (omega arith)

-- a state is known by its number
pub same_number : (s u : State) → state_number s ≡ state_number u → s ≡ u
same_number s u e = sym (state_back s) ∙ ap state_of e ∙ state_back u

pub same_state_lem : (s u : State) → same_state s u ≡ true → s ≡ u
same_state_lem s u h = same_number s u (eqb-true (state_number s) (state_number u) h)

pub free_state : (s : State) → is_free s ≡ true → s ≡ Free
free_state s h = same_state_lem s Free h

pub state_or : (s u : State) → (s ≡ u) ⊎ (s ≡ u → ⊥)
state_or s u = ⊎_elim (λ e. inl (same_number s u e)) (λ n. inr (λ e. n (ap state_number e))) (equal_or (state_number s) (state_number u))
