-- How tight a contract is. A function's contract, as the check reads it (the generated `Reads.Post`), is a relation of its lifetimes,
-- its arguments, its result and what stands in lent memory at its end.
use Rattle.std.specs.Prelude.{◌≡◌}

-- two results that meet the contract, from the same arguments, are equal
abbrev pub Decides : {K : Type 0} {A X E : K → Type 0} → ((κ : K) → A κ → X κ → E κ → Type 0) → Type 0
Decides {K} {A} {X} {E} post = (κ : K) (a : A κ) (x y : X κ) (d e : E κ) → post κ a x d → post κ a y e → x ≡ y

-- the same of what is seen of the results: of a slice that is given back, its elements
abbrev pub DecidesSeen : {K : Type 0} {A X E : K → Type 0} {Y : Type 0} → ((κ : K) → A κ → X κ → E κ → Type 0) → ((κ : K) → X κ → Y) → Type 0
DecidesSeen {K} {A} {X} {E} post seen =
    (κ : K) (a : A κ) (x y : X κ) (d e : E κ) → post κ a x d → post κ a y e → seen κ x ≡ seen κ y

-- the results are equal, and so is what is left in lent memory
abbrev pub DecidesMemory : {K : Type 0} {A X E : K → Type 0} {M : Type 0} → ((κ : K) → A κ → X κ → E κ → Type 0) → ((κ : K) → E κ → M) → Type 0
DecidesMemory {K} {A} {X} {E} post left =
    (κ : K) (a : A κ) (x y : X κ) (d e : E κ) → post κ a x d → post κ a y e → (x ≡ y) × (left κ d ≡ left κ e)
