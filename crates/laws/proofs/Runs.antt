-- Lists of numbers as loops and writers see them: one turn over a slice, a part of a slice that runs to its end, and runs of stores (`sets`) at
-- an index that moves on. A run is joined to the next one by `sets_append`.
use mathlib.Core.Path.{◌≡◌, refl, sym, ap, ap₂, ◌∙◌}
use mathlib.Core.List.{List, [], ◌∷◌, ◌++◌, map, append_assoc, append-nil}
use Prim.Native.Nat.{ℕ, zero, suc, ◌+◌, ◌-◌, ◌≤◌, ◌<◌}
use native.Mathlib.Nat.{add-zero}
use native.Mathlib.Numerals.{add-one}
use native.Mathlib.Omega.{arith}
use lib.ListN.{length, take, drop, get_or, set, replicate, length-append, length-drop, length-map, drop_of_length-le}
use lib.Seq.{sets, sets-eq, length-sets, drop-cons, take_all, take-suc, take-suc-set, length-take-le, take_at, drop_at, drop-append-add, get_or-drop}

-- what is left at i, as its first octet and what is left at i + 1
pub at_step : (s : List ℕ) (i : ℕ) → i < length s → drop i s ≡ get_or s i 0 ∷ drop (i + 1) s
at_step s i h = rw (add-one, drop-cons s i 0)

pub at_end : (s : List ℕ) (i : ℕ) → length s ≤ i → drop i s ≡ []
at_end s i h = drop_of_length-le s h

-- a part that runs to the end, as the borrow checker says it
pub part_rest : (s : List ℕ) (e : ℕ) → take (length s - e) (drop e s) ≡ drop e s
part_rest s e = take_all (length s - e) (drop e s) (omega (arith, length-drop e s))

module _ {A : Type 0} where
  -- an array filled up to i, and one element more
  pub fill_more : (a : List A) (i : ℕ) (v : A) → i < length a → take (i + 1) (set a i v) ≡ take i a ++ (v ∷ [])
  fill_more a i v h = rw add-one (take-suc-set a i v h)

  pub take_more : (s : List A) (i : ℕ) (d : A) → i < length s → take (i + 1) s ≡ take i s ++ (get_or s i d ∷ [])
  take_more s i d h = rw add-one (take-suc s i d h)

-- the numbers from at on, one more
pub part_more : (s : List ℕ) (at i : ℕ) → at + i < length s → take (i + 1) (drop at s) ≡ take i (drop at s) ++ (get_or s (at + i) 0 ∷ [])
part_more s at i h =
    take_more (drop at s) i 0 (omega (arith, length-drop at s))
    ∙ ap (λ (x : ℕ). take i (drop at s) ++ (x ∷ [])) (get_or-drop at s i 0)

-- an array of structs is as long as the list that it is read as
pub length_mapped : {X Y : Type 0} (f : X → Y) (l : List X) (n : ℕ) → length (map f l) ≡ n → length l ≡ n
length_mapped f l n p = sym (length-map l f) ∙ p

pub length_snoc : (f : List ℕ) (x : ℕ) → length (f ++ (x ∷ [])) ≡ length f + 1
length_snoc f x = length-append f (x ∷ [])

-- a run of stores, and another that starts where it ended
pub sets_append : (f g l : List ℕ) (i : ℕ) → sets (sets l i f) (i + length f) g ≡ sets l i (f ++ g)
sets_append [] g l i = rw add-zero
sets_append (a ∷ f) g l i =
    let e : i + suc (length f) ≡ suc i + length f = omega arith in
    ap (λ (n : ℕ). sets (sets (set l i a) (suc i) f) n g) e ∙ sets_append f g (set l i a) (suc i)

-- another run, at the index that a call gave back
pub sets_on : (f g l d : List ℕ) (i p : ℕ) → p ≡ i + length f → d ≡ sets l i f → sets d p g ≡ sets l i (f ++ g)
sets_on f g l d i p e h = ap₂ (λ (m : List ℕ) (n : ℕ). sets m n g) h e ∙ sets_append f g l i

-- one store more, and two
pub sets_more : (f l d : List ℕ) (i p x : ℕ) → p ≡ i + length f → d ≡ sets l i f → set d p x ≡ sets l i (f ++ (x ∷ []))
sets_more f l d i p x e h = sets_on f (x ∷ []) l d i p e h

pub sets_two : (f l d : List ℕ) (i p x y : ℕ) → p ≡ i + length f → d ≡ sets l i f → set (set d p x) (p + 1) y ≡ sets l i (f ++ (x ∷ y ∷ []))
sets_two f l d i p x y e h = ap (λ (n : ℕ). set (set d p x) n y) (add-one p) ∙ sets_on f (x ∷ y ∷ []) l d i p e h

-- a run of stores from an array, one more
pub store_more : (l s d : List ℕ) (at i : ℕ) → i < length s → d ≡ sets l at (take i s)
    → set d (at + i) (get_or s i 0) ≡ sets l at (take (i + 1) s)
store_more l s d at i h e =
    let n : length (take i s) ≡ i = length-take-le i s (omega arith) in
    sets_on (take i s) (get_or s i 0 ∷ []) l d at (at + i) (omega arith) e ∙ ap (sets l at) (sym (take_more s i 0 h))

-- a run of stores over a whole list
pub sets_all : (l f : List ℕ) → length f ≡ length l → sets l 0 f ≡ f
sets_all l f e = sets-eq f l 0 (omega arith) ∙ ap (λ (r : List ℕ). f ++ r) (drop_of_length-le l {i = 0 + length f} (omega arith)) ∙ append-nil f

-- a run of stores over a part of its length, in the middle
pub sets_over : (p q u f : List ℕ) (i : ℕ) → length p ≡ i → length q ≡ length f → sets (p ++ (q ++ u)) i f ≡ p ++ (f ++ u)
sets_over p q u f i e n =
    let room : length (p ++ (q ++ u)) ≡ length p + (length q + length u) = simp length-append in
    let there : i + length f ≡ length p + length f = omega arith in
    let after : drop (i + length f) (p ++ (q ++ u)) ≡ u =
    ap (λ (k : ℕ). drop k (p ++ (q ++ u))) there ∙ drop-append-add p (q ++ u) (length f) ∙ drop_at q u (length f) n in
    sets-eq f (p ++ (q ++ u)) i (omega arith)
    ∙ ap₂ (λ (a b : List ℕ). a ++ f ++ b) (take_at p (q ++ u) i e) after
    ∙ append_assoc p f u

-- d is l with a run written from i on
pub sets_length : (l d f : List ℕ) (i : ℕ) → d ≡ sets l i f → length d ≡ length l
sets_length l d f i h = ap length h ∙ length-sets l i f

-- ---- a list of zeros

abbrev pub zeros : ℕ → List ℕ
zeros n = replicate n 0

pub zeros_get : (n j : ℕ) → get_or (zeros n) j 0 ≡ 0
zeros_get zero j = refl
zeros_get (suc n) zero = refl
zeros_get (suc n) (suc j) = zeros_get n j

-- past an index from which on there are only zeros
pub zeros_after : (n k : ℕ) (l : List ℕ) → drop n l ≡ zeros k → (j : ℕ) → n ≤ j → get_or l j 0 ≡ 0
zeros_after n k l e j h =
    let there : n + (j - n) ≡ j = omega arith in
    ap (λ (i : ℕ). get_or l i 0) (sym there) ∙ sym (get_or-drop n l (j - n) 0) ∙ ap (λ (r : List ℕ). get_or r (j - n) 0) e ∙ zeros_get k (j - n)
