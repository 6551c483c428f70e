-- Lists of anything: what holds of every element, lists put together, a choice that is decided, and counting.
use mathlib.Core.Path.{◌≡◌, refl, sym, ap, subst, ◌∙◌}
use mathlib.Core.Logic.{⊎_elim}
use mathlib.Core.Bool.{Bool}
use mathlib.Core.List.Memᴰ
use mathlib.Core.List.{List, [], ◌∷◌, ◌++◌, map, append_assoc, Memᴰ}
use Prim.Native.Nat.{◌+◌}
use native.Mathlib.Omega.{arith}
use Rattle.std.proofs.lemmas.List.{map-append}
use Rattle.stays.specs.Stays.{whether, Every, joined, one_if, count}

-- what holds of every element holds of each
pub every_at : {A : Type 0} (P : A → Type 0) (a : A) (xs : List A) → Every P xs → Memᴰ a xs → P a
every_at P a [] h i = absurd (Memᴰ.not-nil i)
every_at P a (x ∷ xs) h i = ⊎_elim (λ e. subst P (sym e) h.0) (λ j. every_at P a xs h.1 j) (Memᴰ.cases_cons i)

pub every_append : {A : Type 0} (P : A → Type 0) (xs ys : List A) → Every P xs → Every P ys → Every P (xs ++ ys)
every_append P [] ys h k = k
every_append P (x ∷ xs) ys h k = (h.0, every_append P xs ys h.1 k)

-- what follows for each element follows for every
pub every_so : {A : Type 0} (P Q : A → Type 0) → ((a : A) → P a → Q a) → (xs : List A) → Every P xs → Every Q xs
every_so P Q f [] h = tt
every_so P Q f (x ∷ xs) h = (f x h.0, every_so P Q f xs h.1)

pub every_map : {A B : Type 0} (f : A → B) (P : B → Type 0) (xs : List A) → Every P (map f xs) → Every (λ x. P (f x)) xs
every_map f P [] h = tt
every_map f P (x ∷ xs) h = (h.0, every_map f P xs h.1)

pub whether_yes : {P A : Type 0} (d : Dec P) (a b : A) → P → whether d a b ≡ a
whether_yes (yes h) a b p = refl
whether_yes (no n) a b p = absurd (n p)

pub whether_no : {P A : Type 0} (d : Dec P) (a b : A) → (P → ⊥) → whether d a b ≡ b
whether_no (yes h) a b n = absurd (n h)
whether_no (no k) a b n = refl

pub whether_through : {P A B : Type 0} (f : A → B) (d : Dec P) (a b : A) → f (whether d a b) ≡ whether d (f a) (f b)
whether_through f (yes h) a b = refl
whether_through f (no n) a b = refl

pub map_snoc : {A B : Type 0} (f : A → B) (xs : List A) (x : A) → map f (xs ++ (x ∷ [])) ≡ map f xs ++ (f x ∷ [])
map_snoc f xs x = map-append f xs (x ∷ [])

pub map_joined : {A B : Type 0} (f : A → B) (xss : List (List A)) → map f (joined xss) ≡ joined (map (map f) xss)
map_joined f [] = refl
map_joined f (xs ∷ xss) = map-append f xs (joined xss) ∙ ap (λ l. map f xs ++ l) (map_joined f xss)

pub joined_append : {A : Type 0} (xss yss : List (List A)) → joined (xss ++ yss) ≡ joined xss ++ joined yss
joined_append [] yss = refl
joined_append (xs ∷ xss) yss = ap (λ l. xs ++ l) (joined_append xss yss) ∙ sym (append_assoc xs (joined xss) (joined yss))

pub every_last : {A : Type 0} (P : A → Type 0) (xs : List A) (x : A) → Every P (xs ++ (x ∷ [])) → P x
every_last P [] x h = h.0
every_last P (y ∷ xs) x h = every_last P xs x h.1

module _ {A : Type 0} (f : A → Bool) where
  pub count_append : (xs ys : List A) → count f (xs ++ ys) ≡ count f xs + count f ys
  count_append [] ys = omega arith
  count_append (x ∷ xs) ys = omega (arith, count_append xs ys)

  pub count_snoc : (xs : List A) (x : A) → count f (xs ++ (x ∷ [])) ≡ count f xs + one_if (f x)
  count_snoc xs x = omega (arith, count_append xs (x ∷ []))
