-- Two results of a public function that meet its contract are equal: of `each_line`, whose contract is an equation with a definition, and of `next`,
-- whose contract is std's of an iterator over a list: the line that is given, by its octets, and the lines that are left.
use mathlib.Core.Path.{◌≡◌, refl, sym, ap, ◌∙◌}
use mathlib.Core.List.{List, ◌∷◌}
use Prim.Native.Nat.{ℕ}
use Rattle.std.specs.Prelude.{Option, Some, None}
use Rattle.std.specs.Borrow.{Bor}
use Rattle.std.specs.Iterator.{YieldsFirstRef}
use Rattle.laws.specs.Decides.{Decides, DecidesSeen}
use Rattle.input.proofs.each_line.Reads as each-line
use Rattle.input.proofs.LinesIterator.next.Reads as next

pub each_line_decided : Decides each-line.Post
each_line_decided κ a x y d e p q = p ∙ sym q

-- the octets of the line, if one is given
abbrev line_given : Option (Bor (List ℕ)) → Option (List ℕ)
line_given None = None
line_given (Some line) = Some line.now

same_head : {A : Type 0} {x y : A} {xs ys : List A} → x ∷ xs ≡ y ∷ ys → x ≡ y
same_head h = cc

same_tail : {A : Type 0} {x y : A} {xs ys : List A} → x ∷ xs ≡ y ∷ ys → xs ≡ ys
same_tail h = cc

by_first : (before after other : List (List ℕ)) (r q : Option (Bor (List ℕ)))
    → YieldsFirstRef (λ rest. rest) before r after → YieldsFirstRef (λ rest. rest) before q other
    → (line_given r ≡ line_given q) × (after ≡ other)
by_first before after other None None x y = (refl, x.1 ∙ sym y.1)
by_first before after other None (Some m) x y = absurd (let same = sym x.0 ∙ y in cc)
by_first before after other (Some l) None x y = absurd (let same = sym y.0 ∙ x in cc)
by_first before after other (Some l) (Some m) x y = (ap Some (same_head (sym x ∙ y)), same_tail (sym x ∙ y))

pub next_decided : DecidesSeen next.Post (λ κ x. line_given x)
next_decided κ a x y d e p q = (by_first _ _ _ x y p.0 q.0).0

-- what is left in lent memory is the same
abbrev DecidesLeft : {K : Type 0} {A X E : K → Type 0} {M : Type 0} → ((κ : K) → A κ → X κ → E κ → Type 0) → ((κ : K) → E κ → M) → Type 0
DecidesLeft {K} {A} {X} {E} post left = (κ : K) (a : A κ) (x y : X κ) (d e : E κ) → post κ a x d → post κ a y e → left κ d ≡ left κ e

pub next_leaves : DecidesLeft next.Post (λ κ d. d.0.now)
next_leaves κ a x y d e p q = (by_first _ _ _ x y p.0 q.0).1
