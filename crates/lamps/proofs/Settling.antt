-- What a reply comes to: it is refused, and the lamps are as they were; or one member has replied at one place, the lowest at which its request is
-- pending. All that is promised of replies goes by these cases.
use Rattle.std.proofs.Common.{◌≡◌, ℕ, ◌<◌, Bool, true, false, cond, not, get_or, List, length, Option, None, Some, refl, arith, position, ltb}
use Rattle.std.specs.List.{position_or_len}
use Rattle.std.proofs.lemmas.Bool.{ltb-false}
use Rattle.std.proofs.lemmas.List.Quantifiers.{position-Some}
use Rattle.std.proofs.lemmas.List.Sums.{prefix_len_passes}
use Rattle.laws.proofs.Bools.{never}
use Rattle.table.specs.Places.{place_count}
use Rattle.lamps.specs.declared.members.Lamps.{Lamps}
use Rattle.lamps.specs.declared.reply.Reply.{Reply}
use Rattle.lamps.specs.declared.reply.ReplyRefusal.{ReplyRefusal}
use Rattle.lamps.specs.declared.reply.ReplyRefusal.TheVariants.{NoSuchMember, NotPending}
use Rattle.lamps.specs.declared.reply.Settlement.{Settlement}
use Rattle.lamps.specs.Members.{is_member, blank_lamp, lamp_at}
use Rattle.lamps.specs.Reply.{is_pending, find_pending, settled_at, settled_by, refused_reply, settled_of}

-- why it is refused
pub data Refusal (l : Lamps) (r : Reply) : ReplyRefusal → Type 0 where
  no_member : is_member r.member ≡ false → Refusal l r NoSuchMember
  none_pending : is_member r.member ≡ true → ((j : ℕ) → j < place_count → is_pending r (lamp_at l j) ≡ false) → Refusal l r NotPending

-- the place whose request it settles
pub record Lowest (l : Lamps) (r : Reply) (i : ℕ) : Type 0 where
  pub inside : i < place_count
  pub member : is_member r.member ≡ true
  pub pending : is_pending r (lamp_at l i) ≡ true
  pub first : (j : ℕ) → j < i → is_pending r (lamp_at l j) ≡ false

pub data Settling (l : Lamps) (r : Reply) : Settlement → Type 0 where
  refuses : {w : ReplyRefusal} → Refusal l r w → Settling l r (refused_reply l w)
  settles : {i : ℕ} → Lowest l r i → Settling l r (settled_at l r i)

-- where a search finds nothing, nothing passes
module _ {A : Type 0} (p : A → Bool) (d : A) where
  fails : (b : Bool) → not b ≡ true → b ≡ false
  fails false h = refl
  fails true h = never h

  none_passing : (xs : List A) → position p xs ≡ None → (j : ℕ) → j < length xs → p (get_or xs j d) ≡ false
  none_passing xs e j h = by (ltb (position_or_len p xs) (length xs)) refl e
    where
      by : (b : Bool) → ltb (position_or_len p xs) (length xs) ≡ b → cond b (Some (position_or_len p xs)) None ≡ None → p (get_or xs j d) ≡ false
      by true q g = absurd cc
      by false q g = fails (p (get_or xs j d)) (prefix_len_passes (λ x. not (p x)) xs j d (omega (arith, ltb-false (position_or_len p xs) (length xs) q, h)))

pub settling : (l : Lamps) → length l.places ≡ place_count → (r : Reply) → Settling l r (settled_of l r)
settling l wide r = by (is_member r.member) refl (find_pending r l.places) refl
  where
    by : (b : Bool) → is_member r.member ≡ b → (f : Option ℕ) → find_pending r l.places ≡ f → Settling l r (cond b (settled_by l r f) (refused_reply l NoSuchMember))
    by false who f e = refuses (no_member who)
    by true who None e = refuses (none_pending who (λ j h. none_passing (is_pending r) blank_lamp l.places e j (omega arith)))
    by true who (Some i) e =
        let h = position-Some (is_pending r) l.places i blank_lamp e in
        settles {i = i} (record { inside = omega (arith, h.0); member = who; pending = h.1; first = h.2 })
