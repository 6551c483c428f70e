-- Numbers from 1 to a bound.
use Rattle.std.proofs.Common.{◌≡◌, ℕ, ◌≤◌, true, leb, leb-true}
use Rattle.laws.proofs.Bools.{and_left, and_right}
use Rattle.lamps.specs.Members.{is_one_to}

pub one_to : (most n : ℕ) → is_one_to most n ≡ true → (1 ≤ n) × (n ≤ most)
one_to most n h = (leb-true 1 n (and_left (leb 1 n) (leb n most) h), leb-true n most (and_right (leb 1 n) (leb n most) h))
