-- By the number, which is divided by ten to the fifth.
use Rattle.fields.proofs.numbers.+digits.Given as goal

abbrev pub decreases-digits : goal.decreases-digits
decreases-digits l = l.n
