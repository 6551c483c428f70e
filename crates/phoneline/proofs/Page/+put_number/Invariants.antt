-- By the number, whose last digit is taken off.
use Rattle.phoneline.proofs.Page.+put_number.Given as goal

abbrev pub decreases-put_number : goal.decreases-put_number
decreases-put_number g l = l.n
