-- Up to five digits are told by the powers of ten; any five more by the number without its last five.
use Rattle.std.proofs.Common.{sym, arith}
use Rattle.fields.proofs.Decimal.{length_exact}
use Rattle.fields.proofs.numbers.+digits.Goals as goal

pub returns-then-n-lt100 : goal.returns-then-n-lt100
returns-then-n-lt100 t c = sym (length_exact 1 c.args.n (omega arith) (omega arith) (omega arith))

pub returns-then-n-lt1000 : goal.returns-then-n-lt1000
returns-then-n-lt1000 t c = sym (length_exact 2 c.args.n (omega arith) (omega arith) (omega arith))

pub returns-then-n-lt10000 : goal.returns-then-n-lt10000
returns-then-n-lt10000 t c = sym (length_exact 3 c.args.n (omega arith) (omega arith) (omega arith))

pub returns-then-n-lt100000 : goal.returns-then-n-lt100000
returns-then-n-lt100000 t c = sym (length_exact 4 c.args.n (omega arith) (omega arith) (omega arith))
