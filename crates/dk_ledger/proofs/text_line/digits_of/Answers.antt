use Rattle.dk_ledger.proofs.Names.{sym, length_one, length_two}
use Rattle.dk_ledger.proofs.NumberText.{length_three, length_four_digits, length_five, length_six, length_seven, length_eight, length_nine, length_ten}
use Rattle.dk_ledger.proofs.text_line.digits_of.Goals as goal

pub returns-then-n-lt10 : goal.returns-then-n-lt10
returns-then-n-lt10 c = sym (length_one c.args.n c.if-n-lt10.true)

pub returns-else-n-lt10 : goal.returns-else-n-lt10
returns-else-n-lt10 c = sym (length_two c.args.n c.if-n-lt10.false c.if-n-lt100.true)

pub returns-then-n-lt1000 : goal.returns-then-n-lt1000
returns-then-n-lt1000 c = sym (length_three c.args.n c.if-n-lt100.false c.if-n-lt1000.true)

pub returns-else-n-lt1000 : goal.returns-else-n-lt1000
returns-else-n-lt1000 c = sym (length_four_digits c.args.n c.if-n-lt1000.false c.if-n-lt10000.true)

pub returns-then-n-lt100000 : goal.returns-then-n-lt100000
returns-then-n-lt100000 c = sym (length_five c.args.n c.if-n-lt10000.false c.if-n-lt100000.true)

pub returns-else-n-lt100000 : goal.returns-else-n-lt100000
returns-else-n-lt100000 c = sym (length_six c.args.n c.if-n-lt100000.false c.if-n-lt1000000.true)

pub returns-then-n-lt10000000 : goal.returns-then-n-lt10000000
returns-then-n-lt10000000 c = sym (length_seven c.args.n c.if-n-lt1000000.false c.if-n-lt10000000.true)

pub returns-then-n-lt100000000 : goal.returns-then-n-lt100000000
returns-then-n-lt100000000 c = sym (length_eight c.args.n c.if-n-lt10000000.false c.if-n-lt100000000.true)

pub returns-then-n-lt1000000000 : goal.returns-then-n-lt1000000000
returns-then-n-lt1000000000 c = sym (length_nine c.args.n c.if-n-lt100000000.false c.if-n-lt1000000000.true)

pub returns-else-n-lt1000000000 : goal.returns-else-n-lt1000000000
returns-else-n-lt1000000000 c = sym (length_ten c.args.n c.if-n-lt1000000000.false c.ranges.n.fits)
