use Rattle.dk_ledger.proofs.Names.{◌≡◌, length, take, arith, ap, length-append, decimal, length-decimal-le, length-take-le, nat_tests}
use Rattle.dk_ledger.proofs.NumberText.{take_written}
use Rattle.dk_ledger.proofs.text_line.TextLine.digits.Goals as goal

pub overflow_add-end : goal.overflow_add-end
overflow_add-end c =
    let short = length-decimal-le 10 c.args.n (omega arith) (omega (arith, c.ranges.n.fits)) (omega (arith, c.ranges.n.fits)) in
    omega (arith, short, c.digits_of.ensures, c.self.invariant)

pub write_digits-requires : goal.write_digits-requires
write_digits-requires c =
    let line = c.self.inside in
    let short = length-decimal-le 10 c.args.n (omega arith) (omega (arith, c.ranges.n.fits)) (omega (arith, c.ranges.n.fits)) in
    let long : length (take line.len line.bytes) ≡ line.len = length-take-le line.len line.bytes (omega (arith, c.self.told, c.self.invariant)) in
    let same : length (take line.len line.bytes) ≡ length c.args.self.now = ap length c.self.view_is in
    (omega (arith, c.digits_of.ensures), omega (arith, short, c.digits_of.ensures, long, same, c.self.told, c.requires))

pub returns-clause-bytes : goal.returns-clause-bytes
returns-clause-bytes c = grind (arith, nat_tests, take_written)

pub returns-clause-len : goal.returns-clause-len
returns-clause-len c =
    let short = length-decimal-le 10 c.args.n (omega arith) (omega (arith, c.ranges.n.fits)) (omega (arith, c.ranges.n.fits)) in
    let whole = ap length (returns-clause-bytes c) in
    omega (arith, short, whole, length-append c.args.self.now (decimal c.args.n))
