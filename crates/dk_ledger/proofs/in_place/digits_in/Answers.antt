use Rattle.dk_ledger.proofs.Names.{arith, ◌+◌, ◌∷◌, decimal_digit, nat_tests}
use Rattle.dk_ledger.proofs.InPlace.{next_digit_read}
use Rattle.dk_ledger.proofs.in_place.digits_in.Goals as goal

pub loop-digit-init : goal.loop-digit-init
loop-digit-init c = grind (arith, nat_tests, decimal_digit)

pub loop-digit-preserved : goal.loop-digit-preserved
loop-digit-preserved c =
    let n = c.loop-digit.number in
    let m = c.in-Some.digit in
    let some = c.loop-digit.invariant.some in
    let small = c.in-Some.ensures.small in
    let most = c.if-number-gt429496728.false in
    record {
      some = omega (arith, some);
      fits = omega (arith, small, most);
      text = next_digit_read ((48 + c.args.first) ∷ c.args.bytes.now) n m c.loop-digit.rest.now c.in-Some.behind.now c.loop-digit.invariant.text c.in-Some.ensures.text some small (omega (arith, small, most));
    }
