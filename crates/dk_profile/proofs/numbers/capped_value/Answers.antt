use Rattle.std.proofs.Common.{◌∙◌, ◌*◌, ◌+◌, ◌-◌, ap, get_or, min}
use Rattle.dk_profile.proofs.Digits.{capped_more}
use Rattle.dk_profile.proofs.numbers.capped_value.Goals as goal

pub loop-digit-preserved : goal.loop-digit-preserved
loop-digit-preserved c =
    c.min-n.ensures ∙ ap (λ n. min (n * 10 + (get_or c.args.digits.now c.loop-digit.digit-index 0 - 48)) 1000001) c.loop-digit.invariant
    ∙ capped_more c.args.digits.now c.loop-digit.digit-index c.requires c.loop-digit-test.true
