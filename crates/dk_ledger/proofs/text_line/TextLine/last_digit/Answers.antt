use Rattle.dk_ledger.proofs.Names.{ℕ, ◌≡◌, ◌∙◌, ◌-◌, ◌/◌, ◌<◌, ◌≤◌, ◌^◌, length, arith, ap, length-append, decimal, decimal_step, length-take-le, get_or-take, nat_tests}
use Rattle.dk_ledger.proofs.NumberText.{front_within, last_byte}
use Rattle.dk_ledger.proofs.text_line.TextLine.last_digit.Goals as goal

has_digits : (n digits : ℕ) → 10 ≤ n → n < 2 ^ 64 → digits ≡ length (decimal n) → 1 ≤ digits
has_digits n digits more fits all = omega (arith, all, ap length (decimal_step n more fits) ∙ length-append (decimal (n / 10)) _)

pub overflow_sub-result : goal.overflow_sub-result
overflow_sub-result c = has_digits c.args.n c.args.digits c.requires.long (omega (arith, c.ranges.n.fits)) c.requires.all

pub returns : goal.returns
returns c = grind (arith, nat_tests, length-take-le, front_within, has_digits, get_or-take, last_byte)
