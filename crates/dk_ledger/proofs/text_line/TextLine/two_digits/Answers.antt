use Rattle.dk_ledger.proofs.Names.{◌∙◌, ◌/◌, ◌%◌, ◌++◌, ap, sym, arith, append_assoc, decimal, decimal_digit, decimal_step}
use Rattle.dk_ledger.proofs.text_line.TextLine.two_digits.Goals as goal

pub returns-clause-bytes : goal.returns-clause-bytes
returns-clause-bytes c =
    let n = c.args.n in
    let old = c.args.self.now in
    c.digit-2.ensures.bytes
    ∙ ap (λ t. t ++ decimal (n % 10)) c.digit.ensures.bytes
    ∙ append_assoc old (decimal (n / 10)) (decimal (n % 10))
    ∙ ap (λ d. old ++ (decimal (n / 10) ++ d)) (decimal_digit (n % 10) (omega arith))
    ∙ ap (λ d. old ++ d) (sym (decimal_step n c.requires.long (omega (arith, c.requires.short))))
