use Rattle.std.proofs.Common.{◌≡◌, sym, subst, string_bytes, arith}
use Rattle.std.specs.Prelude.{decimal}
use Rattle.std.proofs.lemmas.Result.{IfOk-weaker}
use Rattle.dk_needs_text.specs.Csv.{IsPlain}
use Rattle.dk_needs_text.proofs.Plain.{number_is_plain}
use Rattle.dk_needs_text.proofs.table.number_text.Goals as goal

pub returns-clause-plain : goal.returns-clause-plain
returns-clause-plain c =
    IfOk-weaker c.format.result (λ s. string_bytes s ≡ decimal c.args.number) (λ s. IsPlain (string_bytes s))
    (λ s is. subst IsPlain (sym is) (number_is_plain c.args.number (omega (arith, c.ranges.number.fits)))) c.format.ensures.ok
