use Rattle.std.proofs.Common.{◌≡◌, ◌++◌, sym, subst, string_bytes, arith}
use Rattle.std.specs.Prelude.{decimal}
use Rattle.std.proofs.lemmas.Result.{IfOk-weaker}
use Rattle.dk_needs_text.specs.Csv.{IsPlain}
use Rattle.dk_needs_text.proofs.Plain.{behind_is_plain, number_is_plain}
use Rattle.dk_needs_text.proofs.forever.with_number.Goals as goal

pub returns-clause-plain : goal.returns-clause-plain
returns-clause-plain c =
    let number = number_is_plain c.args.number (omega (arith, c.ranges.number.fits)) in
    IfOk-weaker c.format.result (λ s. string_bytes s ≡ c.args.words.now ++ decimal c.args.number) (λ s. IsPlain (string_bytes s))
    (λ s is. subst IsPlain (sym is) (behind_is_plain c.args.words.now (decimal c.args.number) c.requires number)) c.format.ensures.ok
