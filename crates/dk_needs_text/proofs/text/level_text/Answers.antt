use Rattle.std.proofs.Common.{◌≡◌, ◌++◌, refl, sym, subst, string_bytes, arith}
use Rattle.std.specs.Prelude.{codes, decimal}
use Rattle.std.proofs.lemmas.Result.{IfOk-weaker}
use Rattle.dk_needs_text.specs.Csv.{IsPlain}
use Rattle.dk_needs_text.proofs.Plain.{behind_is_plain, number_is_plain}
use Rattle.dk_needs_text.proofs.text.level_text.Goals as goal

pub returns-clause-plain : goal.returns-clause-plain
returns-clause-plain c =
    let number = number_is_plain c.args.level (omega (arith, c.ranges.level.fits)) in
    IfOk-weaker c.format.result (λ s. string_bytes s ≡ codes "level " ++ decimal c.args.level) (λ s. IsPlain (string_bytes s))
    (λ s is. subst IsPlain (sym is) (behind_is_plain (codes "level ") (decimal c.args.level) refl number)) c.format.ensures.ok
