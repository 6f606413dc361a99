use Rattle.std.proofs.Common.{◌≡◌, sym, subst, string_bytes}
use Rattle.std.proofs.lemmas.Result.{IfOk-weaker}
use Rattle.dk_needs_text.specs.Csv.{IsPlain}
use Rattle.dk_needs_text.proofs.Plain.{name_is_plain}
use Rattle.dk_needs_text.proofs.text.name_text.Goals as goal

pub returns-clause-plain : goal.returns-clause-plain
returns-clause-plain c is =
    IfOk-weaker c.from_str.result (λ s. string_bytes s ≡ c.args.name.now) (λ s. IsPlain (string_bytes s))
    (λ s same. subst IsPlain (sym same) (name_is_plain c.args.name.now is)) c.from_str.ensures.ok
