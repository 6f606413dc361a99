use Rattle.std.proofs.Common.{◌≡◌, sym, subst, string_bytes}
use Rattle.std.proofs.lemmas.Result.{IfOk-weaker}
use Rattle.dk_needs_text.specs.Csv.{IsPlain}
use Rattle.dk_needs_text.proofs.forever.plain_words.Goals as goal

pub returns-clause-plain : goal.returns-clause-plain
returns-clause-plain c =
    IfOk-weaker c.from_str.result (λ s. string_bytes s ≡ c.args.words.now) (λ s. IsPlain (string_bytes s))
    (λ s same. subst IsPlain (sym same) c.requires) c.from_str.ensures.ok
