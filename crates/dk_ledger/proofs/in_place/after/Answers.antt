use Rattle.dk_ledger.proofs.Names.{Decides-eqb, strip_prefix_is}
use Rattle.dk_ledger.proofs.InPlace.{behind_word}
use Rattle.dk_ledger.proofs.in_place.after.Goals as goal

pub returns : goal.returns
returns c =
    behind_word c.strip_prefix.result c.args.bytes.now c.as_bytes.result.now c.args.word.now _ c.as_bytes.ensures.value
    (strip_prefix_is Decides-eqb c.args.bytes.now c.as_bytes.result.now c.strip_prefix.result c.strip_prefix.ensures.cases)
