use Rattle.dk_dispatch.proofs.Names.{◌≡◌, ◌∙◌, ap, sym, Accepted, Fails, answer_of, no-failing}
use Rattle.dk_certify.specs.Verdicts.{rows_of}
use Rattle.dk_dispatch.proofs.reserving.table_of.Goals as goal

pub unreachable-requires : goal.unreachable-requires
unreachable-requires c =
    let fine : Fails c.in-Fails.level c.in-Fails.needs c.in-Fails.window ≡ Accepted (rows_of c.args.config.now) =
    sym c.in-Fails.is ∙ c.certify.ensures.verdict ∙ ap (answer_of c.args.config.now) (no-failing c.args.config.now c.requires.accepted) in
    absurd (cc)
