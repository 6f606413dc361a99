use Rattle.dk_show.proofs.Names.{◌≡◌, ◌∙◌, Bool, sym, subst, IfSome, MAX_CONFIG_BYTES, IsOfNamed, ComesTo}
use Rattle.std.specs.Prelude.{MatchBool}
use Rattle.dk_asm.specs.declared.TheConstants.{MAX_SOURCE_BYTES}
use Rattle.dk_show.specs.declared.refusal.Refusal.TheVariants as why
use Rattle.dk_show.specs.Output.{IsOfFaults}
use Rattle.dk_show.specs.Sources.{IsOfSource}
use Rattle.dk_show.proofs.faults.faults_work.Goals as goal

pub returns-else-is_source_name-clause-comes : goal.returns-else-is_source_name-clause-comes
returns-else-is_source_name-clause-comes g c =
    let files = (g.D.Depot.seen c.args.depot.now).files in
    let file = c.args.file.now in
    let other = sym c.is_source_name.ensures ∙ c.if-is_source_name.false in
    subst (λ (b : Bool). IfSome files (λ at. ComesTo (λ text ended. MatchBool b (IsOfNamed at file MAX_SOURCE_BYTES why.LongSource IsOfSource text ended)
    (IsOfNamed at file MAX_CONFIG_BYTES why.LongConfig IsOfFaults text ended)) c.document_work.result)) (sym other) c.document_work.ensures.comes
