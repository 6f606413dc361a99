use Rattle.std.proofs.Common.{◌∙◌, [], sym, subst}
use Rattle.dk_ledger.specs.ReadSoFar.{ComesNext}
use Rattle.dk_ledger.proofs.NextItem.{if_ok}
use Rattle.dk_groups.proofs.Heads.{heading_known}
use Rattle.dk_groups.proofs.surveying.header_of.Goals as goal

pub returns-clause-heading : goal.returns-clause-heading
returns-clause-heading c = λ j readable text.
    let next = c.in-Ok.field-0 in
    let comes = if_ok c.next.result next _ c.in-Ok.is c.next.ensures.comes c.args.bytes.now [] c.new-reader.ensures in
    c.into_header.ensures ∙ heading_known j next c.next.new.self readable (subst (λ b. ComesNext b [] next c.next.new.self) (sym text) comes)
