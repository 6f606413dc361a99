use Rattle.dk_asm.proofs.Imports.{◌∙◌, ap, arith, length, seen_line, seen_lines}
use Rattle.dk_asm.proofs.Programs.{count_read}
use Rattle.dk_asm.proofs.assembling.outcome_of.Goals as goal

pub lines_outcome-requires-clause-few : goal.lines_outcome-requires-clause-few
lines_outcome-requires-clause-few c =
    let few = count_read seen_line c.args.text.now c.in_ok-lines.lines.items c.in_ok-lines.ensures c.requires in
    let same = ap length c.deref.ensures.value in
    omega (arith, few, same)

pub lines_outcome-requires-clause-read : goal.lines_outcome-requires-clause-read
lines_outcome-requires-clause-read c = (c.args.text.now, ap seen_lines c.deref.ensures.value ∙ c.in_ok-lines.ensures)

pub returns-clause-outcome : goal.returns-clause-outcome
returns-clause-outcome c = c.lines_outcome.ensures.outcome c.args.text.now (ap seen_lines c.deref.ensures.value ∙ c.in_ok-lines.ensures)
