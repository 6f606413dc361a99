use Rattle.std.proofs.Common.{sym}
use Rattle.dk_asm.proofs.TextLines.{line_at_cut, line_at_end, rest_shorter}
use Rattle.dk_asm.proofs.Cuts.{cut_none}
use Rattle.dk_asm.proofs.source.first_line.Goals as goal

pub returns-in-Some-clause-lines : goal.returns-in-Some-clause-lines
returns-in-Some-clause-lines c = line_at_cut c.args.text.now c.in-Some.line.now c.in-Some.rest.now (sym c.in-Some.ensures)

pub returns-in-Some-clause-shorter : goal.returns-in-Some-clause-shorter
returns-in-Some-clause-shorter c = rest_shorter c.args.text.now c.in-Some.line.now c.in-Some.rest.now c.requires (sym c.in-Some.ensures)

pub returns-in-None-clause-lines : goal.returns-in-None-clause-lines
returns-in-None-clause-lines c = line_at_end c.args.text.now c.requires (cut_none 10 c.args.text.now (sym c.in-None.ensures))
