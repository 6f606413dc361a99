use Rattle.dk_asm.proofs.Imports.{ap, arith, length, seen_line}
use Rattle.dk_asm.proofs.Programs.{count_read}
use Rattle.dk_asm.proofs.all_causes.line_causes.Goals as goal

pub causes_of-requires : goal.causes_of-requires
causes_of-requires c =
    let few = count_read seen_line c.args.text.now c.in_ok-lines.lines.items c.in_ok-lines.ensures c.requires in
    let same = ap length c.deref.ensures.value in
    omega (arith, few, same)
