use Rattle.std.proofs.Common.{◌∙◌, get_or, ap, set, arith}
use Rattle.std.proofs.lemmas.List.{get_or_default}
use Rattle.std.proofs.lemmas.List.Edits.{map_over_more}
use Rattle.dk_cycle_counts.specs.declared.process.ProcessUse.{ProcessUse}
use Rattle.dk_cycle_counts.specs.Process.{use_gone_by}
use Rattle.dk_cycle_counts.proofs.Steps.{no_use}
use Rattle.dk_cycle_counts.proofs.counts.all_gone_by.Goals as goal

pub loop-process-preserved : goal.loop-process-preserved
loop-process-preserved c =
    let uses = c.loop-process.process-items in
    let i = c.loop-process.process-index in
    let one = get_or uses i no_use in
    ap (λ (u : ProcessUse). set uses i u) c.gone_by.ensures
    ∙ map_over_more (use_gone_by c.args.ticks c.args.label c.args.count) c.deref_mut-process-items.result.now uses i one c.loop-process-test.true c.loop-process.invariant
    (get_or_default uses i no_use one (omega arith))
