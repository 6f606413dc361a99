use Rattle.dk_kernel.proofs.Names.{◌∙◌, ◌++◌, ap, Label, quiet, trace_of}
use Rattle.dk_kernel.proofs.Stretched.{replicate-some}
use Rattle.dk_kernel.proofs.kernel.Kernel.idle.Goals as goal

pub returns-clause-entries : goal.returns-clause-entries
returns-clause-entries c =
    c.rest-count.ensures.entries
    ∙ ap (λ es. es ++ trace_of c.args.self.now) (replicate-some c.rest-count.result (quiet Label.Idle) c.if-count-eq0.false)
