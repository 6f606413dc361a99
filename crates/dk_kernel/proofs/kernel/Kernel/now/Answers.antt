use Rattle.dk_kernel.proofs.Names.{◌∙◌, length, ap, sym, Running, trace_of}
use Rattle.dk_kernel.proofs.Fields.{entries-are}
use Rattle.dk_kernel.proofs.kernel.Kernel.now.Goals as goal

pub returns-clause-entries : goal.returns-clause-entries
returns-clause-entries c =
    sym c.self.invariant.ticks ∙ ap length (entries-are _ _ _ _ c.self.invariant) ∙ ap (λ (k : Running). length (trace_of k)) c.self.view_is
