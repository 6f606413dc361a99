use Rattle.dk_kernel.proofs.Names.{◌∙◌, ap, IsRuled, Running, trace_of}
use Rattle.dk_kernel.proofs.Fields.{entries-are, of-view}
use Rattle.dk_kernel.proofs.kernel.Kernel.dispatcher.Goals as goal

pub entries_follow-requires : goal.entries_follow-requires
entries_follow-requires c = c.self.invariant.running.ready

pub returns-clause-ruled : goal.returns-clause-ruled
returns-clause-ruled c = of-view _ _ _ _ c.self.invariant _ c.self.view_is IsRuled c.entries_follow.ensures

pub returns-clause-ready : goal.returns-clause-ready
returns-clause-ready c = c.self.invariant.running.ready

pub returns-clause-config : goal.returns-clause-config
returns-clause-config c = c.self.invariant.config ∙ ap (λ (k : Running). k.config) c.self.view_is

pub returns-clause-entries : goal.returns-clause-entries
returns-clause-entries c = entries-are _ _ _ _ c.self.invariant ∙ ap (λ (k : Running). trace_of k) c.self.view_is
