use Rattle.dk_kernel.proofs.Names.{IsRuled, KeepsLaws}
use Rattle.dk_kernel.proofs.Fields.{of-view}
use Rattle.dk_kernel.proofs.kernel.Kernel.keeps_laws.Goals as goal

pub entries_follow-requires : goal.entries_follow-requires
entries_follow-requires c = c.self.invariant.running.ready

pub returns-clause-ruled : goal.returns-clause-ruled
returns-clause-ruled c = of-view _ _ _ _ c.self.invariant _ c.self.view_is IsRuled c.entries_follow.ensures

pub returns-clause-laws : goal.returns-clause-laws
returns-clause-laws c =
    of-view _ _ _ _ c.self.invariant _ c.self.view_is KeepsLaws (c.bound_laws.ensures _ _ c.entries_follow.ensures)
