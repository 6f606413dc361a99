use Rattle.dk_kernel.proofs.Names.{◌≡◌, denied}
use Rattle.dk_kernel.proofs.Fields.{of-view}
use Rattle.dk_kernel.proofs.kernel.Kernel.denied_level.Goals as goal

pub denial-requires : goal.denial-requires
denial-requires g c = c.self.invariant.running.ready

pub returns : goal.returns
returns g c = of-view _ _ _ _ c.self.invariant _ c.self.view_is (λ k past. c.denial.result ≡ denied k past) c.denial.ensures.denied
