use Rattle.dk_dispatch.proofs.Names.{IsRuled}
use Rattle.dk_dispatch.proofs.Ticking.{at-ready}
use Rattle.dk_dispatch.proofs.dispatcher.Dispatcher.entries_follow.Goals as goal

pub returns : goal.returns
returns c = at-ready _ _ _ c.self.view_is c.requires c.self.invariant (λ k past d. IsRuled k past) (λ stands. stands.ruled)
