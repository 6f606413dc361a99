use Rattle.dk_cycle.proofs.Names.{refl, subst, AreAllProcesses}
use Rattle.dk_cycle.proofs.run.RunSearch.ends.Goals as goal

pub returns-then-same_processes-clause-found : goal.returns-then-same_processes-clause-found
returns-then-same_processes-clause-found c = record {
  before = c.in-Some.saved;
  is = c.in-Some.is;
  still = c.if-self.true;
  later = c.if-saved-now.true;
  start = refl;
  lasts = refl;
  same = subst (λ one. AreAllProcesses one c.args.now.now.processes.items) c.as_slice.ensures.value
      (subst (λ other. AreAllProcesses c.as_slice.result.now other) c.as_slice-then-saved-now.ensures.value
      (c.same_processes.ensures.same c.if-same_processes.true));
}
