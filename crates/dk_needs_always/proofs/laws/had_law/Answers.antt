use Rattle.std.proofs.Common.{◌+◌, ◌≤◌, sym, subst}
use Rattle.dk_config.specs.Windows.{main_level, period}
use Rattle.dk_world.proofs.Lengths.{length-trace}
use Rattle.dk_needs_always.proofs.laws.had_law.Goals as goal

pub returns : goal.returns
returns c config programs s checked accepted fit keep = (
  λ n p r here starts within opens.
      c.allotted_lends_law.ensures config _ checked accepted (c.audited_law.ensures config programs n checked accepted) s p r here fit (keep n) starts
      (subst (λ k. r + period config (main_level config p) ≤ k) (sym (length-trace config programs n)) within) opens,
  λ n p r f here starts enough within opens.
      c.allotted_in_law.ensures config _ checked accepted (c.audited_law.ensures config programs n checked accepted) s p r f here fit (keep n) starts enough
      (subst (λ k. r + f ≤ k) (sym (length-trace config programs n)) within) opens,
)
