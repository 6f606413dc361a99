use Rattle.std.proofs.Common.{◌≡◌, ◌++◌, drop}
use Rattle.std.specs.Prelude.{Some, flat_map}
use Rattle.show_impact.specs.ImpactText.{one_text}
use Rattle.show_impact.proofs.whole.add_each.Given as goal

-- the changes so far, before those that are left
abbrev pub invariant-loop-change : goal.invariant-loop-change
invariant-loop-change l =
    l.out.items ++ flat_map (λ one. one_text l.form l.old.config l.new.config l.row l.process (Some one)) (drop l.change-index l.changes)
    ≡ l.initial.out.items ++ flat_map (λ one. one_text l.form l.old.config l.new.config l.row l.process (Some one)) l.changes
