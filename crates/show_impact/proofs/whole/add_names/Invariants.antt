use Rattle.std.proofs.Common.{◌≡◌, ◌++◌, drop}
use Rattle.std.specs.Prelude.{flat_map}
use Rattle.show_impact.specs.ImpactText.{name_text}
use Rattle.show_impact.proofs.whole.add_names.Given as goal

-- the names so far, before those that are left
abbrev pub invariant-loop-name : goal.invariant-loop-name
invariant-loop-name l =
    l.out.items ++ flat_map (name_text l.form l.old.config l.new.config) (drop l.name-index l.names)
    ≡ l.initial.out.items ++ flat_map (name_text l.form l.old.config l.new.config) l.names
