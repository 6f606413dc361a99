use Rattle.std.proofs.Common.{◌≡◌, ◌++◌, drop, flat_map}
use Rattle.toml.specs.View.{table_view}
use Rattle.dk_needs.specs.Shape.{section_faults}
use Rattle.dk_needs.proofs.shape.add_sections.Given as goal

-- what is found, and what the sections that are left report
abbrev pub invariant-loop-section : goal.invariant-loop-section
invariant-loop-section l =
    l.found.items ++ flat_map (section_faults (table_view l.table)) (drop l.section-index l.sections)
    ≡ l.initial.found.items ++ flat_map (section_faults (table_view l.table)) l.sections
