use Rattle.std.proofs.Common.{◌≡◌, ◌++◌, drop, flat_map}
use Rattle.toml.specs.View.{table_view}
use Rattle.dk_needs.specs.Reading.{section_needs}
use Rattle.dk_needs.proofs.build.add_sections.Given as goal

-- the needs so far, before those of the sections that are left
abbrev pub invariant-loop-section : goal.invariant-loop-section
invariant-loop-section l =
    l.needs.items ++ flat_map (section_needs (table_view l.table)) (drop l.section-index l.sections)
    ≡ l.initial.needs.items ++ flat_map (section_needs (table_view l.table)) l.sections
