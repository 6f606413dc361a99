use Rattle.dk_loader.proofs.Names.{◌≡◌, ◌++◌, drop, table_view, each_row, broken}
use Rattle.dk_loader.proofs.AllBroken.{tests_of_fields}
use Rattle.dk_loader.proofs.all_shape.add_fields.Given as goal

-- what is found, and what the keys that are left report
abbrev pub invariant-loop-field : goal.invariant-loop-field
invariant-loop-field l =
    l.found.items ++ broken (each_row (tests_of_fields l.rule l.section l.version l.i (table_view l.table)) l.field-index (drop l.field-index l.fields))
    ≡ l.initial.found.items ++ broken (each_row (tests_of_fields l.rule l.section l.version l.i (table_view l.table)) 0 l.fields)
