use Rattle.dk_loader.proofs.Names.{◌≡◌, ◌++◌, drop, each_row, broken}
use Rattle.dk_loader.proofs.AllBroken.{tests_of_rows}
use Rattle.dk_loader.proofs.all_shape.add_rows.Given as goal

-- what is found, and what the rows that are left report
abbrev pub invariant-loop-i : goal.invariant-loop-i
invariant-loop-i l =
    l.found.items ++ broken (each_row (tests_of_rows l.rule l.section l.version) l.i (drop l.i l.rows))
    ≡ l.initial.found.items ++ broken (each_row (tests_of_rows l.rule l.section l.version) 0 l.rows)
