use Rattle.dk_checks.proofs.run.Run.print.Given as goal

abbrev pub ghosts-print_ticks : goal.ghosts-print_ticks
ghosts-print_ticks a = record { name = a.blank.name; parts = a.blank.parts }
