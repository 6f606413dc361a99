use Rattle.dk_command.proofs.prepare.report_of_run.Given as goal

abbrev pub ghosts-totals_of_run : goal.ghosts-totals_of_run
ghosts-totals_of_run a = record { name = a.blank.name; parts = a.blank.parts }
