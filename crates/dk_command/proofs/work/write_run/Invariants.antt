use Rattle.dk_command.proofs.work.write_run.Given as goal

abbrev pub ghosts-write_entries : goal.ghosts-write_entries
ghosts-write_entries g a = record { name = a.blank.name; parts = a.blank.parts }
