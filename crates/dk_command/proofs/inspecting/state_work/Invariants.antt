use Rattle.dk_command.proofs.inspecting.state_work.Given as goal

abbrev pub ghosts-run_ticks : goal.ghosts-run_ticks
ghosts-run_ticks a = record { name = a.blank.name; parts = a.blank.parts }
