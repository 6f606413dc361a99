use Rattle.dk_kernel.proofs.kernel.Kernel.denial.Given as goal

abbrev pub ghosts-denied_level : goal.ghosts-denied_level
ghosts-denied_level a = record { name = a.blank.name; parts = a.blank.parts }
