use Rattle.dk_audit.proofs.auditing.audit.Given as goal

abbrev pub ghosts-first_breach : goal.ghosts-first_breach
ghosts-first_breach a = record { name = a.blank.name; parts = a.blank.parts }
