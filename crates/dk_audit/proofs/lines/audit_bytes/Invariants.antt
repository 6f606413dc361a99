use Rattle.dk_audit.proofs.lines.audit_bytes.Given as goal

abbrev pub ghosts-judge_lines : goal.ghosts-judge_lines
ghosts-judge_lines a = record { name = a.blank.name; parts = a.blank.parts }
