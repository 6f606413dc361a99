use Rattle.dk_dispatch.proofs.tables.AllTables.reserve.Given as goal

abbrev pub ghosts-reserve_counted : goal.ghosts-reserve_counted
ghosts-reserve_counted a = record { name = a.blank.name; parts = a.blank.parts }
