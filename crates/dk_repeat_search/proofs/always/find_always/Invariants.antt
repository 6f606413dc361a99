use Rattle.dk_repeat_search.proofs.always.find_always.Given as goal

abbrev pub ghosts-watched_by : goal.ghosts-watched_by
ghosts-watched_by a = record { name = a.blank.name; parts = a.blank.parts }
