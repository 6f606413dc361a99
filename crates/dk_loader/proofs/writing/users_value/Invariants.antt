use Rattle.dk_loader.proofs.Names.{◌≡◌, map, take, string, view}
use Rattle.dk_loader.proofs.writing.users_value.Given as goal

abbrev pub invariant-loop-user : goal.invariant-loop-user
invariant-loop-user l = map view l.values.items ≡ map string (take l.user-index l.users)
