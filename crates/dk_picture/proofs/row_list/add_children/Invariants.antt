use Rattle.dk_picture.proofs.Names.{◌≡◌, ◌++◌, drop, map, thread_of_process}
use Rattle.dk_picture.proofs.row_list.add_children.Given as goal

abbrev pub invariant-loop-serial : goal.invariant-loop-serial
invariant-loop-serial l =
    l.rows.items ++ map (thread_of_process l.process) (drop l.serial-index l.serials) ≡ l.initial.rows.items ++ map (thread_of_process l.process) l.serials
