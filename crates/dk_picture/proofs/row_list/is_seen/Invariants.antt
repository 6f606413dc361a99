use Rattle.dk_picture.proofs.Names.{◌≡◌, drop, list_any, takes, thread_of_process}
use Rattle.dk_picture.proofs.row_list.is_seen.Given as goal

-- none so far
abbrev pub invariant-loop-group : goal.invariant-loop-group
invariant-loop-group l = list_any (λ g. takes g.label (thread_of_process l.process 0)) (drop l.group-index l.groups) ≡ list_any (λ g. takes g.label (thread_of_process l.process 0)) l.groups
