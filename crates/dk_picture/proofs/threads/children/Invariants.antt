use Rattle.dk_picture.proofs.Names.{◌≡◌, [], drop, fold, child_of, with_child}
use Rattle.dk_picture.proofs.threads.children.Given as goal

-- the children so far, and those of the groups that are left
abbrev pub invariant-loop-group : goal.invariant-loop-group
invariant-loop-group l =
    fold (λ ss g. with_child ss (child_of l.process g.label)) l.serials.items (drop l.group-index l.groups)
    ≡ fold (λ ss g. with_child ss (child_of l.process g.label)) [] l.groups
