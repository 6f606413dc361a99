use Rattle.dk_picture.proofs.Names.{◌≡◌, drop, list_any, ◌==◌}
use Rattle.dk_picture.proofs.threads.is_among.Given as goal

-- none so far
abbrev pub invariant-loop-made : goal.invariant-loop-made
invariant-loop-made l = list_any (λ s. s == l.serial) (drop l.made-index l.serials) ≡ list_any (λ s. s == l.serial) l.serials
