use Rattle.dk_picture.proofs.Names.{◌≡◌, ◌++◌, drop, string_bytes, mutexes_text}
use Rattle.dk_picture.proofs.mutex_texts.add_mutexes.Given as goal

-- the rows so far, before those that are left
abbrev pub invariant-loop-place : goal.invariant-loop-place
invariant-loop-place l =
    string_bytes l.text ++ mutexes_text l.names l.holds l.frame l.place (drop l.place l.mutexes) ≡ string_bytes l.initial.text ++ mutexes_text l.names l.holds l.frame 0 l.mutexes
