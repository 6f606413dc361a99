use Rattle.dk_picture.proofs.Names.{◌≡◌, ◌+◌, ◌++◌, drop, string_bytes, quiet_names}
use Rattle.dk_picture.proofs.quiet_texts.add_names.Given as goal

-- the names so far, before those that are left
abbrev pub invariant-loop-process : goal.invariant-loop-process
invariant-loop-process l = record {
  so_far : string_bytes l.text ++ quiet_names l.header l.frame l.place (drop l.process-index l.quiet) ≡ string_bytes l.initial.text ++ quiet_names l.header l.frame 1 l.quiet;
  at : l.place ≡ l.process-index + 1;
}
