use Rattle.dk_picture.proofs.Names.{◌≡◌, ◌++◌, drop, flat_map, string_bytes, process_words}
use Rattle.dk_picture.proofs.opening.add_processes.Given as goal

abbrev pub invariant-loop-process : goal.invariant-loop-process
invariant-loop-process l =
    string_bytes l.text ++ flat_map process_words (drop l.process-index l.lines) ≡ string_bytes l.initial.text ++ flat_map process_words l.lines
