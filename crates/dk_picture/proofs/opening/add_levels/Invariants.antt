use Rattle.dk_picture.proofs.Names.{◌≡◌, ◌++◌, drop, string_bytes, levels_words}
use Rattle.dk_picture.proofs.opening.add_levels.Given as goal

abbrev pub invariant-loop-level : goal.invariant-loop-level
invariant-loop-level l = string_bytes l.text ++ levels_words l.level (drop l.level l.rows) ≡ string_bytes l.initial.text ++ levels_words 0 l.rows
