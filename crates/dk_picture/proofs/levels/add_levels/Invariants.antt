use Rattle.dk_picture.proofs.Names.{◌≡◌, ◌++◌, drop, string_bytes, levels_text}
use Rattle.dk_picture.proofs.levels.add_levels.Given as goal

-- the levels so far, before those that are left
abbrev pub invariant-loop-level : goal.invariant-loop-level
invariant-loop-level l =
    string_bytes l.text ++ levels_text l.span l.level (drop l.level l.rows) ≡ string_bytes l.initial.text ++ levels_text l.span 0 l.rows
