use Rattle.dk_picture.proofs.Names.{◌≡◌, ◌++◌, drop, flat_map, string_bytes, begin_line, begin_lines}
use Rattle.dk_picture.proofs.windows.add_begin_lines.Given as goal

-- the lines so far, before those of the windows that are left
abbrev pub invariant-loop-window : goal.invariant-loop-window
invariant-loop-window l =
    string_bytes l.text ++ flat_map (begin_line l.span l.top) (drop l.window-index l.window-items)
    ≡ string_bytes l.initial.text ++ begin_lines l.span l.top l.level l.period
