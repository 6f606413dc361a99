use Rattle.dk_picture.proofs.Names.{◌≡◌, ◌++◌, drop, flat_map, string_bytes, window_text, windows_text}
use Rattle.dk_picture.proofs.windows.add_windows.Given as goal

-- the windows so far, before those that are left
abbrev pub invariant-loop-window : goal.invariant-loop-window
invariant-loop-window l =
    string_bytes l.text ++ flat_map (window_text l.span) (drop l.window-index l.window-items)
    ≡ string_bytes l.initial.text ++ windows_text l.span l.level l.period
