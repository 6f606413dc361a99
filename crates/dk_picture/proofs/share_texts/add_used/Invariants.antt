use Rattle.dk_picture.proofs.Names.{◌≡◌, ◌++◌, drop, flat_map, string_bytes, share_of, shares_text}
use Rattle.dk_picture.proofs.share_texts.add_used.Given as goal

-- the windows so far, before those that are left
abbrev pub invariant-loop-window : goal.invariant-loop-window
invariant-loop-window l =
    string_bytes l.text ++ shares_text l.header l.frame l.span l.drawing (flat_map (share_of l.header l.span l.drawing l.process) (drop l.window-index l.windows))
    ≡ string_bytes l.initial.text ++ shares_text l.header l.frame l.span l.drawing (flat_map (share_of l.header l.span l.drawing l.process) l.windows)
