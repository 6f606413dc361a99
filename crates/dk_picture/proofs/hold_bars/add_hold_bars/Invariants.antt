use Rattle.dk_picture.proofs.Names.{◌≡◌, ◌++◌, drop, flat_map, map, string_bytes, hold_bar, hold_bar_text}
use Rattle.dk_picture.proofs.hold_bars.add_hold_bars.Given as goal

-- the bars so far, before those of the holds that are left
abbrev pub invariant-loop-hold : goal.invariant-loop-hold
invariant-loop-hold l =
    string_bytes l.text ++ flat_map (hold_bar_text l.frame) (map (hold_bar l.header l.rows l.from) (drop l.hold-index l.holds))
    ≡ string_bytes l.initial.text ++ flat_map (hold_bar_text l.frame) (map (hold_bar l.header l.rows l.from) l.holds)
