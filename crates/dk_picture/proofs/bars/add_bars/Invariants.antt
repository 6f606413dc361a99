use Rattle.dk_picture.proofs.Names.{◌≡◌, ◌++◌, drop, flat_map, map, string_bytes, bar_of, bar_text}
use Rattle.dk_picture.proofs.bars.add_bars.Given as goal

-- the bars so far, before those of the groups that are left
abbrev pub invariant-loop-group : goal.invariant-loop-group
invariant-loop-group l =
    string_bytes l.text ++ flat_map (bar_text l.frame) (map (bar_of l.header l.rows l.from) (drop l.group-index l.groups))
    ≡ string_bytes l.initial.text ++ flat_map (bar_text l.frame) (map (bar_of l.header l.rows l.from) l.groups)
