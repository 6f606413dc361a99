use Rattle.dk_picture.proofs.Names.{◌≡◌, ◌++◌, flat_map, string_bytes, below, shares_of_process, shares_text}
use Rattle.dk_picture.proofs.share_texts.add_shares.Given as goal

-- the mains so far are added
abbrev pub invariant-loop-process : goal.invariant-loop-process
invariant-loop-process l =
    string_bytes l.text
    ≡ string_bytes l.initial.text ++ shares_text l.header l.frame l.span l.drawing (flat_map (shares_of_process l.header l.span l.drawing) (below l.process))
