use Rattle.dk_command.proofs.Names.{◌≡◌, ◌++◌, drop, flat_map, string_bytes, ask_line}
use Rattle.dk_command.proofs.planner.push_asks.Given as goal

-- the lines so far, before those of the asks that are left
abbrev pub invariant-loop-ask : goal.invariant-loop-ask
invariant-loop-ask l =
    string_bytes l.text ++ flat_map (ask_line l.base) (drop l.ask-index l.asks) ≡ string_bytes l.initial.text ++ flat_map (ask_line l.base) l.asks
