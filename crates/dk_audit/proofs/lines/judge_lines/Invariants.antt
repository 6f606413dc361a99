use Rattle.dk_audit.proofs.Names.{List, ◌≡◌, ◌+◌, length, option_map_or, Entry, ComesNext, IsFoundSoFar}
use Rattle.dk_audit.proofs.lines.judge_lines.Given as goal

-- this has been found of the entries before the next line
abbrev pub invariant-loop-next : goal.invariant-loop-next
invariant-loop-next g l = (es : List Entry) × (l.ticks ≡ length es) × ComesNext l.fn.bytes es l.next l.reader
    × IsFoundSoFar l.fn.config (record { heading = l.reader.kept.heading; entries = es }) l.found l.tables

abbrev pub decreases-loop-next : goal.decreases-loop-next
decreases-loop-next g l = option_map_or (λ _. 1 + length l.reader.rest) l.next 0
