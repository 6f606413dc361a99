use Rattle.dk_ledger.proofs.Names.{◌≡◌, ◌++◌, ◌-◌, replicate, None}
use Rattle.dk_ledger.proofs.reading.push_entries.Given as goal

abbrev pub invariant-loop-turn : goal.invariant-loop-turn
invariant-loop-turn l = l.entries.items ≡ l.initial.entries.items ++ replicate (l._turn - 1) (record { label = l.line.label; event = None })
