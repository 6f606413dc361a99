-- The groups of a ledger's entries in a range of ticks.
use Rattle.std.specs.Prelude.{ℕ, ◌+◌, ◌-◌, ◌==◌, List, take, drop, flat_map, min, max, nat_lt, Option, Some, None, option_to_list, if◌then◌else◌}
use Rattle.dk_trace.specs.declared.Entry.{Entry}
use Rattle.dk_ledger.specs.declared.line.LedgerLine.{LedgerLine}
use Rattle.dk_ledger.specs.Lines.{lines_of}

-- the entries of the ticks from `from` up to before `to`
abbrev pub slice : ℕ → ℕ → List Entry → List Entry
slice from to es = take (to - from) (drop from es)

-- the ticks from `first` up to before `last` of the line, which has its event at its last tick
abbrev pub between : ℕ → ℕ → LedgerLine → Option LedgerLine
between first last l =
    if nat_lt first last
    then Some (record {
      start = first;
      count = last - first;
      label = l.label;
      event = if last == l.start + l.count then l.event else None;
    })
    else None

-- the part of the line from tick `from` up to before tick `to`
abbrev pub part_of_line : ℕ → ℕ → LedgerLine → Option LedgerLine
part_of_line from to l = between (max l.start from) (min (l.start + l.count) to) l

-- the groups: the parts of the ledger's lines, in order
abbrev pub groups : ℕ → ℕ → List Entry → List LedgerLine
groups from to es = flat_map (λ l. option_to_list (part_of_line from to l)) (lines_of es)
