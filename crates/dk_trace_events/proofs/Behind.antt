-- What is known of the lines before one: the header has their names, and who holds which mutex there.
use Rattle.std.proofs.Common.{ℕ, ◌-◌, ◌++◌, [], ◌∷◌, List, reverse, sym, subst}
use Rattle.std.specs.Prelude.{Option, Some, None, flat_map, replicate}
use Rattle.std.specs.List.{AllByRecursion}
use Rattle.std.proofs.lemmas.List.{reverse-append}
use Rattle.dk_trace.specs.declared.Label.{Label}
use Rattle.dk_trace.specs.declared.Entry.{Entry}
use Rattle.dk_trace.specs.Ranges.{HasLabel}
use Rattle.dk_ledger.specs.declared.line.LedgerLine.{LedgerLine}
use Rattle.dk_ledger.specs.Heading.{Heading}
use Rattle.dk_ledger.specs.LineText.{IsNamed}
use Rattle.dk_ledger.specs.Cuts.{entries_of}
use Rattle.dk_ledger.specs.Readable.{Journal, IsReadable, size_in}
use Rattle.dk_ledger.proofs.EntryLists.{IsReadableLine, all_both, all_front, all_same}
use Rattle.dk_groups.specs.Groups.{groups}
use Rattle.dk_groups.specs.Cutting.{Cutting, ComesNext}
use Rattle.dk_groups.proofs.NextLine.{groups_in_order}
use Rattle.dk_groups.proofs.Readable.{groups_readable}
use Rattle.dk_holds.specs.declared.holding.Holding.{Holding}
use Rattle.dk_holds.specs.Holds.{AreHolders}
use Rattle.dk_trace_events.proofs.Mutexes.{IsNamedIn}
use Rattle.dk_trace_events.specs.Behind.{AreKnown, past_of}

pub named_label : (h : Heading) (label : Label) → HasLabel (size_in h) label → IsNamed h label
named_label h (Label.Kernel j) known = tt
named_label h (Label.In x) known = known.0
named_label h (Label.Run x) known = known.0
named_label h (Label.Call x) known = known.0
named_label h (Label.Out x) known = known.0
named_label h (Label.Slack x source work) known = known.0.0
named_label h Label.Idle known = tt

pub all_reversed : (P : Entry → Type 0) (es : List Entry) → AllByRecursion P es → AllByRecursion P (reverse es)
all_reversed P [] all = tt
all_reversed P (e ∷ es) all =
    subst (AllByRecursion P) (sym (reverse-append (e ∷ []) es)) (all_both P (reverse es) (e ∷ []) (all_reversed P es all.1) (all.0, tt))

entries_named : (h : Heading) (ls : List LedgerLine) → AllByRecursion (IsReadableLine h) ls → AllByRecursion (IsNamedIn h) (flat_map entries_of ls)
entries_named h [] all = tt
entries_named h (l ∷ ls) all =
    let own : IsNamed h l.label = named_label h l.label all.0.label in
    let quiet : Entry = record { label = l.label; event = None } in
    let last : Entry = record { label = l.label; event = l.event } in
    all_both (IsNamedIn h) (entries_of l) (flat_map entries_of ls)
    (all_both (IsNamedIn h) (replicate (l.count - 1) quiet) (last ∷ []) (all_same (IsNamedIn h) quiet own (l.count - 1)) (own, tt))
    (entries_named h ls all.1)

front_readable : (j : Journal) (ls : List LedgerLine) (next : Option LedgerLine) (c : Cutting) → IsReadable j → ComesNext j ls next c → AllByRecursion (IsReadableLine j.heading) ls
front_readable j ls None c readable all =
    subst (AllByRecursion (IsReadableLine j.heading)) (sym all) (groups_readable j.heading c.from c.to j.entries readable)
front_readable j ls (Some l) c readable comes =
    let all = groups_in_order j (ls ++ l ∷ []) c readable comes.0 in
    all_front (IsReadableLine j.heading) ls (l ∷ []) (all_front (IsReadableLine j.heading) (ls ++ l ∷ []) all.0
    (subst (AllByRecursion (IsReadableLine j.heading)) all.1 (groups_readable j.heading c.from c.to j.entries readable)))

pub known_behind : (j : Journal) (ls : List LedgerLine) (next : Option LedgerLine) (c : Cutting) (rows : List (Option Holding)) → IsReadable j → ComesNext j ls next c
    → AreHolders (past_of ls) rows → AreKnown j.heading rows
known_behind j ls next c rows readable comes holders = (
  past_of ls,
  holders,
  all_reversed (IsNamedIn j.heading) (flat_map entries_of ls) (entries_named j.heading ls (front_readable j ls next c readable comes)),
)

pub known_at_end : (j : Journal) (from to : ℕ) (rows : List (Option Holding)) → IsReadable j → AreHolders (past_of (groups from to j.entries)) rows → AreKnown j.heading rows
known_at_end j from to rows readable holders = (
  past_of (groups from to j.entries),
  holders,
  all_reversed (IsNamedIn j.heading) (flat_map entries_of (groups from to j.entries)) (entries_named j.heading (groups from to j.entries) (groups_readable j.heading from to j.entries readable)),
)
