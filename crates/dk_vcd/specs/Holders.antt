-- What the signals of the mutexes tell: which thread holds each, by the ledger's entries before the tick.
use Rattle.std.specs.Prelude.{ℕ, ◌==◌, ◌++◌, [], Bool, true, false, List, codes, reverse, take, Option, Some, None, if◌then◌else◌}
use Rattle.dk_config.specs.declared.TheConstants.{MAX_MUTEXES}
use Rattle.dk_trace.specs.declared.Event.{Event}
use Rattle.dk_trace.specs.declared.Entry.{Entry}
use Rattle.dk_ledger.specs.declared.line.LedgerLine.{LedgerLine}
use Rattle.dk_ledger.specs.Heading.{Heading, ended}
use Rattle.dk_ledger.specs.LineText.{thread_text}
use Rattle.dk_groups.specs.Below.{texts_below}
use Rattle.dk_holds.specs.declared.holding.Holding.{Holding}
use Rattle.dk_holds.specs.Holds.{holding}
use Rattle.dk_vcd.specs.declared.holders.Occasion.{Occasion}
use Rattle.dk_vcd.specs.declared.signals.Signal.{Signal}
use Rattle.dk_vcd.specs.Signals.{code}

-- the hold of mutex m behind the entries before tick t
abbrev pub holder_before : List Entry → ℕ → ℕ → Option Holding
holder_before es t m = holding m (reverse (take t es))

-- the value of a mutex's signal: the thread that holds it
abbrev pub holder_value : Heading → Option Holding → List ℕ
holder_value h None = []
holder_value h (Some x) = thread_text h x.thread

-- the change to this value
abbrev pub holder_change : Heading → ℕ → Option Holding → List ℕ
holder_change h m held = codes "s" ++ holder_value h held ++ codes " " ++ code (Signal.Mutex m)

-- Whether the value of mutex m is written: behind an event that may begin or end a hold of it, and where a dump begins.
abbrev pub is_told : Occasion → ℕ → Bool
is_told Occasion.Start m = true
is_told (Occasion.Behind (Event.Lock k)) m = k == m
is_told (Occasion.Behind (Event.Unlock k)) m = k == m
is_told (Occasion.Behind Event.Exit) m = true
is_told (Occasion.Behind (Event.Fault kind)) m = true
is_told (Occasion.Behind (Event.Delete serial)) m = true
is_told (Occasion.Behind _) m = false

abbrev pub holder_text : Heading → Occasion → ℕ → Option Holding → List ℕ
holder_text h told m held = if is_told told m then ended (holder_change h m held) else []

-- of all mutexes
abbrev pub holders_text : Heading → Occasion → (ℕ → Option Holding) → List ℕ
holders_text h told held = texts_below (λ m. holder_text h told m (held m)) MAX_MUTEXES

-- behind a group with this event, or with none
abbrev pub moved_text : Heading → Option Event → (ℕ → Option Holding) → List ℕ
moved_text h None held = []
moved_text h (Some e) held = holders_text h (Occasion.Behind e) held

abbrev pub event_before : Option LedgerLine → Option Event
event_before None = None
event_before (Some b) = b.event
