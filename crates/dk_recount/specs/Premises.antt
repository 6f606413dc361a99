-- Of which tables, pasts and threads the laws speak, where several take the same for granted.
use Rattle.std.specs.Prelude.{ℕ, ◌≡◌, List, ◌∷◌, Some}
use Rattle.dk_config.specs.Configuration.{Configuration}
use Rattle.dk_trace.specs.declared.ThreadId.{ThreadId}
use Rattle.dk_trace.specs.declared.Label.{Label}
use Rattle.dk_trace.specs.declared.Entry.{Entry}
use Rattle.dk_trace.specs.Choices.{chosen}
use Rattle.dk_trace.specs.Audit.{Audited, Follows, HasChosenLabel}
use Rattle.dk_threads.specs.declared.row.ThreadRow.{ThreadRow}
use Rattle.dk_threads.specs.Table.{find_row}
use Rattle.dk_recount.specs.Tables.{HasFamilies, IsSound, Tables}
use Rattle.dk_recount.specs.Recount.{IsCharged, IsClosed, IsReady}
use Rattle.dk_recount.specs.Events.{IsCalling}
use Rattle.dk_recount.specs.Process.{StopsProcess}
use Rattle.dk_recount.specs.Opening.{due}

-- it holds of all tables that are ready for a tick, whose label is of the past's choice
abbrev pub WhereReady : (Configuration → Label → List Entry → Tables → Type 0) → Type 0
WhereReady Holds =
    (c : Configuration) (label : Label) (past : List Entry) (d : Tables)
    → IsReady c past d → HasFamilies d → IsSound d → HasChosenLabel (chosen c past) label
    → Holds c label past d

-- it holds of all charged tables and the row of a main whose process the entry stops
abbrev pub WhereMainStops : (Configuration → Entry → List Entry → Tables → ThreadRow → Type 0) → Type 0
WhereMainStops Holds =
    (c : Configuration) (e : Entry) (past : List Entry) (d : Tables) (main : ThreadRow) → IsSound d → HasFamilies d
    → IsCharged c e.label past d → Follows c past e → StopsProcess e main.id
    → find_row d.threads main.id ≡ Some main → Holds c e past d main

-- it holds of all tables in which the thread is in a call, and whatever it asks of a child
abbrev pub WhereCreates : (ThreadId → Configuration → Label → List Entry → Tables
    → ℕ → ℕ → ℕ → ℕ → Type 0) → Type 0
WhereCreates Holds =
    (x : ThreadId) (c : Configuration) (label : Label) (past : List Entry) (d : Tables)
    (level quota entry instructions : ℕ) → IsCalling x c label past d
    → IsSound d → HasFamilies d → Holds x c label past d level quota entry instructions

-- it holds of all closed tables, and of those from which whoever is due has ended and started
abbrev pub WhereClosed : (Configuration → Entry → List Entry → Tables → Type 0) → Type 0
WhereClosed Holds =
    (c : Configuration) (e : Entry) (past : List Entry) (d : Tables) → IsClosed c e past d → Audited c (e ∷ past)
    → IsSound d → HasFamilies d → HasFamilies (due d) → Holds c e past d
