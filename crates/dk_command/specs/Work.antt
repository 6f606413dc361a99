-- What is ready to be written.
use Rattle.std.specs.Prelude.{ℕ, ◌≡◌, ◌≤◌, ◌++◌, codes, length, List, Option, Some, None}
use Rattle.dk_config.specs.declared.TheConstants.{MAX_RUN_TICKS}
use Rattle.dk_trace.specs.declared.Entry.{Entry}
use Rattle.dk_ledger.specs.Heading.{IsPrintable, header_text}
use Rattle.dk_ledger.specs.Ledgers.{ledger_text}
use Rattle.dk_report.specs.Report.{numbers_text}
use Rattle.dk_inspect.specs.View.{view}
use Rattle.dk_inspect.specs.Printing.{IsHeaderOf}
use Rattle.dk_command.specs.declared.work.Work.{Work}
use Rattle.dk_command.specs.declared.work.Work.TheVariants as work
use Rattle.dk_command.specs.Runs.{AreEntries, workload_of}
use Rattle.dk_inputs.specs.Inputs.{IsCertified}
use Rattle.dk_inputs.specs.Jobs.{Job}
use Rattle.dk_command.specs.Output.{IsText}
use Rattle.dk_command.specs.Promises.{Keeps}

-- what it needs to be written
abbrev pub IsReady : Work → Type 0
IsReady (work.Run kernel header ticks) =
    (kernel.ticks ≡ 0) × IsCertified kernel.config × (ticks ≤ MAX_RUN_TICKS) × IsPrintable header
    × (length header.processes ≡ length kernel.config.processes)
IsReady (work.Report header totals) =
    IsPrintable header × (length header.levels ≡ length totals.levels)
    × (length header.processes ≡ length totals.processes)
IsReady (work.Certified header) = IsPrintable header
IsReady (work.Lines bytes) = Unit {0}
IsReady (work.Bytes bytes) = Unit {0}
IsReady (work.State kernel header) = IsHeaderOf kernel.config header

-- the text is what it writes
abbrev pub HasText : Work → List ℕ → Type 0
HasText (work.Run kernel header ticks) text =
    (es : List Entry) × AreEntries (workload_of kernel) ticks es × (text ≡ ledger_text header es)
HasText (work.Report header totals) text = text ≡ header_text header ++ numbers_text header totals
HasText (work.Certified header) text = text ≡ header_text header ++ codes "certified\n"
HasText (work.Lines bytes) text = text ≡ bytes.items
HasText (work.Bytes bytes) text = text ≡ bytes.items
HasText (work.State kernel header) text = text ≡ view kernel.config kernel.programs kernel.ticks

-- each text of the work is one of the job
abbrev pub WritesFor : Work → Job → Type 0
WritesFor w job = (text : List ℕ) → HasText w text → IsText job text

-- and a run keeps what it promises
abbrev pub Does : Work → Job → Type 0
Does w job = WritesFor w job × Keeps job

-- the same where words may ask for nothing
abbrev pub SomeDoes : Option Work → Option Job → Type 0
SomeDoes None None = Unit {0}
SomeDoes (Some w) (Some job) = Does w job
SomeDoes _ _ = ⊥
