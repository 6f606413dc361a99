-- What is written where a command is refused, and the status.
use Rattle.std.specs.Prelude.{ℕ, Bool, true, false, codes, decimal, List, [], ◌++◌}
use Rattle.dk_config.specs.declared.TheConstants.{MAX_CONFIG_BYTES, MAX_LEDGER_BYTES, MAX_PROGRAM_BYTES}
use Rattle.dk_fault_words.specs.FaultWords.{fault_text}
use Rattle.dk_asm.specs.declared.TheConstants.{MAX_SOURCE_BYTES}
use Rattle.dk_asm.specs.declared.fault.LineFault.{LineFault}
use Rattle.dk_asm.specs.declared.fault.LineFault.TheVariants as cause
use Rattle.dk_inputs.specs.declared.refusal.Refusal.{Refusal}
use Rattle.dk_inputs.specs.declared.refusal.Refusal.TheVariants as why
use Rattle.dk_inputs.specs.declared.status.Status.{Status}
use Rattle.dk_inputs.specs.declared.status.Status.TheVariants as status

-- why a line of a source is at fault
abbrev pub cause_word : LineFault → List ℕ
cause_word cause.Form = codes "form"
cause_word cause.Range = codes "range"
cause_word cause.Twice = codes "twice"
cause_word cause.Unknown = codes "unknown"
cause_word cause.Short = codes "short"
cause_word cause.Many = codes "many"

-- what is wrong with the tick of an audited ledger
abbrev pub tick_text : ℕ → List ℕ → List ℕ
tick_text tick part = codes "audit: tick " ++ (decimal tick ++ (codes " " ++ (part ++ codes "\n")))

-- the end of the line of what has more bytes than may be read
abbrev pub longer_than : ℕ → List ℕ
longer_than most = codes " longer than " ++ (decimal most ++ codes " bytes\n")

-- one line, or nothing where a read failed or memory ran out
abbrev pub refusal_text : Refusal → List ℕ
refusal_text why.LongConfig = codes "config:" ++ longer_than MAX_CONFIG_BYTES
refusal_text why.NotToml = codes "config: not TOML\n"
refusal_text (why.Rule f) = fault_text f
refusal_text (why.Uncertified level needs window) = codes "not certified: level "
    ++ (decimal level ++ (codes " needs " ++ (decimal needs ++ (codes " of " ++ (decimal window ++ codes "\n")))))
refusal_text (why.LongProgram name) = codes "program: process " ++ (name ++ longer_than MAX_PROGRAM_BYTES)
refusal_text why.LongLedger = codes "ledger:" ++ longer_than MAX_LEDGER_BYTES
refusal_text (why.LedgerLine line) = codes "ledger: line " ++ (decimal line ++ codes "\n")
refusal_text why.LongSource = codes "asm:" ++ longer_than MAX_SOURCE_BYTES
refusal_text (why.SourceLine number fault) = codes "asm: line "
    ++ (decimal number ++ (codes " " ++ (cause_word fault ++ codes "\n")))
refusal_text why.LongCode = codes "dis:" ++ longer_than MAX_PROGRAM_BYTES
refusal_text why.HeaderDiffers = codes "audit: header differs\n"
refusal_text (why.WrongLabel tick) = tick_text tick (codes "label")
refusal_text (why.WrongEvent tick) = tick_text tick (codes "event")
refusal_text why.NoProcess = codes "plan: no such process\n"
refusal_text why.Depot = []
refusal_text why.NoMemory = []

abbrev pub refusal_status : Refusal → Status
refusal_status why.LongConfig = status.Config
refusal_status why.NotToml = status.Config
refusal_status (why.Rule f) = status.Config
refusal_status (why.Uncertified level needs window) = status.Uncertified
refusal_status (why.LongProgram name) = status.Program
refusal_status why.LongLedger = status.Program
refusal_status (why.LedgerLine line) = status.Program
refusal_status why.LongSource = status.Program
refusal_status (why.SourceLine number fault) = status.Program
refusal_status why.LongCode = status.Program
refusal_status why.HeaderDiffers = status.Program
refusal_status (why.WrongLabel tick) = status.Program
refusal_status (why.WrongEvent tick) = status.Program
refusal_status why.NoProcess = status.Program
refusal_status why.Depot = status.DepotFault
refusal_status why.NoMemory = status.NoMemory

-- a read that failed or want of memory, which have no text
abbrev pub is_silent : Refusal → Bool
is_silent why.Depot = true
is_silent why.NoMemory = true
is_silent _ = false

-- the refusal that only a failed read comes to
abbrev pub is_failed_read : Refusal → Bool
is_failed_read why.Depot = true
is_failed_read _ = false
