-- What is written where a command is refused, and the status.
use Rattle.std.specs.Prelude.{ℕ, Bool, true, false, codes, decimal, length, List, [], ◌++◌, ◌≡◌, ◌<◌, ◌≤◌, ◌⊎◌, Option, Some}
use Rattle.dk_config.specs.declared.TheConstants.{MAX_CONFIG_BYTES, MAX_LEDGER_BYTES, MAX_PROGRAM_BYTES}
use Rattle.dk_asm.specs.declared.TheConstants.{MAX_SOURCE_BYTES}
use Rattle.dk_fault_words.specs.FaultWords.{fault_text}
use Rattle.show_layout.specs.Certificate.{overload_told}
use Rattle.show_rows.specs.declared.row.Form.TheVariants as row_form
use Rattle.dk_ledger.specs.Readable.{IsNoText, IsWrongLine}
use Rattle.dk_picture.specs.declared.reading.TheConstants.{MAX_GROUPS}
use Rattle.dk_profile.specs.declared.TheConstants.{MAX_PROFILE_BYTES}
use Rattle.dk_show.specs.declared.refusal.Refusal.{Refusal}
use Rattle.dk_show.specs.declared.refusal.Refusal.TheVariants as why
use Rattle.dk_show.specs.declared.status.Status.{Status}
use Rattle.dk_show.specs.declared.status.Status.TheVariants as status

-- the end of the line of what has more bytes than may be read
abbrev pub longer_than : ℕ → List ℕ
longer_than most = codes " longer than " ++ (decimal most ++ codes " bytes\n")

-- one line, or nothing where a read failed or memory ran out
abbrev pub refusal_text : Refusal → List ℕ
refusal_text why.Depot = []
refusal_text why.LongConfig = codes "config:" ++ longer_than MAX_CONFIG_BYTES
refusal_text why.LongSource = codes "asm:" ++ longer_than MAX_SOURCE_BYTES
refusal_text why.NotToml = codes "config: not TOML\n"
refusal_text (why.Rule f) = fault_text f
refusal_text (why.Uncertified level needs window) = overload_told row_form.Line level needs window
refusal_text (why.LongProgram process) = codes "program: process " ++ (decimal process ++ longer_than MAX_PROGRAM_BYTES)
refusal_text why.LongNeeds = codes "needs:" ++ longer_than MAX_CONFIG_BYTES
refusal_text why.LongProfile = codes "profile:" ++ longer_than MAX_PROFILE_BYTES
refusal_text why.NoProcess = codes "chain: no such process\n"
refusal_text why.LongLedger = codes "ledger:" ++ longer_than MAX_LEDGER_BYTES
refusal_text why.OtherLedger = codes "ledger: of another configuration\n"
refusal_text (why.LedgerLine line) = codes "ledger: line " ++ (decimal line ++ codes "\n")
refusal_text (why.RangeEnds ticks) = codes "range: ledger ends at " ++ (decimal ticks ++ codes "\n")
refusal_text (why.TooManyGroups tick) =
    codes "range: more than " ++ (decimal MAX_GROUPS ++ (codes " groups, TO up to " ++ (decimal tick ++ codes " fits\n")))
refusal_text why.NoMemory = []

abbrev pub refusal_status : Refusal → Status
refusal_status why.Depot = status.DepotFault
refusal_status why.LongConfig = status.Config
refusal_status why.LongSource = status.Refused
refusal_status why.NotToml = status.Config
refusal_status (why.Rule f) = status.Config
refusal_status (why.Uncertified level needs window) = status.Uncertified
refusal_status (why.LongProgram process) = status.Refused
refusal_status why.LongNeeds = status.Config
refusal_status why.LongProfile = status.Refused
refusal_status why.NoProcess = status.Refused
refusal_status why.LongLedger = status.Refused
refusal_status why.OtherLedger = status.Refused
refusal_status (why.LedgerLine line) = status.Refused
refusal_status (why.RangeEnds ticks) = status.Refused
refusal_status (why.TooManyGroups tick) = status.Refused
refusal_status why.NoMemory = status.NoMemory

-- a read that failed or want of memory, which have no text
abbrev pub is_silent : Refusal → Bool
is_silent why.Depot = true
is_silent why.NoMemory = true
is_silent _ = false

abbrev pub status_number : Status → ℕ
status_number status.Done = 0
status_number status.Usage = 1
status_number status.Config = 2
status_number status.Uncertified = 3
status_number status.Refused = 4
status_number status.DepotFault = 5
status_number status.SinkFault = 6
status_number status.NoMemory = 7

-- a status that the outside and memory had no part in
abbrev pub IsAnswer : Status → Type 0
IsAnswer status.DepotFault = ⊥
IsAnswer status.SinkFault = ⊥
IsAnswer status.NoMemory = ⊥
IsAnswer _ = Unit {0}

-- a write failed or memory ran out
abbrev pub IsFault : Status → Type 0
IsFault ended = (ended ≡ status.SinkFault) ⊎ (ended ≡ status.NoMemory)

-- a read or a write failed or memory ran out
abbrev pub IsFaulty : Status → Type 0
IsFaulty ended = (ended ≡ status.DepotFault) ⊎ IsFault ended

-- a status of a command that wrote its whole text
abbrev pub IsEnd : Status → Type 0
IsEnd status.Done = Unit {0}
IsEnd status.Config = Unit {0}
IsEnd status.Uncertified = Unit {0}
IsEnd status.Refused = Unit {0}
IsEnd _ = ⊥

-- the line and the status of a refusal
abbrev pub Says : Refusal → List ℕ → Status → Type 0
Says e text ended = (text ≡ refusal_text e) × (ended ≡ refusal_status e)

-- the names of files and what they hold
abbrev pub Files : Type 0
Files = List ℕ → Option (List ℕ)

-- What the file of this name comes to: the refusal of one of more than so many bytes, and else what its bytes do.
abbrev pub IsOfNamed : Files → List ℕ → ℕ → Refusal → (List ℕ → List ℕ → Status → Type 0) → List ℕ → Status → Type 0
IsOfNamed at name most long IsOf text ended = (bytes : List ℕ) × (at name ≡ Some bytes)
    × (((most < length bytes) × Says long text ended) ⊎ ((length bytes ≤ most) × IsOf bytes text ended))

-- the first wrong line
pub record IsWrong (bytes : List ℕ) (text : List ℕ) (ended : Status) : Type 0 where
  pub line : ℕ
  pub wrong : IsWrongLine line bytes
  pub none : IsNoText bytes
  pub says : Says (why.LedgerLine line) text ended
