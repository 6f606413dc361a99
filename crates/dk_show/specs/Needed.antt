-- What is told of needs under a configuration, and of a ledger.
use Rattle.std.specs.Prelude.{ℕ, ◌≡◌, ◌⊎◌, ◌≤◌, Bool, true, false, codes, length, nat_lt, List, Option, Some, None, Result, Ok, Err, if◌then◌else◌}
use Rattle.dk_config.specs.Checked.{BreaksNoRule, IsAccepted, IsChecked, IsWithinLimits}
use Rattle.dk_config.specs.declared.TheConstants.{MAX_CONFIG_BYTES, MAX_LEDGER_BYTES}
use Rattle.dk_config.specs.Configuration.{Configuration}
use Rattle.dk_audit.specs.declared.finding.Finding.TheVariants as finding
use Rattle.dk_audit.specs.Lines.{IsFoundIn}
use Rattle.dk_needs.specs.declared.fault.Fault.{Fault}
use Rattle.dk_needs.specs.declared.fault.NeedsError.{NeedsError}
use Rattle.dk_needs.specs.declared.fault.NeedsError.TheVariants as error
use Rattle.dk_loader.specs.Programs.{loading}
use Rattle.dk_loader.specs.Workload.{Workload}
use Rattle.dk_needs.specs.declared.needs.Need.{Need}
use Rattle.dk_needs.specs.Reading.{reading}
use Rattle.dk_needs.specs.Wanted.{Wanted}
use Rattle.dk_needs_check.specs.declared.row.Row.{Row}
use Rattle.dk_needs_check.specs.declared.unknown.Checking.{Checking}
use Rattle.dk_needs_check.specs.declared.unknown.Unknown.{Unknown}
use Rattle.dk_needs_check.specs.declared.unknown.Checking.TheVariants as checking
use Rattle.dk_needs_always.specs.Asking.{asks_always}
use Rattle.dk_needs_always.specs.Deciding.{AreDecided}
use Rattle.dk_needs_check.specs.Bounds.{are_met}
use Rattle.dk_needs_check.specs.Unknown.{IsCheck}
use Rattle.dk_needs_text.specs.Csv.{needs_csv}
use Rattle.dk_needs_text.specs.Junit.{needs_junit}
use Rattle.dk_needs_text.specs.Names.{process_names}
use Rattle.dk_needs_text.specs.Text.{needs_text}
use Rattle.dk_needs_text.specs.Unknown.{unknown_page}
use Rattle.dk_needs_report.specs.Telling.{IsFaultsText}
use Rattle.dk_document_report.specs.Telling.{IsNotTomlText}
use Rattle.dk_needs_run.specs.Rows.{IsRunCheck}
use Rattle.dk_show_request.specs.declared.request.CheckForm.{CheckForm}
use Rattle.dk_show_request.specs.declared.request.CheckForm.TheVariants as form
use Rattle.dk_show_request.specs.declared.request.CheckRequest.{CheckRequest}
use Rattle.dk_show.specs.declared.checks.Layout.{Layout}
use Rattle.dk_show.specs.declared.checks.Layout.TheVariants as layout
use Rattle.dk_show.specs.declared.refusal.Refusal.{Refusal}
use Rattle.dk_show.specs.declared.refusal.Refusal.TheVariants as why
use Rattle.dk_show.specs.declared.status.Status.{Status}
use Rattle.dk_show.specs.declared.status.Status.TheVariants as status
use Rattle.dk_show.specs.Answers.{Files, IsOfNamed, IsWrong, Says}
use Rattle.dk_show.specs.Loading.{IsCertifiedLoad, certified_at, programs_of}

-- where a need isn't met, the call ends as refused
abbrev pub check_end : Bool → Status
check_end true = status.Done
check_end false = status.Refused

-- the configuration of what needs are decided with, which has the programs too where needs of all time are asked for
abbrev pub config_of : Layout → Configuration
config_of (layout.Alone c) = c
config_of (layout.Running w) = w.config

-- the rows as text, as a table, or as test cases, beside the names of the processes
abbrev pub needs_told : CheckForm → List (List ℕ) → Wanted → List Row → List ℕ
needs_told form.Plain names needs rows = needs_text names needs rows
needs_told form.Csv names needs rows = needs_csv names needs.rows rows
needs_told form.Junit names needs rows = needs_junit names needs rows

-- the rows, with those of all time decided where the programs are there
abbrev pub AreAllDecided : Layout → Wanted → List Row → List Row → Type 0
AreAllDecided (layout.Alone c) needs before rows = rows ≡ before
AreAllDecided (layout.Running w) needs before rows = AreDecided w needs.rows before rows

-- these rows are told
abbrev pub IsPageOf : CheckForm → List (List ℕ) → Wanted → List Row → List ℕ → Status → Type 0
IsPageOf f names needs rows text ended = (text ≡ needs_told f names needs rows) × (ended ≡ check_end (are_met rows))

-- what is told of rows
pub record AreRowsTold (f : CheckForm) (l : Layout) (needs : Wanted) (before : List Row) (text : List ℕ) (ended : Status)
    : Type 0 where
  pub rows : List Row
  pub are : AreAllDecided l needs before rows
  pub told : IsPageOf f (process_names (config_of l)) needs rows text ended

-- all that the configuration hasn't got
abbrev pub AreUnknownTold : Wanted → List Unknown → List ℕ → Status → Type 0
AreUnknownTold needs found text ended = (text ≡ unknown_page needs.rows found) × (ended ≡ status.Config)

-- all that the configuration hasn't got, or the rows
abbrev pub IsTold : CheckForm → Layout → Wanted → Checking → List ℕ → Status → Type 0
IsTold f l needs (checking.Unknown found) text ended = AreUnknownTold needs found.items text ended
IsTold f l needs (checking.Decided rows) text ended = AreRowsTold f l needs rows.items text ended

-- what was found without a ledger, or with the one in these bytes
abbrev pub IsFound : Configuration → Option (List ℕ) → List Need → Checking → Type 0
IsFound c None needs found = IsCheck c needs found
IsFound c (Some ledger) needs found = IsRunCheck c needs ledger found

-- what these needs come to
pub record IsOfRows (f : CheckForm) (l : Layout) (ledger : Option (List ℕ)) (needs : Wanted) (text : List ℕ) (ended : Status)
    : Type 0 where
  pub found : Checking
  pub is : IsFound (config_of l) ledger needs.rows found
  pub told : IsTold f l needs found text ended

-- the ledger is that of another configuration
pub record IsOfAnother (c : Configuration) (ledger text : List ℕ) (ended : Status) : Type 0 where
  pub other : IsFoundIn c ledger finding.Header
  pub says : Says why.OtherLedger text ended

-- there is a ledger, and it is none, or that of another configuration
abbrev pub IsOfBadLedger : Configuration → Option (List ℕ) → List ℕ → Status → Type 0
IsOfBadLedger c None text ended = ⊥
IsOfBadLedger c (Some ledger) text ended = IsWrong ledger text ended ⊎ IsOfAnother c ledger text ended

abbrev pub IsOfAll : CheckForm → Layout → Option (List ℕ) → Wanted → List ℕ → Status → Type 0
IsOfAll f l ledger needs text ended =
    IsOfRows f l ledger needs text ended ⊎ IsOfBadLedger (config_of l) ledger text ended

-- all that is wrong with the document in these bytes
abbrev pub IsRefused : List ℕ → List Fault → List ℕ → Status → Type 0
IsRefused bytes found text ended = IsFaultsText bytes found text × (ended ≡ status.Config)

-- they are no document
abbrev pub IsNoDocument : List ℕ → List ℕ → Status → Type 0
IsNoDocument bytes text ended = IsNotTomlText (codes "needs") bytes text × (ended ≡ status.Config)

-- what a document of needs was read as
abbrev pub IsOfWanted : CheckForm → Layout → Option (List ℕ) → List ℕ → Result Wanted NeedsError → List ℕ → Status → Type 0
IsOfWanted f l ledger bytes (Ok needs) text ended = IsOfAll f l ledger needs text ended
IsOfWanted f l ledger bytes (Err error.NotToml) text ended = IsNoDocument bytes text ended
IsOfWanted f l ledger bytes (Err (error.Refused found)) text ended = IsRefused bytes found text ended
IsOfWanted f l ledger bytes (Err error.NoMemory) text ended = ⊥

-- what the bytes of needs come to
abbrev pub IsOfNeeds : CheckForm → Layout → Option (List ℕ) → List ℕ → List ℕ → Status → Type 0
IsOfNeeds f l ledger bytes text ended = IsOfWanted f l ledger bytes (reading bytes) text ended

-- a certified configuration, and the bytes of a document of needs
pub record AskedIn : Type 0 where
  pub config : Configuration
  pub needs : List ℕ

abbrev pub asked_of : Configuration → Option (List ℕ) → Result AskedIn Refusal
asked_of c None = Err why.Depot
asked_of c (Some bytes) =
    if nat_lt MAX_CONFIG_BYTES (length bytes) then Err why.LongNeeds else Ok (record { config = c; needs = bytes })

abbrev pub asked_by : Option (List ℕ) → Result Configuration Refusal → Result AskedIn Refusal
asked_by held (Ok c) = asked_of c held
asked_by held (Err e) = Err e

-- those of a request, or the first refusal
abbrev pub asked_at : Files → CheckRequest → Result AskedIn Refusal
asked_at at r = asked_by (at r.needs) (certified_at (at r.file))

-- what holds of each configuration that was read
pub record IsCertified (c : Configuration) : Type 0 where
  pub unbroken : BreaksNoRule c
  pub checked : IsChecked c
  pub accepted : IsAccepted c
  pub limits : IsWithinLimits c

-- a certified configuration, and few bytes
pub record IsAskedOf (a : AskedIn) : Type 0 where
  pub certified : IsCertified a.config
  pub few : length a.needs ≤ MAX_CONFIG_BYTES

-- what needs are decided with, and their bytes
pub record ReadyIn : Type 0 where
  pub layout : Layout
  pub needs : List ℕ

-- needs of all time are asked for
abbrev pub asks_programs : Result Wanted NeedsError → Bool
asks_programs (Ok needs) = asks_always needs.rows
asks_programs (Err e) = false

abbrev pub running : List ℕ → Result Workload Refusal → Result ReadyIn Refusal
running needs (Ok w) = Ok (record { layout = layout.Running w; needs = needs })
running needs (Err e) = Err e

-- with the programs, where they are asked for
abbrev pub ready_of : Files → AskedIn → Result ReadyIn Refusal
ready_of at a =
    if asks_programs (reading a.needs) then running a.needs (programs_of (loading at a.config))
    else Ok (record { layout = layout.Alone a.config; needs = a.needs })

abbrev pub ready_by : Files → Result AskedIn Refusal → Result ReadyIn Refusal
ready_by at (Ok a) = ready_of at a
ready_by at (Err e) = Err e

-- those of a request, or the first refusal
abbrev pub ready_at : Files → CheckRequest → Result ReadyIn Refusal
ready_at at r = ready_by at (asked_at at r)

abbrev pub IsLaidOut : Layout → Type 0
IsLaidOut (layout.Alone c) = IsCertified c
IsLaidOut (layout.Running w) = IsCertifiedLoad w

pub record IsReadyOf (r : ReadyIn) : Type 0 where
  pub laid : IsLaidOut r.layout
  pub few : length r.needs ≤ MAX_CONFIG_BYTES

-- what they come to, where no ledger is asked for, and with the one in the file of this name
abbrev pub IsOfCheck : Files → CheckForm → Option (List ℕ) → ReadyIn → List ℕ → Status → Type 0
IsOfCheck at f None a text ended = IsOfNeeds f a.layout None a.needs text ended
IsOfCheck at f (Some ledger) a text ended =
    IsOfNamed at ledger MAX_LEDGER_BYTES why.LongLedger (λ bytes. IsOfNeeds f a.layout (Some bytes) a.needs) text ended
