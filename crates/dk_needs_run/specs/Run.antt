-- What a ledger says of its run.
use Rattle.std.specs.Prelude.{ℕ, ◌≡◌, ◌≤◌, List, sum_by, min, Option, Some, None}
use Rattle.dk_config.specs.Configuration.{Configuration}
use Rattle.dk_trace.specs.declared.Entry.{Entry}
use Rattle.dk_trace.specs.Audit.{Audited}
use Rattle.dk_ledger.specs.Heading.{Heading}
use Rattle.dk_ledger.specs.Readable.{IsNoText, IsReadable, IsWrongLine, Journal, text_of}
use Rattle.dk_audit.specs.declared.finding.Finding.{Finding}
use Rattle.dk_audit.specs.Findings.{IsFinding, whole_past}
use Rattle.dk_audit.specs.Lines.{IsFoundIn}
use Rattle.dk_window_report.specs.declared.account.Account.{Account}
use Rattle.dk_window_report.specs.Accounts.{accounts_of}
use Rattle.dk_window_report.specs.Clean.{overruns as overruns_by}
use Rattle.dk_needs_check.specs.declared.row.Audit.{Audit}
use Rattle.dk_needs_run.specs.declared.found.RunFault.{RunFault}
use Rattle.dk_needs_run.specs.declared.found.RunFound.{RunFound}

-- how often processes had calls refused, up to the last value of 32 bits
abbrev pub refused_in : List Account → ℕ
refused_in accounts = min (sum_by (λ a. a.refused.count) accounts) 4294967295

abbrev pub faults_in : List Account → ℕ
faults_in accounts = min (sum_by (λ a. a.faults.count) accounts) 4294967295

-- of the entries: how many calls of the header's processes were refused, and how many faults they had
abbrev pub refused_by : Heading → List Entry → ℕ
refused_by h past = refused_in (accounts_of h past)

abbrev pub faults_by : Heading → List Entry → ℕ
faults_by h past = faults_in (accounts_of h past)

-- what an audit of a ledger of the configuration finds
abbrev pub finding_of : Audit → Finding
finding_of (Audit.Passed n) = Finding.Passed n
finding_of (Audit.Label n) = Finding.Label n
finding_of (Audit.Event n) = Finding.Event n

-- This is what the ledger says: what an audit finds of it, and the numbers of its entries. Its header is the configuration's.
pub record IsRunOf (c : Configuration) (j : Journal) (run : RunFound) : Type 0 where
  pub audit : IsFinding c j (finding_of run.audit)
  pub overruns : run.overruns ≡ overruns_by j.heading (whole_past j.entries)
  pub refused : run.refused ≡ refused_by j.heading (whole_past j.entries)
  pub faults : run.faults ≡ faults_by j.heading (whole_past j.entries)

-- the ledger in these bytes says it
pub record IsRunIn (c : Configuration) (bytes : List ℕ) (run : RunFound) : Type 0 where
  pub ledger : Journal
  pub readable : IsReadable ledger
  pub text : text_of ledger ≡ bytes
  pub says : IsRunOf c ledger run

-- why they say nothing
abbrev pub IsFaultIn : Configuration → List ℕ → RunFault → Type 0
IsFaultIn c bytes (RunFault.Line n) = IsWrongLine n bytes × IsNoText bytes
IsFaultIn c bytes RunFault.Other = IsFoundIn c bytes Finding.Header
IsFaultIn c bytes RunFault.NoMemory = Unit {0}

-- at most so much, where anything is asked
abbrev pub IsWithin : ℕ → Option ℕ → Type 0
IsWithin n None = Unit {0}
IsWithin n (Some asked) = n ≤ asked

-- The entries of the ledger follow the rules, and there is at most so much of each.
pub record IsRunMet (c : Configuration) (j : Journal) (most_overruns most_refused most_faults : Option ℕ) : Type 0 where
  pub audited : Audited c (whole_past j.entries)
  pub overruns : IsWithin (overruns_by j.heading (whole_past j.entries)) most_overruns
  pub refused : IsWithin (refused_by j.heading (whole_past j.entries)) most_refused
  pub faults : IsWithin (faults_by j.heading (whole_past j.entries)) most_faults
