-- What the audit of a ledger finds.
use Rattle.std.specs.Prelude.{ℕ, ◌≡◌, List, length, take, reverse, slice_get, Some}
use Rattle.dk_config.specs.Configuration.{Configuration}
use Rattle.dk_trace.specs.declared.Entry.{Entry}
use Rattle.dk_trace.specs.Choices.{chosen}
use Rattle.dk_trace.specs.Audit.{Audited, Follows, HasChosenLabel}
use Rattle.dk_certify.specs.Verdicts.{rows_of}
use Rattle.dk_ledger.specs.Heading.{Heading, heading_of}
use Rattle.dk_ledger.specs.Readable.{Journal}
use Rattle.dk_audit.specs.declared.finding.Finding.{Finding}
use Rattle.dk_audit.specs.declared.finding.Finding.TheVariants.{Header, Label, Event, Passed}
use Rattle.dk_audit.specs.declared.finding.Breach.{Breach}
use Rattle.dk_audit.specs.declared.finding.Breach.TheVariants as breach

-- the header is that of the configuration
abbrev pub IsOwnHeading : Configuration → Heading → Type 0
IsOwnHeading c heading = heading ≡ heading_of c (rows_of c)

-- the entries before tick n, the newest first
abbrev pub past_of : List Entry → ℕ → List Entry
past_of entries n = reverse (take n entries)

-- all entries, the newest first
abbrev pub whole_past : List Entry → List Entry
whole_past entries = reverse entries

-- The entry of tick n is the first that breaks the rules, since it isn't labeled as the choice says.
pub record BreaksLabel (c : Configuration) (entries : List Entry) (n : ℕ) : Type 0 where
  pub before : Audited c (past_of entries n)
  pub entry : Entry
  pub at : slice_get entries n ≡ Some entry
  pub wrong : ¬ HasChosenLabel (chosen c (past_of entries n)) entry.label

-- The entry of tick n is the first that breaks the rules, although it is labeled as the choice says.
pub record BreaksEvent (c : Configuration) (entries : List Entry) (n : ℕ) : Type 0 where
  pub before : Audited c (past_of entries n)
  pub entry : Entry
  pub at : slice_get entries n ≡ Some entry
  pub label : HasChosenLabel (chosen c (past_of entries n)) entry.label
  pub wrong : ¬ Follows c (past_of entries n) entry

-- all n entries follow the rules
pub record Passes (c : Configuration) (entries : List Entry) (n : ℕ) : Type 0 where
  pub all : n ≡ length entries
  pub rules : Audited c (whole_past entries)

-- what is found where tick n has the first breach
abbrev pub found_at : Breach → ℕ → Finding
found_at breach.Label n = Label n
found_at breach.Event n = Event n

-- what is found of the entries
abbrev pub IsFoundOf : Configuration → List Entry → Finding → Type 0
IsFoundOf c entries Header = ⊥
IsFoundOf c entries (Label n) = BreaksLabel c entries n
IsFoundOf c entries (Event n) = BreaksEvent c entries n
IsFoundOf c entries (Passed n) = Passes c entries n

-- what is found of the ledger
abbrev pub IsFinding : Configuration → Journal → Finding → Type 0
IsFinding c ledger Header = ¬ IsOwnHeading c ledger.heading
IsFinding c ledger finding = IsOwnHeading c ledger.heading × IsFoundOf c ledger.entries finding

-- no ledger has two findings
abbrev pub IsFoundOnce : Type 0
IsFoundOnce =
    (c : Configuration) (ledger : Journal) (f g : Finding) → IsFinding c ledger f → IsFinding c ledger g → f ≡ g

-- a fact of the past of all entries, where they passed
abbrev pub IfPassed : Finding → (List Entry → Type 0) → Journal → Type 0
IfPassed (Passed n) Holds ledger = Holds (whole_past ledger.entries)
IfPassed _ Holds ledger = Unit {0}
