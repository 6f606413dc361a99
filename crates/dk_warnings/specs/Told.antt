-- What each warning means for every run.
use Rattle.std.specs.Prelude.{ℕ, ◌≡◌, ◌≢◌, ◌+◌, ◌*◌, ◌<◌, ◌≤◌, List, ◌∷◌, length, Some, None}
use Rattle.dk_config.specs.Configuration.{Configuration}
use Rattle.dk_config.specs.Certification.{spare}
use Rattle.dk_config.specs.Checked.{IsAccepted, IsChecked, IsWithinLimits}
use Rattle.dk_config.specs.Windows.{budget}
use Rattle.dk_trace.specs.declared.ThreadId.{ThreadId}
use Rattle.dk_trace.specs.declared.Phase.{Phase}
use Rattle.dk_trace.specs.declared.Work.{Work}
use Rattle.dk_trace.specs.declared.Source.{Source}
use Rattle.dk_trace.specs.declared.Label.{Label}
use Rattle.dk_trace.specs.declared.Choice.{Choice}
use Rattle.dk_trace.specs.declared.Event.{Event}
use Rattle.dk_trace.specs.declared.Entry.{Entry}
use Rattle.dk_trace.specs.Members.{Has}
use Rattle.dk_trace.specs.Entries.{thread_of}
use Rattle.dk_trace.specs.Threads.{Thread}
use Rattle.dk_trace.specs.Jobs.{thread_body_left}
use Rattle.dk_trace.specs.Choices.{chosen}
use Rattle.dk_trace.specs.Refusals.{create_refusal}
use Rattle.dk_trace.specs.Audit.{Audited, row_of}
use Rattle.dk_warnings.specs.declared.warning.Warning.{Warning}
use Rattle.dk_warnings.specs.declared.warning.Warning.TheVariants as warning
use Rattle.dk_warnings.specs.Ceilings.{CertifiesToo}
use Rattle.dk_warnings.specs.Found.{warnings}
use Rattle.dk_warnings.specs.Warnings.{IsRoom}

-- it holds of each entry of every list that follows the rules
abbrev pub OfEachEntry : Configuration → (Entry → Type 0) → Type 0
OfEachEntry c Holds = (past : List Entry) (e : Entry) → Audited c (e ∷ past) → Holds e

-- the process's main
abbrev pub main_named : ℕ → ThreadId
main_named p = record { process = p; serial = 0 }

-- each create by a thread of the process is refused, at every tick of every list
abbrev pub CreatesRefused : Configuration → ℕ → Type 0
CreatesRefused c p = (now : ℕ) (past : List Entry) (x : Thread) (level quota entry instructions : ℕ)
    → x.id.process ≡ p → create_refusal c now past x level quota entry instructions ≢ None

-- and so none is done
abbrev pub MakesNoChild : ℕ → Entry → Type 0
MakesNoChild p e = (x : ThreadId) (serial level quota : ℕ) → thread_of e.label ≡ Some x → x.process ≡ p
    → e.event ≢ Some (Event.Create serial level quota)

-- Both switches leave so many ticks of its budget. Before each tick of the body of its main no more of the body are left in
-- the window, and that is fewer than a call takes; so no call begins and ends in one body.
pub record HasShortBody (c : Configuration) (p body : ℕ) : Type 0 where
  pub leaves : 2 * c.costs.switch + body ≡ budget c p
  pub short : body < c.costs.call
  pub left : (past : List Entry) (row : Thread) → Audited c past
      → chosen c past ≡ Choice.Budget (main_named p) Phase.Body → row_of c past (main_named p) ≡ Some row
      → thread_body_left c (length past) past row ≤ body

-- the level has no tick to spare, and each one before it has
pub record IsFirstFull (c : Configuration) (level : ℕ) : Type 0 where
  pub known : level < length c.levels
  pub full : spare c level ≡ 0
  pub first : (j : ℕ) → j < level → 0 < spare c j

-- no tick of slack comes from the spare of the timeline
abbrev pub TakesNoSpare : Entry → Type 0
TakesNoSpare e = (x : ThreadId) (work : Work) → e.label ≢ Label.Slack x Source.Timeline work

-- a lock of the mutex is one by the process's main
abbrev pub LocksAsMain : ℕ → ℕ → Entry → Type 0
LocksAsMain m p e = (x : ThreadId) → thread_of e.label ≡ Some x → e.event ≡ Some (Event.Lock m) → x ≡ main_named p

-- no thread of the process locks the mutex
abbrev pub LocksNever : ℕ → ℕ → Entry → Type 0
LocksNever m p e = (x : ThreadId) → thread_of e.label ≡ Some x → x.process ≡ p → e.event ≢ Some (Event.Lock m)

-- what the warning says
abbrev pub Says : Configuration → Warning → Type 0
Says c (warning.NoChild p) = CreatesRefused c p × OfEachEntry c (MakesNoChild p)
Says c (warning.ShortBody p body) = HasShortBody c p body
Says c (warning.NoSpare p level) = OfEachEntry c TakesNoSpare × IsFirstFull c level
Says c (warning.FastCeiling m level) = CertifiesToo c m level
Says c (warning.OwnMutex m p) = OfEachEntry c (LocksAsMain m p)
Says c (warning.LongHold m p room) = OfEachEntry c (LocksNever m p) × IsRoom c p room

-- each warning that is told of a certified configuration holds
abbrev pub WarningsHold : Type 0
WarningsHold = (c : Configuration) (w : Warning) → IsChecked c → IsWithinLimits c → IsAccepted c → Has (warnings c) w
    → Says c w
