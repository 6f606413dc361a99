-- The holds that a process can have.
use Rattle.std.specs.Prelude.{ℕ, ◌≡◌, ◌<◌, true, List, ◌∷◌, length, Some}
use Rattle.dk_config.specs.Configuration.{Configuration}
use Rattle.dk_config.specs.Checked.{IsChecked, IsAccepted}
use Rattle.dk_config.specs.Certification.{is_user}
use Rattle.dk_trace.specs.declared.Event.{Event}
use Rattle.dk_trace.specs.declared.Entry.{Entry}
use Rattle.dk_trace.specs.Entries.{thread_of}
use Rattle.dk_trace.specs.Audit.{Audited}
use Rattle.dk_trace.specs.declared.ThreadId.{ThreadId}
use Rattle.dk_warnings.specs.Warnings.{NeverFits}

-- a list of entries follows the rules, and its newest is a lock of the mutex by a thread of the process
pub record IsLocked (c : Configuration) (p m : ℕ) : Type 0 where
  pub past : List Entry
  pub entry : Entry
  pub follows : Audited c (entry ∷ past)
  pub locker : ThreadId
  pub of_process : locker.process ≡ p
  pub thread : thread_of entry.label ≡ Some locker
  pub event : entry.event ≡ Some (Event.Lock m)

-- where a hold fits a user, some list that follows the rules has its lock
abbrev pub FittingLocked : Type 0
FittingLocked = (c : Configuration) (p m : ℕ) → IsChecked c → IsAccepted c
    → p < length c.processes → is_user c m p ≡ true
    → ¬ NeverFits c p m → IsLocked c p m
