-- What is told of how long the mutexes of a ledger were held.
use Rattle.std.specs.Prelude.{ℕ, ◌≡◌, ◌⊎◌, List, [], Option, Some, None}
use Rattle.dk_config.specs.Configuration.{Configuration}
use Rattle.dk_config.specs.Mutex.{Mutex}
use Rattle.dk_config.specs.declared.TheConstants.{MAX_LEDGER_BYTES}
use Rattle.dk_ledger.specs.Readable.{Journal, IsReadable, text_of}
use Rattle.dk_audit.specs.Findings.{IsOwnHeading}
use Rattle.show_ledger.specs.Holds.{holds_text}
use Rattle.dk_show.specs.declared.refusal.Refusal.TheVariants as why
use Rattle.dk_show.specs.declared.status.Status.{Status}
use Rattle.dk_show.specs.declared.status.Status.TheVariants as status
use Rattle.dk_show.specs.Answers.{Files, IsOfNamed, IsWrong, Says}
use Rattle.dk_show.specs.Loading.{IsOf, certified_at}

-- what is told of the ledger, where the mutexes have these rows
abbrev pub AreHoldsTold : List Mutex → Journal → List ℕ → Status → Type 0
AreHoldsTold rows j text ended = (text ≡ holds_text rows j.heading j.entries) × (ended ≡ status.Done)

-- the ledger in these bytes, and what is told of it
pub record AreHoldsIn (bytes text : List ℕ) (ended : Status) : Type 0 where
  pub ledger : Journal
  pub readable : IsReadable ledger
  pub bytes_are : text_of ledger ≡ bytes
  pub told : AreHoldsTold [] ledger text ended

-- what the bytes of a ledger come to
abbrev pub IsOfHolds : List ℕ → List ℕ → Status → Type 0
IsOfHolds bytes text ended = IsWrong bytes text ended ⊎ AreHoldsIn bytes text ended

-- what is told of the configuration's own ledger
pub record AreOwnHoldsTold (c : Configuration) (j : Journal) (text : List ℕ) (ended : Status) : Type 0 where
  pub own : IsOwnHeading c j.heading
  pub told : AreHoldsTold c.mutexes j text ended

-- the ledger is that of another configuration
pub record IsOfForeign (c : Configuration) (j : Journal) (text : List ℕ) (ended : Status) : Type 0 where
  pub other : IsOwnHeading c j.heading → ⊥
  pub says : Says why.OtherLedger text ended

abbrev pub IsHeldUnder : Configuration → Journal → List ℕ → Status → Type 0
IsHeldUnder c j text ended = AreOwnHoldsTold c j text ended ⊎ IsOfForeign c j text ended

-- the ledger in these bytes, and what is told of it beside the configuration
pub record AreOwnHoldsIn (c : Configuration) (bytes text : List ℕ) (ended : Status) : Type 0 where
  pub ledger : Journal
  pub readable : IsReadable ledger
  pub bytes_are : text_of ledger ≡ bytes
  pub told : IsHeldUnder c ledger text ended

abbrev pub IsOfOwnHolds : Configuration → List ℕ → List ℕ → Status → Type 0
IsOfOwnHolds c bytes text ended = IsWrong bytes text ended ⊎ AreOwnHoldsIn c bytes text ended

-- What the ledger in the file of this name comes to, beside the certified configuration in the other file, if there is one.
abbrev pub IsOfHeld : Option (List ℕ) → Files → List ℕ → List ℕ → Status → Type 0
IsOfHeld None at ledger text ended = IsOfNamed at ledger MAX_LEDGER_BYTES why.LongLedger IsOfHolds text ended
IsOfHeld (Some file) at ledger text ended =
    IsOf (certified_at (at file)) (λ c. IsOfNamed at ledger MAX_LEDGER_BYTES why.LongLedger (IsOfOwnHolds c)) text ended
