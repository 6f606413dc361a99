-- What a command asks of the files, and what it leaves of a depot's counts.
use Rattle.std.specs.Prelude.{ℕ, ◌≡◌, ◌+◌, min, false, length, List, Option, Some, None, IfSome, Result, Ok, Err, if◌then◌else◌}
use Rattle.dk_config.specs.declared.TheConstants.{MAX_CONFIG_BYTES, MAX_LEDGER_BYTES}
use Rattle.dk_profile.specs.declared.TheConstants.{MAX_PROFILE_BYTES}
use Rattle.dk_config.specs.Configuration.{Configuration}
use Rattle.dk_outside.specs.Views.{DepotView}
use Rattle.dk_loader.specs.Programs.{bytes_read}
use Rattle.dk_needs.specs.Reading.{reading}
use Rattle.dk_show_request.specs.declared.request.CheckRequest.{CheckRequest}
use Rattle.dk_show_request.specs.declared.request.Request.{Request}
use Rattle.dk_show_request.specs.declared.request.Request.TheVariants as request
use Rattle.dk_show.specs.declared.refusal.Refusal.{Refusal}
use Rattle.dk_show.specs.declared.refusal.Refusal.TheVariants as why
use Rattle.dk_show.specs.Answers.{Files, is_silent}
use Rattle.dk_show.specs.Budgets.{config_at}
use Rattle.dk_show.specs.Chains.{chain_at}
use Rattle.dk_show.specs.Loading.{certified_at, loaded}
use Rattle.dk_show.specs.Needed.{AskedIn, asked_at, asks_programs, ready_at, ready_of}
use Rattle.dk_show.specs.Sources.{most_of}

-- how many bytes a read hands out: all of a file, or one more than the most
abbrev pub handed_out : ℕ → Option (List ℕ) → ℕ
handed_out most None = 0
handed_out most (Some file) = min (most + 1) (length file)

-- those of the second part of a command, where the first comes to something
abbrev pub handed_after : {X : Type 0} → (X → ℕ) → Result X Refusal → ℕ
handed_after more (Ok x) = more x
handed_after more (Err e) = 0

-- Those of a configuration, and then of its programs, up to the first that isn't there or is too long.
abbrev pub handed_load : Files → List ℕ → ℕ
handed_load at name =
    handed_out MAX_CONFIG_BYTES (at name) + handed_after (λ (c : Configuration). bytes_read at c.processes) (certified_at (at name))

-- those of a ledger, beside a configuration, if there is one
abbrev pub handed_held : Option (List ℕ) → Files → List ℕ → ℕ
handed_held None at ledger = handed_out MAX_LEDGER_BYTES (at ledger)
handed_held (Some file) at ledger =
    handed_out MAX_CONFIG_BYTES (at file) + handed_after (λ _. handed_out MAX_LEDGER_BYTES (at ledger)) (certified_at (at file))

-- those of a configuration, and then of needs
abbrev pub handed_needs : Files → CheckRequest → ℕ
handed_needs at r =
    handed_out MAX_CONFIG_BYTES (at r.file) + handed_after (λ _. handed_out MAX_CONFIG_BYTES (at r.needs)) (certified_at (at r.file))

-- those of the programs, where needs of all time are asked for
abbrev pub handed_programs : Files → AskedIn → ℕ
handed_programs at a = if asks_programs (reading a.needs) then bytes_read at a.config.processes else 0

-- those of all that needs are decided with
abbrev pub handed_ready : Files → CheckRequest → ℕ
handed_ready at r = handed_needs at r + handed_after (handed_programs at) (asked_at at r)

-- those of a ledger, where one is asked for
abbrev pub handed_ledger : Files → Option (List ℕ) → ℕ
handed_ledger at None = 0
handed_ledger at (Some ledger) = handed_out MAX_LEDGER_BYTES (at ledger)

-- how many bytes the reads of a command hand out
abbrev pub handed_for : Request → Files → ℕ
handed_for (request.Draw r) at = handed_out MAX_LEDGER_BYTES (at r.ledger)
handed_for (request.Picture ledger file range) at = handed_held file at ledger
handed_for (request.Windows ledger form) at = handed_out MAX_LEDGER_BYTES (at ledger)
handed_for (request.Holds ledger file) at = handed_held file at ledger
handed_for (request.Faults file) at = handed_out (most_of file) (at file)
handed_for (request.Tell r) at = handed_out MAX_CONFIG_BYTES (at r.file)
handed_for (request.Slack r) at = handed_out MAX_CONFIG_BYTES (at r.file)
handed_for (request.Chain r) at = handed_out MAX_CONFIG_BYTES (at r.file)
handed_for (request.Reactions r ledger) at =
    handed_out MAX_CONFIG_BYTES (at r.file) + handed_after (λ _. handed_out MAX_LEDGER_BYTES (at ledger)) (chain_at at r)
handed_for (request.Impact r) at = handed_load at r.old + handed_after (λ _. handed_load at r.new) (loaded at r.old)
handed_for (request.Repeats file ticks) at = handed_load at file
handed_for (request.Check r) at = handed_ready at r + handed_after (λ _. handed_ledger at r.ledger) (ready_at at r)
handed_for (request.Replay r) at =
    handed_out MAX_CONFIG_BYTES (at r.file)
    + handed_after (λ _. handed_out MAX_PROFILE_BYTES (at r.profile)) (certified_at (at r.file))
handed_for (request.Budgets r) at =
    handed_out MAX_CONFIG_BYTES (at r.file)
    + handed_after (λ _. handed_out MAX_PROFILE_BYTES (at r.times)) (config_at (at r.file))
handed_for (request.Help command) at = 0
handed_for request.Version at = 0

-- a file of the first part isn't there, or one of the second, where the first comes to something
abbrev pub MissesAfter : {X : Type 0} → (X → Type 0) → Result X Refusal → Type 0
MissesAfter Missing (Ok x) = Missing x
MissesAfter Missing (Err e) = e ≡ why.Depot

abbrev pub MissesHeld : Option (List ℕ) → Files → List ℕ → Type 0
MissesHeld None at ledger = at ledger ≡ None
MissesHeld (Some file) at ledger = MissesAfter (λ _. at ledger ≡ None) (certified_at (at file))

-- a program isn't there, where they are asked for
abbrev pub MissesReady : Files → CheckRequest → Type 0
MissesReady at r = MissesAfter (λ a. ready_of at a ≡ Err why.Depot) (asked_at at r)

-- the ledger isn't there, where one is asked for
abbrev pub MissesLedger : Files → Option (List ℕ) → Type 0
MissesLedger at None = ⊥
MissesLedger at (Some ledger) = at ledger ≡ None

-- a file that the command asks for isn't there
abbrev pub Misses : Request → Files → Type 0
Misses (request.Draw r) at = at r.ledger ≡ None
Misses (request.Picture ledger file range) at = MissesHeld file at ledger
Misses (request.Windows ledger form) at = at ledger ≡ None
Misses (request.Holds ledger file) at = MissesHeld file at ledger
Misses (request.Faults file) at = at file ≡ None
Misses (request.Tell r) at = at r.file ≡ None
Misses (request.Slack r) at = at r.file ≡ None
Misses (request.Chain r) at = at r.file ≡ None
Misses (request.Reactions r ledger) at = MissesAfter (λ _. at ledger ≡ None) (chain_at at r)
Misses (request.Impact r) at = MissesAfter (λ _. loaded at r.new ≡ Err why.Depot) (loaded at r.old)
Misses (request.Repeats file ticks) at = loaded at file ≡ Err why.Depot
Misses (request.Check r) at = MissesAfter (λ _. MissesLedger at r.ledger) (ready_at at r)
Misses (request.Replay r) at = MissesAfter (λ _. at r.profile ≡ None) (certified_at (at r.file))
Misses (request.Budgets r) at = MissesAfter (λ _. at r.times ≡ None) (config_at (at r.file))
Misses (request.Help command) at = ⊥
Misses request.Version at = ⊥

abbrev pub IsLoud : {A : Type 0} → Result A Refusal → Type 0
IsLoud (Ok x) = Unit {0}
IsLoud (Err e) = is_silent e ≡ false

-- Exactly so many bytes were handed out, unless a read failed or memory ran out; and no read strayed where no file is missed.
pub record Asks {A : Type 0} (files : Option Files) (bytes : Files → ℕ) (Missing : Files → Type 0) (old new : DepotView)
    (result : Result A Refusal) : Type 0 where
  pub given : IfSome files (λ at. IsLoud result → new.given ≡ old.given + bytes at)
  pub strays : IfSome files (λ at. (Missing at → ⊥) → new.strays ≡ old.strays)

abbrev pub handed_for_words : Option Request → Files → ℕ
handed_for_words None at = 0
handed_for_words (Some r) at = handed_for r at

abbrev pub WordsMiss : Option Request → Files → Type 0
WordsMiss None at = ⊥
WordsMiss (Some r) at = Misses r at
