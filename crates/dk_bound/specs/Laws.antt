-- The laws of the bound. They hold whatever the programs do, with children, nested holds, slack and any switch cost.
use Rattle.std.specs.Prelude.{◌≡◌, List, None}
use Rattle.dk_config.specs.Configuration.{Configuration}
use Rattle.dk_config.specs.Certification.{first_failing}
use Rattle.dk_config.specs.Checked.{IsChecked, IsAccepted}
use Rattle.dk_trace.specs.declared.Entry.{Entry}
use Rattle.dk_trace.specs.Audit.{Audited}
use Rattle.dk_trace.specs.Guarantees.{Granted}

-- under every configuration that is checked and accepted it holds of every list of entries that follows the rules
abbrev pub Always : (Configuration → List Entry → Type 0) → Type 0
Always Holds = (c : Configuration) (past : List Entry) → IsChecked c → IsAccepted c → Audited c past → Holds c past

-- who gets slack needs the rules alone
abbrev pub AlwaysGranted : Type 0
AlwaysGranted = (c : Configuration) (past : List Entry) → Audited c past → Granted c past

-- a configuration of which no level fails is accepted
abbrev pub AcceptsUnfailing : Type 0
AcceptsUnfailing = (c : Configuration) → first_failing c ≡ None → IsAccepted c
