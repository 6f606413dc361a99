-- What needs tell of that the configuration hasn't got.
use Rattle.std.specs.Prelude.{ℕ, ◌≡◌, ◌≢◌, Bool, is_some, List, [], ◌∷◌, if◌then◌else◌}
use Rattle.dk_config.specs.Configuration.{Configuration}
use Rattle.dk_chain_report.specs.Finding.{is_known}
use Rattle.dk_needs.specs.declared.fault.Key.{Key}
use Rattle.dk_needs.specs.declared.needs.Need.{Need}
use Rattle.dk_needs.specs.declared.needs.What.{What}
use Rattle.dk_needs.specs.Shape.{from_row}
use Rattle.dk_needs_check.specs.declared.unknown.Checking.{Checking}
use Rattle.dk_needs_check.specs.declared.unknown.Unknown.{Unknown}
use Rattle.dk_needs_check.specs.Meaning.{level_numbered, mutex_named}
use Rattle.dk_needs_check.specs.Rows.{AreRows}

-- what stands at this place of the key of need i, unless it is known
abbrev pub unless : Bool → ℕ → Key → ℕ → List Unknown
unless known i key place = if known then [] else record { need = i; key = key; place = place } ∷ []

abbrev pub unknown_in_chain : Configuration → ℕ → List (List ℕ) → List Unknown
unknown_in_chain c i names = from_row (λ place name. unless (is_known c name) i Key.Processes place) 0 names

abbrev pub unknown_in : Configuration → ℕ → What → List Unknown
unknown_in c i (What.Deadline process within) = unless (is_known c process) i Key.Process 0
unknown_in c i (What.Chain names reaction age) = unknown_in_chain c i names
unknown_in c i (What.Jitter process begins whole) = unless (is_known c process) i Key.Process 0
unknown_in c i (What.ChainJitter names reaction) = unknown_in_chain c i names
unknown_in c i (What.Budget process budget) = unless (is_known c process) i Key.Process 0
unknown_in c i (What.Hold mutex hold) = unless (is_some (mutex_named c mutex)) i Key.Mutex 0
unknown_in c i (What.Release level release) = unless (is_some (level_numbered c level)) i Key.Level 0
unknown_in c i (What.Spare level ticks) = unless (is_some (level_numbered c level)) i Key.Level 0
unknown_in c i (What.Slack process each within) = unless (is_known c process) i Key.Process 0
unknown_in c i (What.Always process) = unless (is_known c process) i Key.Process 0
unknown_in c i _ = []

-- of all needs, in their order
abbrev pub unknown_of : Configuration → List Need → List Unknown
unknown_of c needs = from_row (λ i (need : Need). unknown_in c i need.what) 0 needs

-- Where the configuration hasn't got something, all of that; else the rows.
abbrev pub IsCheck : Configuration → List Need → Checking → Type 0
IsCheck c needs (Checking.Unknown found) = (found.items ≡ unknown_of c needs) × (unknown_of c needs ≢ [])
IsCheck c needs (Checking.Decided rows) = (unknown_of c needs ≡ []) × AreRows c 0 needs rows.items
