-- All rules that a configuration breaks.
use Rattle.std.specs.Borrow.{Bor}
use Rattle.std.specs.Prelude.{ℕ, ◌≡◌, ◌<◌, ◌^◌, if◌then◌else◌, List, ◌++◌, length, map, filter, Option, Some, None, option_to_list}
use Rattle.dk_config.specs.declared.fault.ConfigFault.{ConfigFault}
use Rattle.dk_config.specs.Configuration.{Configuration}
use Rattle.dk_config.specs.Tests.{Test}
use Rattle.dk_faults.specs.declared.collecting.RowFaults.{RowFaults}

-- what the tests that fail report, in order
abbrev pub broken : List Test → List ConfigFault
broken tests = map (λ t. t.0) (filter (λ t. t.1) tests)

-- what the test reports, if it fails
abbrev pub answer_of : Test → Option ConfigFault
answer_of t = if t.1 then Some t.0 else None

-- what the tests of a row have reported, in order
abbrev pub reported : RowFaults → List ConfigFault
reported r = option_to_list r.first ++ (option_to_list r.second ++ option_to_list r.third)

-- each answer is what the tests that fail report
abbrev pub Reports : {R : Type 0} → (ℕ → Bor R → RowFaults → Type 0) → (ℕ → R → List Test) → Type 0
Reports {R} post tests = (i : ℕ) (x : Bor R) (r : RowFaults) → post i x r → reported r ≡ broken (tests i x.now)

-- so few rows that a fault can tell their numbers
pub record HasFewRows (c : Configuration) : Type 0 where
  pub levels : length c.levels < 2 ^ 32
  pub processes : length c.processes < 2 ^ 32
  pub mutexes : length c.mutexes < 2 ^ 32
