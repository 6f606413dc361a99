-- All that is wrong with a configuration, a line each.
use Rattle.std.specs.Prelude.{ℕ, List, ◌++◌, length, flat_map, codes, decimal}
use Rattle.dk_config.specs.Configuration.{Configuration}
use Rattle.dk_config.specs.declared.fault.ConfigFault.{ConfigFault}
use Rattle.dk_config.specs.Rules.{all_tests}
use Rattle.dk_faults.specs.Faults.{broken}
use Rattle.dk_fault_words.specs.FaultWords.{fault_head}
use Rattle.dk_config_report.specs.Allowed.{allowed_at, allowed_text, value_at, value_text, who}
use Rattle.dk_config_report.specs.Following.{follows_from, mark_text}

-- who is at fault, and with which value
abbrev pub fault_who : Configuration → ConfigFault → List ℕ
fault_who c f = codes ": " ++ (who c f.section f.row ++ value_text (value_at c f.section f.row f.field))

-- what is allowed, and the first of the faults found that names a number of which that is made
abbrev pub fault_why : Configuration → List ConfigFault → ConfigFault → List ℕ
fault_why c found f = allowed_text (allowed_at c f) ++ (mark_text (follows_from found f) ++ codes "\n")

abbrev pub fault_line : Configuration → List ConfigFault → ConfigFault → List ℕ
fault_line c found f = fault_head f ++ (fault_who c f ++ fault_why c found f)

abbrev pub count_line : ℕ → List ℕ
count_line n = codes "faults " ++ (decimal n ++ codes "\n")

-- a line for each test of C4 to C13 that fails, in their order, and how many they are
abbrev pub faults_text : Configuration → List ℕ
faults_text c =
    let found = broken (all_tests c) in flat_map (fault_line c found) found ++ count_line (length found)
