-- The words of the line of a fault.
use Rattle.std.specs.Prelude.{ℕ, List, ◌++◌, codes, decimal}
use Rattle.dk_config.specs.declared.fault.ConfigFault.{ConfigFault}
use Rattle.dk_config.specs.declared.fault.Section.{Section}
use Rattle.dk_config.specs.declared.fault.Section.TheVariants as section
use Rattle.dk_config.specs.declared.fault.Field.{Field}
use Rattle.dk_config.specs.declared.fault.Field.TheVariants as field

-- the key, as it stands in the document
abbrev pub field_word : Field → List ℕ
field_word field.Version = codes "version"
field_word field.Costs = codes "costs"
field_word field.Level = codes "level"
field_word field.Process = codes "process"
field_word field.Mutex = codes "mutex"
field_word field.Switch = codes "switch"
field_word field.Call = codes "call"
field_word field.Period = codes "period"
field_word field.Release = codes "release"
field_word field.Name = codes "name"
field_word field.Program = codes "program"
field_word field.Budget = codes "budget"
field_word field.Memory = codes "memory"
field_word field.Threads = codes "threads"
field_word field.Slack = codes "slack"
field_word field.MaxLevel = codes "max_level"
field_word field.Ceiling = codes "ceiling"
field_word field.Hold = codes "hold"
field_word field.Users = codes "users"
field_word field.Unknown = codes "unknown"

-- the sections with rows name the row
abbrev pub place_text : Section → ℕ → List ℕ
place_text section.Top row = codes "top "
place_text section.Costs row = codes "costs "
place_text section.Level row = codes "level " ++ (decimal row ++ codes " ")
place_text section.Process row = codes "process " ++ (decimal row ++ codes " ")
place_text section.Mutex row = codes "mutex " ++ (decimal row ++ codes " ")

-- the line of a refusal, without its line feed
abbrev pub fault_head : ConfigFault → List ℕ
fault_head f = codes "config: C"
    ++ (decimal f.number ++ (codes " " ++ (place_text f.section f.row ++ field_word f.field)))

-- the line of a refusal
abbrev pub fault_text : ConfigFault → List ℕ
fault_text f = fault_head f ++ codes "\n"

-- the rule and the place alone
abbrev pub fault_name : ConfigFault → List ℕ
fault_name f = codes "C" ++ (decimal f.number ++ (codes " " ++ (place_text f.section f.row ++ field_word f.field)))
