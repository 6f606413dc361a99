-- Which files are sources of the assembler, and what is told of one.
use Rattle.std.specs.Prelude.{ℕ, ◌≡◌, ◌==◌, ◌&&◌, ◌-◌, nat_le, Bool, true, false, List, length, slice_index, if◌then◌else◌}
use Rattle.dk_config.specs.declared.TheConstants.{MAX_CONFIG_BYTES}
use Rattle.dk_asm.specs.Causes.{causes_of}
use Rattle.dk_asm.specs.declared.TheConstants.{MAX_SOURCE_BYTES}
use Rattle.dk_source_report.specs.Report.{faulty, source_text}
use Rattle.dk_show.specs.declared.status.Status.{Status}
use Rattle.dk_show.specs.declared.status.Status.TheVariants as status

-- a name that ends with `.s`
abbrev pub is_source_name : List ℕ → Bool
is_source_name name =
    nat_le 2 (length name) && (slice_index name (length name - 2) == 46 && slice_index name (length name - 1) == 115)

-- how many bytes a file may have of which all that is wrong is told
abbrev pub most_of : List ℕ → ℕ
most_of name = if is_source_name name then MAX_SOURCE_BYTES else MAX_CONFIG_BYTES

-- where a line is at fault, the call ends as refused
abbrev pub source_end : Bool → Status
source_end true = status.Done
source_end false = status.Refused

-- all that is wrong with the source
abbrev pub IsOfSource : List ℕ → List ℕ → Status → Type 0
IsOfSource bytes text ended = (text ≡ source_text bytes) × (ended ≡ source_end (faulty (causes_of bytes) == 0))
