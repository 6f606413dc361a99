-- What stands at the place of a fault, and what is allowed there.
use Rattle.std.specs.Prelude.{ℕ, ◌≡◌, ◌+◌, ◌-◌, ◌*◌, ◌%◌, ◌==◌, ◌&&◌, nat_lt, nat_le, Bool, true, false, if◌then◌else◌, List, [], ◌++◌, length, codes, decimal, slice_get, Option, Some, None, option_map}
use Rattle.std.specs.List.{AllByRecursion}
use Rattle.std.specs.Option.{option_map_or}
use Rattle.dk_config.specs.Configuration.{Configuration}
use Rattle.dk_config.specs.declared.fault.ConfigFault.{ConfigFault}
use Rattle.dk_config.specs.declared.fault.Section.{Section}
use Rattle.dk_config.specs.declared.fault.Section.TheVariants as section
use Rattle.dk_config.specs.declared.fault.Field.{Field}
use Rattle.dk_config.specs.declared.fault.Field.TheVariants as field
use Rattle.dk_config.specs.declared.TheConstants.{MAX_LEVELS, MAX_LEVELS_1, MAX_PROCESSES, MAX_MUTEXES, MAX_CHILDREN, MAX_SPAN, MAX_COST, MAX_MEMORY}
use Rattle.dk_config.specs.Rules.{is_name, all_tests}
use Rattle.dk_config.specs.Tests.{Test}
use Rattle.dk_config.specs.Windows.{ceiling, main_level, period}
use Rattle.dk_config_report.specs.declared.allowed.Allowed.{Allowed}
use Rattle.dk_config_report.specs.declared.allowed.Allowed.TheVariants as allowed

-- the number that a key of the top stands for
abbrev pub top_value : Configuration → Field → Option ℕ
top_value c field.Version = Some c.version
top_value c field.Level = Some (length c.levels)
top_value c field.Process = Some (length c.processes)
top_value c field.Mutex = Some (length c.mutexes)
top_value c _ = None

abbrev pub costs_value : Configuration → Field → Option ℕ
costs_value c field.Switch = Some c.costs.switch
costs_value c field.Call = Some c.costs.call
costs_value c _ = None

abbrev pub level_value : Configuration → ℕ → Field → Option ℕ
level_value c i field.Period = option_map (λ row. row.period) (slice_get c.levels i)
level_value c i field.Release = option_map (λ row. row.release) (slice_get c.levels i)
level_value c i _ = None

abbrev pub process_value : Configuration → ℕ → Field → Option ℕ
process_value c i field.Level = option_map (λ row. row.level) (slice_get c.processes i)
process_value c i field.Budget = option_map (λ row. row.budget) (slice_get c.processes i)
process_value c i field.Memory = option_map (λ row. row.memory) (slice_get c.processes i)
process_value c i field.Threads = option_map (λ row. row.threads) (slice_get c.processes i)
process_value c i field.MaxLevel = option_map (λ row. row.max_level) (slice_get c.processes i)
process_value c i _ = None

abbrev pub mutex_value : Configuration → ℕ → Field → Option ℕ
mutex_value c i field.Ceiling = option_map (λ row. row.ceiling) (slice_get c.mutexes i)
mutex_value c i field.Hold = option_map (λ row. row.hold) (slice_get c.mutexes i)
mutex_value c i _ = None

-- the number at the place of a fault, where it is one
abbrev pub value_at : Configuration → Section → ℕ → Field → Option ℕ
value_at c section.Top i f = top_value c f
value_at c section.Costs i f = costs_value c f
value_at c section.Level i f = level_value c i f
value_at c section.Process i f = process_value c i f
value_at c section.Mutex i f = mutex_value c i f

-- the name of the row, where it has one that is a name
abbrev pub row_name : Configuration → Section → ℕ → List ℕ
row_name c section.Process i = option_map_or (λ row. row.name) (slice_get c.processes i) []
row_name c section.Mutex i = option_map_or (λ row. row.name) (slice_get c.mutexes i) []
row_name c _ i = []

abbrev pub who : Configuration → Section → ℕ → List ℕ
who c s i = if is_name (row_name c s i) then row_name c s i else codes "it"

-- C6: the ranges
abbrev pub range_of : Field → Allowed
range_of field.Switch = allowed.Range 0 MAX_COST
range_of field.Call = allowed.Range 1 MAX_COST
range_of field.Release = allowed.Range 0 MAX_SPAN
range_of field.Memory = allowed.Range 0 MAX_MEMORY
range_of field.Threads = allowed.Range 0 MAX_CHILDREN
range_of _ = allowed.Range 1 MAX_SPAN

-- C5: how many rows
abbrev pub rows_of : ℕ → Field → Allowed
rows_of version field.Level = allowed.Range 1 (if version == 2 then MAX_LEVELS else MAX_LEVELS_1)
rows_of version field.Process = allowed.Range 1 MAX_PROCESSES
rows_of version _ = allowed.Range 0 MAX_MUTEXES

-- C13: in version 1 the last level alone; a process of a level that isn't there has none
abbrev pub slowest_of : Configuration → ℕ → Allowed
slowest_of c p =
    if c.version == 1 && nat_lt (main_level c p) (length c.levels) then allowed.Last (length c.levels)
    else allowed.Levels (main_level c p) (length c.levels)

-- C10 to C13
abbrev pub allowed_from_levels : Configuration → ConfigFault → Allowed
allowed_from_levels c f =
    if f.number == 10 then allowed.Below (length c.levels)
    else if f.number == 11 then allowed.AtLeast (2 * c.costs.switch + 1)
    else if f.number == 12 then allowed.Users (ceiling c f.row)
    else slowest_of c f.row

-- C7 to C9
abbrev pub allowed_from_periods : Configuration → ConfigFault → Allowed
allowed_from_periods c f =
    if f.number == 7 then allowed.Multiples (period c (f.row - 1))
    else if f.number == 8 then allowed.Spelling
    else if f.number == 9 then allowed.OwnName
    else allowed_from_levels c f

-- what is allowed at the place of a fault of C4 to C13
abbrev pub allowed_at : Configuration → ConfigFault → Allowed
allowed_at c f =
    if f.number == 4 then allowed.Range 1 2
    else if f.number == 5 then rows_of c.version f.field
    else if f.number == 6 then range_of f.field
    else allowed_from_periods c f

-- the number is one of those that are allowed; where no number is told, each is
abbrev pub allows : Allowed → ℕ → Bool
allows (allowed.Range low high) n = nat_le low n && nat_le n high
allows (allowed.Multiples period) n = n % period == 0 && nat_le (2 * period) n
allows (allowed.Below levels) n = nat_lt n levels
allows (allowed.AtLeast least) n = nat_le least n
allows (allowed.Levels low levels) n = nat_le low n && nat_lt n levels
allows (allowed.Last levels) n = n + 1 == levels
allows _ n = true

-- where the test fails, the number at its place isn't one of those that are allowed; so with one of those it passes
abbrev pub IsRightOf : Configuration → Test → Type 0
IsRightOf c t = t.1 ≡ true
    → (n : ℕ) → value_at c t.0.section t.0.row t.0.field ≡ Some n → allows (allowed_at c t.0) n ≡ false

-- of each test of C4 to C13
abbrev pub TellsBounds : Configuration → Type 0
TellsBounds c = AllByRecursion (IsRightOf c) (all_tests c)

abbrev pub allowed_text : Allowed → List ℕ
allowed_text (allowed.Range low high) = decimal low ++ (codes " to " ++ (decimal high ++ codes " are allowed"))
allowed_text (allowed.Multiples period) = codes "multiples of "
    ++ (decimal period ++ (codes " from " ++ (decimal (2 * period) ++ codes " on are allowed")))
allowed_text allowed.Spelling =
    codes "a name is 1 to 16 of a to z, 0 to 9 and _ from a letter on, a file 1 to 64 letters, digits and . _ - /"
allowed_text allowed.OwnName = codes "no two rows of a section have one name"
allowed_text (allowed.Below levels) = codes "numbers below " ++ (decimal levels ++ codes " are allowed")
allowed_text (allowed.AtLeast least) = decimal least ++ codes " or more are allowed"
allowed_text (allowed.Users level) =
    codes "one or more processes of level " ++ (decimal level ++ codes " or slower are allowed, each once")
allowed_text (allowed.Levels low levels) = codes "from "
    ++ (decimal low ++ (codes " on numbers below " ++ (decimal levels ++ codes " are allowed")))
allowed_text (allowed.Last levels) = codes "in version 1 the last level alone is allowed"

abbrev pub value_text : Option ℕ → List ℕ
value_text (Some value) = codes " has " ++ (decimal value ++ codes ", ")
value_text None = codes ": "
