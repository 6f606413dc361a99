-- Of which numbers what is allowed is made, and the first fault that names one of them.
use Rattle.std.specs.Prelude.{ℕ, ◌≡◌, ◌-◌, ◌==◌, ◌&&◌, ◌||◌, Bool, true, false, if◌then◌else◌, List, [], ◌++◌, find, codes, Option, Some, None}
use Rattle.dk_config.specs.Configuration.{Configuration}
use Rattle.dk_config.specs.declared.fault.ConfigFault.{ConfigFault}
use Rattle.dk_config.specs.declared.fault.Section.{Section}
use Rattle.dk_config.specs.declared.fault.Section.TheVariants as section
use Rattle.dk_config.specs.declared.fault.Field.{Field}
use Rattle.dk_config.specs.declared.fault.Field.TheVariants as field
use Rattle.dk_fault_words.specs.FaultWords.{fault_name}
use Rattle.dk_config_report.specs.Allowed.{allowed_at, value_at}

-- the number at a place, which a row of a section has where it has rows
abbrev pub is_version : Section → Field → Bool
is_version section.Top field.Version = true
is_version _ _ = false

abbrev pub is_levels : Section → Field → Bool
is_levels section.Top field.Level = true
is_levels _ _ = false

abbrev pub is_level_key : Field → Bool
is_level_key field.Level = true
is_level_key _ = false

abbrev pub is_switch : Section → Field → Bool
is_switch section.Costs field.Switch = true
is_switch _ _ = false

abbrev pub is_period : Section → Field → Bool
is_period section.Level field.Period = true
is_period _ _ = false

abbrev pub is_level : Section → Field → Bool
is_level section.Process field.Level = true
is_level _ _ = false

abbrev pub is_ceiling : Section → Field → Bool
is_ceiling section.Mutex field.Ceiling = true
is_ceiling _ _ = false

-- C13: the version, the number of levels and the level of the process
abbrev pub bounds_slowest : ConfigFault → ConfigFault → Bool
bounds_slowest f g =
    (is_version g.section g.field || is_levels g.section g.field) || (is_level g.section g.field && g.row == f.row)

-- what is allowed at the place of f is made of the number at the place of g
abbrev pub bounds : ConfigFault → ConfigFault → Bool
bounds f g =
    if f.number == 4 then false
    else if f.number == 5 then is_level_key f.field && is_version g.section g.field
    else if f.number == 6 then false
    else if f.number == 7 then is_period g.section g.field && g.row == f.row - 1
    else if f.number == 8 then false
    else if f.number == 9 then false
    else if f.number == 10 then is_levels g.section g.field
    else if f.number == 11 then is_switch g.section g.field
    else if f.number == 12 then is_ceiling g.section g.field && g.row == f.row
    else bounds_slowest f g

-- two configurations have the same numbers at the places of which what is allowed at the place of f is made
abbrev pub HaveSameBounds : Configuration → Configuration → ConfigFault → Type 0
HaveSameBounds c d f =
    (g : ConfigFault) → bounds f g ≡ true → value_at c g.section g.row g.field ≡ value_at d g.section g.row g.field

-- What is allowed at a place is made of no other number: while these stay, it stays.
abbrev pub StaysAllowed : Configuration → ConfigFault → Type 0
StaysAllowed c f = (d : Configuration) → HaveSameBounds c d f → allowed_at c f ≡ allowed_at d f

-- the first fault at whose place a number stands of which what is allowed at the place of f is made
abbrev pub follows_from : List ConfigFault → ConfigFault → Option ConfigFault
follows_from found f = find (bounds f) found

abbrev pub mark_text : Option ConfigFault → List ℕ
mark_text None = []
mark_text (Some g) = codes " (follows from " ++ (fault_name g ++ codes ")")
