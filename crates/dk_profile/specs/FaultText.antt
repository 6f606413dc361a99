-- What is wrong with a profile, a line each.
use Rattle.std.specs.Prelude.{ℕ, ◌==◌, if◌then◌else◌, List, [], ◌++◌, length, flat_map, slice_get, codes, decimal}
use Rattle.std.specs.Option.{option_map_or}
use Rattle.dk_config.specs.Configuration.{Configuration}
use Rattle.dk_config.specs.Mutex.{Mutex}
use Rattle.dk_profile.specs.declared.steps.Why.{Why}
use Rattle.dk_profile.specs.declared.steps.ProfileFault.{ProfileFault}

abbrev pub mutex_name : Configuration → ℕ → List ℕ
mutex_name c m = option_map_or (λ (row : Mutex). row.name) (slice_get c.mutexes m) []

-- of the whole there is no line
abbrev pub place_text : ℕ → List ℕ
place_text line = if line == 0 then [] else (codes "line " ++ (decimal line ++ codes ": "))

abbrev pub why_text : Configuration → Why → List ℕ
why_text c Why.NoStep = codes "work N, lock NAME, unlock NAME, slack N, put N, wait or job is wanted"
why_text c Why.More = codes "nothing more is wanted"
why_text c Why.NoNumber = codes "a number is wanted"
why_text c (Why.Range low high) = decimal low ++ (codes " to " ++ (decimal high ++ codes " are allowed"))
why_text c Why.NoMutex = codes "there is no such mutex"
why_text c Why.NoUser = codes "the process isn't among its users"
why_text c Why.NoRight = codes "the process has no right to slack"
why_text c (Why.Held m) = mutex_name c m ++ codes " is held"
why_text c Why.NotHeld = codes "it isn't held"
why_text c (Why.Little left hold) =
    decimal left ++ (codes " of the body are left, " ++ (decimal hold ++ codes " are wanted"))
why_text c (Why.Long ticks hold) =
    codes "held for " ++ (decimal ticks ++ (codes ", " ++ (decimal hold ++ codes " are allowed")))
why_text c Why.Midst = codes "the job in front doesn't wait"
why_text c Why.Unended = codes "the last job doesn't wait"
why_text c Why.NoWork = codes "a step of work is wanted"
why_text c (Why.Many n) = decimal n ++ codes " instructions, 16384 are allowed"
why_text c Why.NoColumn = codes "no column has the name of the process"
why_text c (Why.Cells width) = decimal width ++ codes " cells are wanted"
why_text c Why.Ended = codes "a cell above is empty"

abbrev pub fault_text : Configuration → ProfileFault → List ℕ
fault_text c fault = codes "profile: " ++ (place_text fault.line ++ (why_text c fault.why ++ codes "\n"))

-- a line for each, and how many there are
abbrev pub faults_text : Configuration → List ProfileFault → List ℕ
faults_text c faults =
    flat_map (fault_text c) faults ++ (codes "faults " ++ (decimal (length faults) ++ codes "\n"))
