-- What is told of what the certification test finds, part by part.
use Rattle.std.specs.Prelude.{ℕ, ◌≡◌, ◌==◌, ◌&&◌, ◌||◌, Bool, nat_lt, if◌then◌else◌, List, [], ◌∷◌, ◌++◌, length, find, codes, decimal, Option, Some, None}
use Rattle.std.specs.Option.{option_map_or}
use Rattle.dk_config.specs.Configuration.{Configuration}
use Rattle.dk_config.specs.Mutex.{Mutex}
use Rattle.dk_config.specs.declared.rows.ProcessRow.{ProcessRow}
use Rattle.dk_config.specs.Windows.{period, process_name}
use Rattle.dk_config.specs.Certification.{can_block, level_blocking, level_demand, uses}
use Rattle.dk_certify.specs.declared.certifying.Verdict.{Verdict}
use Rattle.dk_certify.specs.declared.certifying.Verdict.TheVariants as verdict
use Rattle.dk_certify.specs.Verdicts.{verdict_of}
use Rattle.show_rows.specs.declared.row.Form.{Form}
use Rattle.show_rows.specs.Lines.{AreLines}
use Rattle.show_rows.specs.Rows.{head_told, number_field, told}
use Rattle.show_layout.specs.declared.levels.TheConstants.{CERTIFIED, COLUMNS, FAILING, LEVEL, LONG, MUTEX, PROCESS, RELEASE}
use Rattle.show_layout.specs.declared.takes.Part.{Part}
use Rattle.show_layout.specs.Takes.{is_over, takes}

-- what the level can need and wait for in a window, and what is left of that or by how much it is too short
abbrev pub sums_row : Configuration → ℕ → List (List ℕ)
sums_row c j = codes "level" ∷ [] ∷ [] ∷ decimal j ∷ [] ∷ [] ∷ decimal (period c j) ∷ decimal (level_demand c j)
    ∷ decimal (level_blocking c j) ∷ number_field (takes c Part.Spare j) ∷ number_field (takes c Part.Over j) ∷ []

abbrev pub sums_told : Form → Configuration → ℕ → List ℕ
sums_told form c j = told form COLUMNS.now (if is_over c j then LONG.now else LEVEL.now) (sums_row c j)

-- what takes so many ticks of a window of the level
abbrev pub ticks_row : List ℕ → List ℕ → List ℕ → ℕ → Option ℕ → ℕ → List (List ℕ)
ticks_row kind name user j release ticks = kind ∷ name ∷ user ∷ decimal j ∷ number_field release ∷ decimal ticks
    ∷ [] ∷ [] ∷ [] ∷ [] ∷ [] ∷ []

-- the kernel's own work of level i, where it takes ticks of a window of level j
abbrev pub release_told : Form → Configuration → ℕ → ℕ → List ℕ
release_told form c j i =
    option_map_or (λ ticks. told form COLUMNS.now RELEASE.now (ticks_row (codes "release") [] [] j (Some i) ticks))
    (takes c (Part.Release i) j) []

abbrev pub IsReleaseLine : Form → Configuration → ℕ → ℕ → List ℕ → Type 0
IsReleaseLine form c j i line = line ≡ release_told form c j i

-- the budget of the process, where it takes ticks of a window of the level
abbrev pub process_told : Form → Configuration → ℕ → ℕ → List ℕ
process_told form c j p =
    option_map_or (λ ticks. told form COLUMNS.now PROCESS.now (ticks_row (codes "process") (process_name c p) [] j None ticks))
    (takes c (Part.Process p) j) []

abbrev pub IsProcessLine : Form → Configuration → ℕ → ℕ → List ℕ → Type 0
IsProcessLine form c j p line = line ≡ process_told form c j p

-- whether the process uses the mutex and can have a thread slower than the level
abbrev pub is_slower_user : ℕ → Mutex → ProcessRow → Bool
is_slower_user j mutex row = uses mutex row && (nat_lt j row.level || (nat_lt 0 row.threads && nat_lt j row.max_level))

-- whether it is the mutex that keeps the level waiting longest
abbrev pub is_longest : Configuration → ℕ → Mutex → Bool
is_longest c j mutex = can_block c j mutex && mutex.hold == level_blocking c j

abbrev pub user_name : Configuration → ℕ → Mutex → List ℕ
user_name c j mutex = option_map_or (λ row. row.name) (find (is_slower_user j mutex) c.processes) []

abbrev pub mutex_told : Form → Configuration → ℕ → Mutex → List ℕ
mutex_told form c j mutex = told form COLUMNS.now MUTEX.now
    (ticks_row (codes "mutex") mutex.name (user_name c j mutex) j None mutex.hold)

-- the first such mutex and its first such user
abbrev pub blocking_told : Form → Configuration → ℕ → List ℕ
blocking_told form c j = option_map_or (mutex_told form c j) (find (is_longest c j) c.mutexes) []

-- a level with all its parts
pub record IsLevel (form : Form) (c : Configuration) (j : ℕ) (text : List ℕ) : Type 0 where
  pub releases : List ℕ
  pub processes : List ℕ
  pub release_lines : AreLines (IsReleaseLine form c j) (length c.levels) releases
  pub process_lines : AreLines (IsProcessLine form c j) (length c.processes) processes
  pub whole : text ≡ sums_told form c j ++ (releases ++ (processes ++ blocking_told form c j))

-- the first level that may miss its window
abbrev pub overload_told : Form → ℕ → ℕ → ℕ → List ℕ
overload_told form j needs window = told form COLUMNS.now FAILING.now (codes "failing" ∷ [] ∷ [] ∷ decimal j ∷ []
    ∷ decimal needs ∷ decimal window ∷ [] ∷ [] ∷ [] ∷ [] ∷ [])

abbrev pub verdict_told : Form → Verdict → List ℕ
verdict_told form (verdict.Accepted rows) =
    told form COLUMNS.now CERTIFIED.now (codes "certified" ∷ [] ∷ [] ∷ [] ∷ [] ∷ [] ∷ [] ∷ [] ∷ [] ∷ [] ∷ [] ∷ [])
verdict_told form (verdict.Fails level needs window) = overload_told form level needs window

-- the whole
pub record IsCertificate (form : Form) (c : Configuration) (text : List ℕ) : Type 0 where
  pub levels : List ℕ
  pub level_lines : AreLines (IsLevel form c) (length c.levels) levels
  pub whole : text ≡ head_told form COLUMNS.now ++ (levels ++ verdict_told form (verdict_of c))
