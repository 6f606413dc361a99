-- What one change of a row would make of a chain.
use Rattle.std.specs.Prelude.{ℕ, zero, suc, ◌≡◌, ◌<◌, ◌≤◌, ◌⊎◌, ◌==◌, ◌||◌, if◌then◌else◌, Bool, true, false, List, [], ◌∷◌, ◌++◌, codes, decimal, map, Option, Some, None}
use Rattle.std.specs.List.{list_any, swap}
use Rattle.dk_config.specs.declared.rows.ProcessRow.{ProcessRow}
use Rattle.dk_config.specs.Configuration.{Configuration}
use Rattle.dk_config.specs.Windows.{main_level, process_name}
use Rattle.dk_certify.specs.declared.certifying.Verdict.{Verdict}
use Rattle.dk_certify.specs.declared.certifying.Verdict.TheVariants as verdict
use Rattle.dk_margins.specs.Margins.{Stands}
use Rattle.dk_chain.specs.Age.{IsAge}
use Rattle.dk_chain.specs.Chain.{AreDone, IsReaction}
use Rattle.dk_chain_report.specs.declared.latency.Latency.{Latency}

-- no level can miss its window
abbrev pub is_certified : Verdict → Bool
is_certified (verdict.Accepted rows) = true
is_certified (verdict.Fails level needs window) = false

-- how long the chain takes
pub record IsLatency (c : Configuration) (first : ℕ) (rest : List ℕ) (l : Latency) : Type 0 where
  pub reaction : (done : ℕ → ℕ) → AreDone c done → IsReaction c done (first ∷ rest) l.reaction
  pub age : (done : ℕ → ℕ) → AreDone c done → IsAge c first rest l.reaction l.age

abbrev pub latency_part : Latency → List ℕ
latency_part l = codes "reaction " ++ (decimal l.reaction ++ (codes " age " ++ (decimal l.age ++ codes "\n")))

-- Under this configuration the chain takes so long, and that is less than the reaction time; or there is nothing to gain: a rule
-- is broken or a level may miss its window, or it isn't less.
abbrev pub IsGain : Configuration → ℕ → List ℕ → ℕ → Option Latency → Type 0
IsGain c first rest reaction None =
    (¬ Stands c) ⊎ ((l : Latency) × IsLatency c first rest l × (reaction ≤ l.reaction))
IsGain c first rest reaction (Some l) = Stands c × IsLatency c first rest l × (l.reaction < reaction)

-- the process stands in the chain
abbrev pub is_in : ℕ → List ℕ → ℕ → Bool
is_in first rest p = first == p || list_any (λ q. q == p) rest

-- the last process before this number whose main is of the level
abbrev pub last_before : Configuration → ℕ → ℕ → Option ℕ
last_before c level zero = None
last_before c level (suc q) = if main_level c q == level then Some q else last_before c level q

-- the process before it in its level, where the process stands in the chain
abbrev pub partner : Configuration → ℕ → List ℕ → ℕ → Option ℕ
partner c first rest p = if is_in first rest p then last_before c (main_level c p) p else None

-- the configuration with the rows of two processes in each other's place
abbrev pub swapped : Configuration → ℕ → ℕ → Configuration
swapped c q p = record c { processes = swap c.processes q p }

-- the number that a process has then
abbrev pub moved : ℕ → ℕ → ℕ → ℕ
moved q p r = if r == p then q else if r == q then p else r

abbrev pub earlier_text : List ℕ → List ℕ → Option Latency → List ℕ
earlier_text name other None = []
earlier_text name other (Some l) = codes "with " ++ (name ++ (codes " before " ++ (other ++ (codes " " ++ latency_part l))))

-- what it would gain if the process stood before this other one
abbrev pub IsEarlierThan : Configuration → ℕ → List ℕ → ℕ → ℕ → List ℕ → Option ℕ → Type 0
IsEarlierThan c first rest reaction p line None = line ≡ []
IsEarlierThan c first rest reaction p line (Some q) = (gain : Option Latency)
    × IsGain (swapped c q p) (moved q p first) (map (moved q p) rest) reaction gain
    × (line ≡ earlier_text (process_name c p) (process_name c q) gain)

-- what the chain would gain if the row of the process stood one place earlier in its level
abbrev pub IsEarlierLine : Configuration → ℕ → List ℕ → ℕ → ℕ → List ℕ → Type 0
IsEarlierLine c first rest reaction p line = IsEarlierThan c first rest reaction p line (partner c first rest p)

-- the rows, with this level in the one of this number
abbrev pub rows_with_level : List ProcessRow → ℕ → ℕ → List ProcessRow
rows_with_level [] process level = []
rows_with_level (row ∷ rows) zero level = record row { level = level } ∷ rows
rows_with_level (row ∷ rows) (suc process) level = row ∷ rows_with_level rows process level

-- the configuration with this level for the process, and else as it is
abbrev pub with_level : Configuration → ℕ → ℕ → Configuration
with_level c process level = record c { processes = rows_with_level c.processes process level }

abbrev pub above : ℕ → Option ℕ
above zero = None
above (suc level) = Some level

-- the level above its own, where the process stands in the chain
abbrev pub level_above : Configuration → ℕ → List ℕ → ℕ → Option ℕ
level_above c first rest p = if is_in first rest p then above (main_level c p) else None

abbrev pub faster_text : List ℕ → ℕ → Option Latency → List ℕ
faster_text name level None = []
faster_text name level (Some l) =
    codes "with " ++ (name ++ (codes " level " ++ (decimal level ++ (codes " " ++ latency_part l))))

-- what it would gain if the process were of this level
abbrev pub IsOfLevel : Configuration → ℕ → List ℕ → ℕ → ℕ → List ℕ → Option ℕ → Type 0
IsOfLevel c first rest reaction p line None = line ≡ []
IsOfLevel c first rest reaction p line (Some level) = (gain : Option Latency)
    × IsGain (with_level c p level) first rest reaction gain
    × (line ≡ faster_text (process_name c p) level gain)

-- what the chain would gain if the process were one level faster
abbrev pub IsFasterLine : Configuration → ℕ → List ℕ → ℕ → ℕ → List ℕ → Type 0
IsFasterLine c first rest reaction p line = IsOfLevel c first rest reaction p line (level_above c first rest p)
