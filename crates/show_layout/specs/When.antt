-- What is told of when each main has its ticks.
use Rattle.std.specs.Prelude.{ℕ, ◌≡◌, ◌≤◌, ◌-◌, Bool, true, false, ◌&&◌, nat_lt, nat_le, List, [], ◌∷◌, ◌++◌, length, codes, decimal}
use Rattle.std.specs.List.{list_any}
use Rattle.dk_config.specs.Configuration.{Configuration}
use Rattle.dk_config.specs.Windows.{budget, main_level, period, process_name}
use Rattle.dk_config.specs.Ahead.{IsEnough, IsEnoughForAll}
use Rattle.dk_when.specs.Earliest.{MayHave}
use Rattle.show_rows.specs.declared.row.Form.{Form}
use Rattle.show_rows.specs.Lines.{AreLines}
use Rattle.show_rows.specs.Rows.{end_told, head_told, told}
use Rattle.show_layout.specs.declared.timings.TheConstants.{COLUMNS, LEVEL, PROCESS}

-- the fact holds of the number, and of none that is less
pub record IsLeast (P : ℕ → Type 0) (n : ℕ) : Type 0 where
  pub reached : P n
  pub least : (m : ℕ) → P m → n ≤ m

-- the first tick and the whole budget: each from when, by when, and by how much that may vary
abbrev pub process_row : Configuration → ℕ → ℕ → ℕ → ℕ → ℕ → List (List ℕ)
process_row c p begins_from begins_by done_from done_by =
    let window = period c (main_level c p) in
    codes "process" ∷ process_name c p ∷ decimal (main_level c p) ∷ decimal window ∷ decimal (budget c p)
    ∷ decimal begins_from ∷ decimal begins_by ∷ decimal done_from ∷ decimal done_by
    ∷ decimal (begins_by - begins_from) ∷ decimal (done_by - done_from) ∷ decimal (window - done_by) ∷ []

-- Once `from` ticks of its window are over the main may have had k ticks, and not sooner. Once `by` are over it has had them, and no
-- smaller number is enough.
pub record IsBetween (c : Configuration) (p k from by : ℕ) : Type 0 where
  pub soonest : IsLeast (MayHave c p k) from
  pub latest : IsLeast (IsEnough c p k) by
  pub ordered : from ≤ by

-- when the main has had one tick, and when its whole budget
pub record IsProcessLine (form : Form) (c : Configuration) (p : ℕ) (line : List ℕ) : Type 0 where
  pub begins_from : ℕ
  pub begins_by : ℕ
  pub done_from : ℕ
  pub done_by : ℕ
  pub first : IsBetween c p 1 begins_from begins_by
  pub whole : IsBetween c p (budget c p) done_from done_by
  pub is : line ≡ told form COLUMNS.now PROCESS.now (process_row c p begins_from begins_by done_from done_by)

-- whether the level may have children
abbrev pub may_have_children : Configuration → ℕ → Bool
may_have_children c j =
    list_any (λ row. nat_lt 0 row.threads && (nat_le row.level j && nat_le j row.max_level)) c.processes

abbrev pub level_row : ℕ → ℕ → List (List ℕ)
level_row j done =
    codes "level" ∷ [] ∷ decimal j ∷ [] ∷ [] ∷ [] ∷ [] ∷ [] ∷ decimal done ∷ [] ∷ [] ∷ [] ∷ []

-- after how many ticks of its window all threads of a level that may have children are through, and nothing of others
pub record IsLevelLine (form : Form) (c : Configuration) (j : ℕ) (line : List ℕ) : Type 0 where
  pub told : may_have_children c j ≡ true
      → (done : ℕ) × IsLeast (IsEnoughForAll c j) done × (line ≡ told form COLUMNS.now LEVEL.now (level_row j done))
  pub untold : may_have_children c j ≡ false → line ≡ []

-- the whole
pub record IsWhen (form : Form) (c : Configuration) (text : List ℕ) : Type 0 where
  pub processes : List ℕ
  pub levels : List ℕ
  pub process_lines : AreLines (IsProcessLine form c) (length c.processes) processes
  pub level_lines : AreLines (IsLevelLine form c) (length c.levels) levels
  pub whole : text ≡ head_told form COLUMNS.now ++ (processes ++ (levels ++ end_told form))
