-- What is told of how far each number can go.
use Rattle.std.specs.Prelude.{ℕ, ◌≡◌, ◌-◌, ◌*◌, List, [], ◌∷◌, ◌++◌, codes, decimal, length, slice_get, option_and_then, Option, Some, None, IfNone, IfSome}
use Rattle.std.specs.Option.{option_map_or}
use Rattle.dk_config.specs.Configuration.{Configuration}
use Rattle.dk_config.specs.Windows.{budget, longest_hold, process_name, release}
use Rattle.dk_plan.specs.Budget.{with_budget}
use Rattle.dk_margins.specs.Margins.{IsGreatest, Stands, limit_of, switch_limit_of, with_hold, with_release, with_switch}
use Rattle.dk_growth.specs.Growth.{IsGrowth, LimitsGrowth}
use Rattle.show_rows.specs.declared.row.Form.{Form}
use Rattle.show_rows.specs.Lines.{AreLines}
use Rattle.show_rows.specs.Rows.{end_told, head_told, note_told, number_field, told}
use Rattle.show_layout.specs.declared.reaches.Reach.{Reach}
use Rattle.show_layout.specs.declared.numbers.TheConstants.{BUDGET, COLUMNS, GROWTH, HOLD, LIMITED, NONE, RANGE, RELEASE, SWITCH}

-- the greatest number with which the configuration breaks none of the rules C4 to C13 and is accepted, and the first
-- level that fails with one more
pub record IsReach (changed : ℕ → Configuration) (r : Reach) : Type 0 where
  pub greatest : IsGreatest (λ n. Stands (changed n)) r.most
  pub limit : r.limit ≡ option_and_then (limit_of changed) r.most

-- the same of the cost of a switch, and the first process whose budget has no room for one more
pub record IsSwitchReach (c : Configuration) (r : Reach) : Type 0 where
  pub greatest : IsGreatest (λ n. Stands (with_switch c n)) r.most
  pub limit : r.limit ≡ option_and_then (switch_limit_of c) r.most

-- the greatest percentage by which all budgets can grow at once, and what stands in the way of one more
pub record IsGrowthReach (c : Configuration) (r : Reach) : Type 0 where
  pub greatest : IsGrowth c r.most
  pub limit : IfSome r.most (λ most. LimitsGrowth c most r.limit)
  pub none : IfNone r.most (r.limit ≡ None)

-- how a line ends
abbrev pub end_of : Option ℕ → Option ℕ → List ℕ
end_of None limit = NONE.now
end_of (Some most) None = RANGE.now
end_of (Some most) (Some by) = LIMITED.now

-- what stands in the way of one more: a row of this kind, or the range; nothing where there is no such number
abbrev pub limit_word : Option ℕ → Option ℕ → List ℕ → List ℕ
limit_word None limit kind = []
limit_word (Some most) None kind = codes "range"
limit_word (Some most) (Some by) kind = kind

-- a row, whose line begins so
abbrev pub reach_told : Form → List ℕ → Reach → List (List ℕ) → List ℕ
reach_told form start r row = note_told form COLUMNS.now start row ++ told form COLUMNS.now (end_of r.most r.limit) row

-- a number of ticks that a level limits
abbrev pub ticks_row : List ℕ → List ℕ → Option ℕ → ℕ → Option ℕ → Reach → List (List ℕ)
ticks_row kind name level ticks body r = kind ∷ name ∷ limit_word r.most r.limit (codes "level") ∷ [] ∷ number_field level
    ∷ decimal ticks ∷ number_field body ∷ number_field r.most ∷ [] ∷ number_field r.limit ∷ []

-- the budget, what both switches leave of it, and how far it can go
pub record IsBudgetLine (form : Form) (c : Configuration) (p : ℕ) (line : List ℕ) : Type 0 where
  pub reach : Reach
  pub is : IsReach (with_budget c p) reach
  pub whole : line ≡ reach_told form BUDGET.now reach
      (ticks_row (codes "budget") (process_name c p) None (budget c p) (Some (budget c p - 2 * c.costs.switch)) reach)

abbrev pub mutex_name : Configuration → ℕ → List ℕ
mutex_name c m = option_map_or (λ row. row.name) (slice_get c.mutexes m) []

pub record IsHoldLine (form : Form) (c : Configuration) (m : ℕ) (line : List ℕ) : Type 0 where
  pub reach : Reach
  pub is : IsReach (with_hold c m) reach
  pub whole : line
      ≡ reach_told form HOLD.now reach (ticks_row (codes "hold") (mutex_name c m) None (longest_hold c m) None reach)

pub record IsReleaseLine (form : Form) (c : Configuration) (j : ℕ) (line : List ℕ) : Type 0 where
  pub reach : Reach
  pub is : IsReach (with_release c j) reach
  pub whole : line
      ≡ reach_told form RELEASE.now reach (ticks_row (codes "release") [] (Some j) (release c j) None reach)

-- the process that stands in the way
abbrev pub process_by : Configuration → Option ℕ → List ℕ
process_by c None = []
process_by c (Some p) = process_name c p

abbrev pub switch_row : Configuration → Reach → List (List ℕ)
switch_row c r = codes "switch" ∷ [] ∷ limit_word r.most r.limit (codes "process") ∷ process_by c r.limit ∷ []
    ∷ decimal c.costs.switch ∷ [] ∷ number_field r.most ∷ [] ∷ [] ∷ []

pub record IsSwitchLine (form : Form) (c : Configuration) (line : List ℕ) : Type 0 where
  pub reach : Reach
  pub is : IsSwitchReach c reach
  pub whole : line ≡ reach_told form SWITCH.now reach (switch_row c reach)

abbrev pub growth_row : Reach → List (List ℕ)
growth_row r = codes "growth" ∷ [] ∷ limit_word r.most r.limit (codes "level") ∷ [] ∷ [] ∷ [] ∷ [] ∷ []
    ∷ number_field r.most ∷ number_field r.limit ∷ []

pub record IsGrowthLine (form : Form) (c : Configuration) (line : List ℕ) : Type 0 where
  pub reach : Reach
  pub is : IsGrowthReach c reach
  pub whole : line ≡ reach_told form GROWTH.now reach (growth_row reach)

-- the whole
pub record AreMargins (form : Form) (c : Configuration) (text : List ℕ) : Type 0 where
  pub budgets : List ℕ
  pub holds : List ℕ
  pub releases : List ℕ
  pub switch : List ℕ
  pub growth : List ℕ
  pub budget_lines : AreLines (IsBudgetLine form c) (length c.processes) budgets
  pub hold_lines : AreLines (IsHoldLine form c) (length c.mutexes) holds
  pub release_lines : AreLines (IsReleaseLine form c) (length c.levels) releases
  pub switch_line : IsSwitchLine form c switch
  pub growth_line : IsGrowthLine form c growth
  pub whole : text
      ≡ head_told form COLUMNS.now ++ (budgets ++ (holds ++ (releases ++ (switch ++ (growth ++ end_told form)))))
