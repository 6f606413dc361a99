-- What is told of the slack that a configuration promises.
use Rattle.std.specs.Prelude.{ℕ, zero, suc, ◌≡◌, ◌+◌, ◌-◌, ◌≤◌, ◌==◌, ◌&&◌, not, nat_le, Bool, true, false, MatchBool, if◌then◌else◌, List, [], ◌∷◌, ◌++◌, length, codes, decimal}
use Rattle.dk_config.specs.Configuration.{Configuration}
use Rattle.dk_config.specs.Windows.{budget, main_level, may_ask, period, process_name}
use Rattle.dk_config.specs.Certification.{spare}
use Rattle.dk_slack_promise.specs.Long.{NoneBefore, slowest}
use Rattle.dk_allotment.specs.Alone.{IsFirstPassed, IsOwnSlack, alone}
use Rattle.dk_allotment.specs.Soon.{IsEnoughSlack}
use Rattle.show_rows.specs.declared.row.Form.{Form}
use Rattle.show_rows.specs.Lines.{AreLines}
use Rattle.show_rows.specs.Rows.{end_told, head_told, told}
use Rattle.show_slack.specs.declared.shares.Share.{Share}
use Rattle.show_slack.specs.declared.shares.TheConstants.{BEHIND, COLUMNS, FIRST, LEVEL}

-- process q has the right to slack, and may come before p with its wishes: it is of p's level or a faster one
abbrev pub stands_before : Configuration → ℕ → ℕ → Bool
stands_before c p q = (may_ask c q && nat_le (main_level c q) (main_level c p)) && not (q == p)

-- names parted by spaces, with one more
abbrev pub joined : List ℕ → List ℕ → List ℕ
joined names name = if length names == 0 then name else (names ++ (codes " " ++ name))

abbrev pub names_with : Configuration → ℕ → ℕ → List ℕ → List ℕ
names_with c p q names = if stands_before c p q then joined names (process_name c q) else names

-- the names of those of the first n processes who stand before p, parted by spaces
abbrev pub names_before : Configuration → ℕ → ℕ → List ℕ
names_before c p zero = []
names_before c p (suc n) = names_with c p n (names_before c p n)

-- the fact holds of the number, and of none that is less
pub record IsLeast (P : ℕ → Type 0) (n : ℕ) : Type 0 where
  pub reached : P n
  pub least : (m : ℕ) → P m → n ≤ m

abbrev pub level_row : Configuration → ℕ → List (List ℕ)
level_row c j = codes "level" ∷ [] ∷ decimal j ∷ decimal (period c j) ∷ [] ∷ decimal (spare c j) ∷ [] ∷ [] ∷ [] ∷ [] ∷ [] ∷ [] ∷ []

-- what of each window of the level nobody can claim
abbrev pub IsLevelLine : Form → Configuration → ℕ → List ℕ → Type 0
IsLevelLine form c j line = line ≡ told form COLUMNS.now LEVEL.now (level_row c j)

-- the sentence of a process tells what it has of each longest window, where nobody stands before it, and else who does
abbrev pub sentence : Bool → List ℕ
sentence first = if first then FIRST.now else BEHIND.now

abbrev pub longest_field : Configuration → Bool → List ℕ
longest_field c first = if first then decimal (spare c (slowest c)) else []

-- The greatest number of ticks that the process alone can be allotted in each of its windows, the first level that doesn't
-- hold one more, the least number of ticks of the window that are enough for them, and whether nobody stands before it.
pub record IsShare (c : Configuration) (p : ℕ) (share : Share) : Type 0 where
  pub own : IsOwnSlack c p share.most
  pub limited : IsFirstPassed c (alone p (share.most + 1)) share.limit
  pub had : IsLeast (IsEnoughSlack c (alone p share.most) (main_level c p)) share.by
  pub is_first : MatchBool share.first (NoneBefore c p) (NoneBefore c p → ⊥)

abbrev pub share_row : Configuration → ℕ → Share → List (List ℕ)
share_row c p share =
    codes "process" ∷ process_name c p ∷ decimal (main_level c p) ∷ decimal (period c (main_level c p)) ∷ decimal (budget c p)
    ∷ [] ∷ decimal share.most ∷ decimal share.limit ∷ decimal share.by ∷ decimal (period c (slowest c))
    ∷ longest_field c share.first ∷ names_before c p (length c.processes) ∷ []

-- what a process is promised
pub record IsShareLine (form : Form) (c : Configuration) (p : ℕ) (line : List ℕ) : Type 0 where
  pub share : Share
  pub found : IsShare c p share
  pub is : line ≡ told form COLUMNS.now (sentence share.first) (share_row c p share)

-- of a process that has the right to slack, and nothing of others
pub record IsProcessLine (form : Form) (c : Configuration) (p : ℕ) (line : List ℕ) : Type 0 where
  pub told : may_ask c p ≡ true → IsShareLine form c p line
  pub untold : may_ask c p ≡ false → line ≡ []

-- the whole
pub record IsSlack (form : Form) (c : Configuration) (text : List ℕ) : Type 0 where
  pub levels : List ℕ
  pub processes : List ℕ
  pub level_lines : AreLines (IsLevelLine form c) (length c.levels) levels
  pub process_lines : AreLines (IsProcessLine form c) (length c.processes) processes
  pub whole : text ≡ head_told form COLUMNS.now ++ (levels ++ (processes ++ end_told form))
