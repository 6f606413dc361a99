-- What the demand cells say of a level.
use Rattle.dk_inspect.proofs.Names.{◌≡◌, ◌<◌, ◌-◌, ◌∙◌, ℕ, List, length, ap, slice_index, Configuration, window_end, at_index, Entry, own_demand, remaining_demand, blocking, Clock, clock_at, end_at, Cells, IsRecount, each_level, ended, level_body}
use Rattle.dk_inspect.specs.View.{level_line}

-- the numbers that were asked of the cells
pub record AreAsked (demand : Cells) (j r needed blocks rest : ℕ) : Type 0 where
  pub windows : Clock
  pub end : ℕ
  pub tick : ℕ
  pub own : r ≡ slice_index demand.own j
  pub remaining : needed ≡ slice_index demand.remaining j
  pub blocking : blocks ≡ slice_index demand.blocking j
  pub clock : windows ≡ demand.windows
  pub ends : end ≡ end_at windows j
  pub now : tick ≡ windows.tick
  pub left : rest ≡ end - tick

pub level-told : (c : Configuration) (past : List Entry) (demand : Cells) (j own remaining blocks left : ℕ) (text : List ℕ)
    → ((tick level : ℕ) → end_at (clock_at c tick) level ≡ window_end c level tick) → demand.windows.tick ≡ length past → IsRecount c past demand → j < length c.levels
    → AreAsked demand j own remaining blocks left → text ≡ level_body j own remaining blocks left → ended text ≡ level_line c (length past) past j
unfolding level_line
level-told c past demand j own remaining blocks left text ends tick cells known asked is =
    let n = length past in
    let own_is : own ≡ own_demand c n past j =
    asked.own ∙ ap (λ ns. slice_index ns j) (cells.own ∙ ap (λ t. each_level c (own_demand c t past)) tick)
    ∙ at_index (own_demand c n past) (length c.levels) j 0 known in
    let remaining_is : remaining ≡ remaining_demand c n past j =
    asked.remaining ∙ ap (λ ns. slice_index ns j) (cells.remaining ∙ ap (λ t. each_level c (remaining_demand c t past)) tick)
    ∙ at_index (remaining_demand c n past) (length c.levels) j 0 known in
    let blocking_is : blocks ≡ blocking c past j =
    asked.blocking ∙ ap (λ ns. slice_index ns j) cells.blocking ∙ at_index (blocking c past) (length c.levels) j 0 known in
    let clock : asked.windows ≡ clock_at c n = asked.clock ∙ cells.windows ∙ ap (clock_at c) tick in
    let end_is : asked.end ≡ window_end c j n = asked.ends ∙ ap (λ w. end_at w j) clock ∙ ends n j in
    let now_is : asked.tick ≡ n = asked.now ∙ ap (λ (w : Clock). w.tick) clock in
    let left_is : left ≡ window_end c j n - n = asked.left ∙ ap (λ e. e - asked.tick) end_is ∙ ap (λ t. window_end c j n - t) now_is in
    ap ended
    (is ∙ ap (λ x. level_body j x remaining blocks left) own_is ∙ ap (λ x. level_body j (own_demand c n past j) x blocks left) remaining_is
    ∙ ap (λ x. level_body j (own_demand c n past j) (remaining_demand c n past j) x left) blocking_is
    ∙ ap (λ x. level_body j (own_demand c n past j) (remaining_demand c n past j) (blocking c past j) x) left_is)
