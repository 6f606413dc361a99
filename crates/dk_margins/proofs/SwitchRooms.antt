-- Which costs of a switch a configuration can have.
use Rattle.dk_margins.proofs.Names.{◌≡◌, ◌∙◌, sym, ap, ℕ, ◌+◌, ◌*◌, ◌<◌, ◌≤◌, inl, inr, min, List, ◌++◌, length, get_or, arith, None, Some, slice_get, option_map_or, slice_get-get_or, slice_get_within, row_at, nat_tests, MAX_COST, ProcessRow, Configuration, first_broken, each_row, version_tests, count_tests, period_tests, name_tests, again_tests, level_tests, user_tests, slowest_tests, cost_ranges, level_ranges, process_ranges, mutex_ranges, budget_room, budget, BreaksNoRule, IsAccepted, checked, within_limits, certified_from, before_or_here, Stands, IsGreatest, with_switch, LimitsSwitch, room_of}
use Rattle.dk_config.specs.Rules.{all_tests, range_tests, budget_tests}
use Rattle.dk_margins.proofs.Keeping.{Keeps, keeps_both, each_passes}

-- one more row
pub one_more : (rows : List ProcessRow) (count most : ℕ) (row : ProcessRow) (room most_now : ℕ) → LimitsSwitch rows count most → row ≡ get_or rows count row → count < length rows
    → room ≡ room_of row → most_now ≡ min most room → LimitsSwitch rows (count + 1) most_now
one_more rows count most row room most_now before is_row inside is_room is =
    let at : slice_get rows count ≡ Some row = slice_get-get_or rows count row inside ∙ ap Some (sym is_row) in
    record {
      few = (let few = before.few in omega (arith, is, few));
      each =
          λ i other below there. elim (before_or_here i count below) [
            | inl earlier ↦ (let each = before.each i other earlier there in omega (arith, is, each))
            | inr same ↦
                (let both : Some row ≡ Some other = sym at ∙ ap (slice_get rows) (sym same) ∙ there in
                let one : row ≡ other = cc in
                let room_is : room ≡ room_of other = is_room ∙ ap room_of one in
                omega (arith, is, room_is))
          ];
      greatest =
          λ w few each. (let earlier = before.greatest w few (λ i other below there. each i other (omega arith) there) in
          let here = each count row (omega arith) at in
          omega (arith, is, is_room, earlier, here));
    }

-- the costs with another switch
cost_kept : (c : Configuration) (w : ℕ) → w ≤ MAX_COST → Keeps (cost_ranges c.costs) (cost_ranges (with_switch c w).costs)
cost_kept c w few h = grind (arith, nat_tests)

room_kept : (b w i : ℕ) (row : ProcessRow) → row.budget ≡ b → 2 * w + 1 ≤ b → first_broken (budget_room w i row) ≡ None
room_kept b w i row is fits = grind (arith, nat_tests)

-- a configuration that breaks no rule breaks none with a cost that all budgets have room for
pub unbroken-with : (c : Configuration) (w : ℕ) → BreaksNoRule c → w ≤ MAX_COST → ((p : ℕ) → p < length c.processes → 2 * w + 1 ≤ budget c p)
    → BreaksNoRule (with_switch c w)
unfolding all_tests range_tests budget_tests
unbroken-with c w h few fits =
    let levels = length c.levels in
    let rest = each_row level_ranges 0 c.levels ++ (each_row process_ranges 0 c.processes ++ each_row mutex_ranges 0 c.mutexes) in
    let ranges : Keeps (range_tests c.costs c.levels c.processes c.mutexes) (range_tests (with_switch c w).costs c.levels c.processes c.mutexes) =
    keeps_both (cost_ranges c.costs) (cost_ranges (with_switch c w).costs) rest rest (cost_kept c w few) (λ k. k) in
    let budgets : Keeps (budget_tests c.costs.switch c.processes) (budget_tests w c.processes) =
    λ k. each_passes (budget_room w) 0 c.processes
    (λ p row there. room_kept (budget c p) w (0 + p) row (sym (ap (λ o. option_map_or (λ r. r.budget) o 0) there)) (fits p (slice_get_within c.processes p row there))) in
    let last = user_tests c.processes c.mutexes ++ slowest_tests c.version levels c.processes in
    keeps_both (version_tests c.version) (version_tests c.version) _ _ (λ k. k)
    (keeps_both (count_tests c.version levels (length c.processes) (length c.mutexes)) (count_tests c.version levels (length c.processes) (length c.mutexes)) _ _ (λ k. k)
    (keeps_both (range_tests c.costs c.levels c.processes c.mutexes) (range_tests (with_switch c w).costs c.levels c.processes c.mutexes) _ _ ranges
    (keeps_both (period_tests c.levels) (period_tests c.levels) _ _ (λ k. k)
    (keeps_both (name_tests c.processes c.mutexes) (name_tests c.processes c.mutexes) _ _ (λ k. k)
    (keeps_both (again_tests c.processes c.mutexes) (again_tests c.processes c.mutexes) _ _ (λ k. k)
    (keeps_both (level_tests levels c.processes c.mutexes) (level_tests levels c.processes c.mutexes) _ _ (λ k. k)
    (keeps_both (budget_tests c.costs.switch c.processes) (budget_tests w c.processes) last last budgets (λ k. k)))))))) h

-- so each cost up to the limit of all budgets can be had where the configuration is accepted, and no greater one
pub greatest : (c : Configuration) (most : ℕ) → BreaksNoRule c → IsAccepted c → LimitsSwitch c.processes (length c.processes) most
    → IsGreatest (λ w. Stands (with_switch c w)) (Some most)
greatest c most unbroken accepted limits =
    let safe = checked c unbroken in (
      record {
        unbroken =
            unbroken-with c most unbroken limits.few
            (λ p below. (let at = row_at c.processes p below in
            let room = limits.each p at.0 below at.1 in
            let is : budget c p ≡ at.0.budget = ap (λ o. option_map_or (λ r. r.budget) o 0) at.1 in
            let some = safe.budgets p below in
            omega arith));
        certified = certified_from (with_switch c most) accepted;
      },
      λ w more stands.
          (let wide = within_limits (with_switch c w) stands.unbroken in
          let fits = checked (with_switch c w) stands.unbroken in
          let few : w ≤ MAX_COST = wide.switch in
          let within : w ≤ most =
          limits.greatest w few
          (λ p row below there. (let room : 2 * w + 1 ≤ budget c p = fits.budgets p below in
          let is : budget c p ≡ row.budget = ap (λ o. option_map_or (λ r. r.budget) o 0) there in
          omega arith)) in
          omega arith),
    )
