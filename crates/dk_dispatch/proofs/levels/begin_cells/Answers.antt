use Rattle.dk_dispatch.proofs.Names.{ℕ, ◌≡◌, ◌<◌, ◌≤◌, ◌+◌, ◌-◌, ◌∙◌, ◌∷◌, Bool, true, false, cond, get_or, List, length, ap, sym, subst, refl, arith, rules, sum_by-cons, numbers, numbers-next, ThreadRow, Clock, begins_at, ArePeriods, Cells, AreKnown, all_rows, cell_steps, cells_begun, cells_set, is_between, kernel_work, own_in, remaining_in, shares_in, shares_to_come}
use Rattle.dk_dispatch.proofs.Sums.{is_faster, same-cells, shares-none, shares-to, shares-up}
use Rattle.dk_dispatch.proofs.levels.begin_cells.Goals as goal

pub begin_cell-requires-clause-levels : goal.begin_cell-requires-clause-levels
begin_cell-requires-clause-levels g c =
    ap (λ (w : Clock). w.periods) c.loop-level.invariant.windows ∙ c.requires.levels

pub begin_cell-requires-clause-lenders : goal.begin_cell-requires-clause-lenders
begin_cell-requires-clause-lenders g c =
    c.requires.lenders

pub begin_cell-requires-clause-releases : goal.begin_cell-requires-clause-releases
begin_cell-requires-clause-releases g c =
    c.requires.releases ∙ sym (ap (λ (w : Clock). length w.periods) c.loop-level.invariant.windows)

pub begin_cell-requires-clause-periods : goal.begin_cell-requires-clause-periods
begin_cell-requires-clause-periods g c =
    subst (λ (w : Clock). ArePeriods w.periods) (sym c.loop-level.invariant.windows) c.requires.periods

pub begin_cell-requires-clause-known : goal.begin_cell-requires-clause-known
begin_cell-requires-clause-known g c =
    let same = ap (λ (w : Clock). length w.periods) c.loop-level.invariant.windows in
    let many = c.len-levels.ensures.value in
    let releases = c.requires.releases in
    omega (arith, same, many, releases, c.loop-level-test.true)

pub begin_cell-requires-clause-few_own : goal.begin_cell-requires-clause-few_own
begin_cell-requires-clause-few_own g c =
    let few = c.shares_by_level-sums.ensures.few c.loop-level.level in
    omega (arith, few)

pub shares_by_level-sums-requires-clause-levels : goal.shares_by_level-sums-requires-clause-levels
shares_by_level-sums-requires-clause-levels g c =
    ap (λ (w : Clock). w.periods) c.windows-2.ensures ∙ c.requires.levels

pub shares_by_level-sums-requires-clause-processes : goal.shares_by_level-sums-requires-clause-processes
shares_by_level-sums-requires-clause-processes g c =
    c.requires.processes

pub shares_by_level-sums-requires-clause-known : goal.shares_by_level-sums-requires-clause-known
shares_by_level-sums-requires-clause-known g c =
    subst (λ (w : Clock). AreKnown c.args.loans.now w (all_rows c.args.threads.now)) (sym c.windows-2.ensures) c.requires.rows

same-windows : (b : Bool) (k own remaining : ℕ) (d : Cells) → (cond b (cells_set k own remaining d) d).windows ≡ d.windows
same-windows true k own remaining d = refl
same-windows false k own remaining d = refl

pub loop-level-init : goal.loop-level-init
loop-level-init g c = record {
  windows = search rules;
  cells = search rules;
  steps = search rules;
  shares = λ within. sym (shares-none c.args.loans.now c.args.demand.now.windows (all_rows c.args.threads.now));
  few = search rules;
}

pub loop-level-preserved : goal.loop-level-preserved
loop-level-preserved g c =
    let R = c.args.releases.now.items in
    let t = c.args.threads.now in
    let b = c.args.loans.now in
    let w = c.args.demand.now.windows in
    let k = c.loop-level.level in
    let d = c.loop-level.demand in
    let rows : List ThreadRow = all_rows t in
    let was = c.loop-level.invariant in
    let many = c.len-levels.ensures.value in
    let less : k < length R = omega (arith, many, c.loop-level-test.true) in
    let next : List ℕ = numbers (k + 1) (length R - (k + 1)) in
    let here : numbers k (length R - k) ≡ k ∷ next = numbers-next k (length R) less in
    let cells = c.begin_cell.ensures.cells in
    let spent = c.begin_cell.ensures.steps in
    let own : ℕ = get_or c.shares_by_level-sums.result k 0 in
    let shares : ℕ = c.loop-level.shares + own in
    let begins : Bool = begins_at d.windows k in
    let early : begins ≡ true → k ≤ c.slowest_begun-slowest.result =
    λ on. c.slowest_begun-slowest.ensures k (omega (arith, c.loop-level-test.true)) (ap (λ (x : Clock). begins_at x k) (c.windows.ensures ∙ sym was.windows) ∙ on) in
    let own-is : k ≤ c.slowest_begun-slowest.result → own ≡ shares_in b w (is_between k k) rows =
    λ within. c.shares_by_level-sums.ensures.sums k within ∙ ap (λ (x : Clock). shares_in b x (is_between k k) rows) c.windows-2.ensures in
    let shares-are : k ≤ c.slowest_begun-slowest.result → shares ≡ shares_in b w (is_faster (k + 1)) rows =
    λ within.
    let one = own-is within in
    let before = was.shares (omega (arith, within)) in
    let up = shares-up b w k rows in
    omega (arith, one, before, up) in
    let own-at : begins ≡ true → get_or R k 0 + own ≡ own_in R t b d.windows k =
    λ on.
    ap (λ (n : ℕ). get_or R k 0 + n) (own-is (early on))
    ∙ ap (λ (x : Clock). own_in R t b x k) (sym was.windows) in
    let remaining-at : begins ≡ true → kernel_work R d.windows k + shares + shares_to_come b d.windows k ≡ remaining_in R t b d.windows k =
    λ on.
    ap (λ (n : ℕ). kernel_work R d.windows k + n + shares_to_come b d.windows k)
    (shares-are (early on) ∙ sym (shares-to b w k rows) ∙ ap (λ (x : Clock). shares_in b x (is_between 0 k) rows) (sym was.windows)) in
    let same = ap (λ (z : Cells). z.windows) cells ∙ same-windows begins k (get_or R k 0 + own) (kernel_work R d.windows k + shares + shares_to_come b d.windows k) d in
    let set = cells ∙ same-cells begins k _ _ _ _ d own-at remaining-at in
    let before = ap (cell_steps w) here in
    let one = sum_by-cons (λ (j : ℕ). cond (begins_at w j) 3 0) k next in
    let at : ◌≡◌ {A = ℕ} (cond (begins_at d.windows k) 3 0) (cond (begins_at w k) 3 0) = ap (λ (x : Clock). cond (begins_at x k) 3 0) was.windows in
    let steps = was.steps in
    let low = was.few in
    let few = c.shares_by_level-sums.ensures.few k in
    record {
      windows = same ∙ was.windows;
      cells = ap (cells_begun R t b next) set ∙ ap (λ ks. cells_begun R t b ks d) (sym here) ∙ was.cells;
      steps = omega (arith, spent, before, one, at, steps);
      shares = λ within. shares-are (omega (arith, within));
      few = omega (arith, low, few);
    }
