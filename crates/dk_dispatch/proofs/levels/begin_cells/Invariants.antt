use Rattle.dk_dispatch.proofs.Names.{◌≡◌, ◌≤◌, ◌+◌, ◌-◌, ◌*◌, ◌^◌, length, MAX_THREADS, below, numbers, all_rows, cell_steps, cells_begun, shares_in}
use Rattle.dk_dispatch.proofs.Sums.{is_faster}
use Rattle.dk_dispatch.proofs.levels.begin_cells.Given as goal

abbrev pub invariant-loop-level : goal.invariant-loop-level
invariant-loop-level g l =
    let left = numbers l.level (length l.releases.items - l.level) in
    record {
      windows : l.demand.windows ≡ l.fn.demand.windows;
      cells : cells_begun l.releases.items l.threads l.loans left l.demand ≡ cells_begun l.releases.items l.threads l.loans (below (length l.releases.items)) l.fn.demand;
      steps : l.steps + cell_steps l.fn.demand.windows left ≡ l.fn.steps + cell_steps l.fn.demand.windows (below (length l.releases.items));
      shares : l.level ≤ l.slowest + 1 → l.shares ≡ shares_in l.loans l.fn.demand.windows (is_faster l.level) (all_rows l.threads);
      few : l.shares ≤ l.level * (2 ^ 8 * (MAX_THREADS * 2 ^ 32));
    }
