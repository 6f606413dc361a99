-- The tables at tick 0: nobody has done anything, and each window has just begun.
use Rattle.std.specs.Prelude.{ℕ, ◌+◌, length, map}
use Rattle.dk_config.specs.Configuration.{Configuration}
use Rattle.dk_config.specs.Sums.{below}
use Rattle.dk_config.specs.Windows.{release}
use Rattle.dk_config.specs.Certification.{budgets_at, level_demand}
use Rattle.dk_windows.specs.Clock.{clock_at}
use Rattle.dk_threads.specs.Table.{table_at_start}
use Rattle.dk_budget.specs.Book.{book_of}
use Rattle.dk_mutex.specs.Rows.{rows_of}
use Rattle.dk_demand.specs.Cells.{Cells, no_ticks}
use Rattle.dk_slack.specs.Slack.{at_start as no_wishes}
use Rattle.dk_slack.specs.Recount.{spares_of}
pub use Rattle.dk_ready.specs.Start.{main_seat, seated, first_parts}
use Rattle.dk_recount.specs.Tables.{Tables}
use Rattle.dk_recount.specs.Recount.{releases_of, rights_of}

abbrev pub own_of : Configuration → ℕ → ℕ
own_of c j = release c j + budgets_at c j

-- what the levels have to do at tick 0
abbrev pub first_cells : Configuration → Cells
first_cells c = record {
  own = map (own_of c) (below (length c.levels));
  remaining = map (level_demand c) (below (length c.levels));
  blocking = no_ticks c;
  windows = clock_at c 0;
}

abbrev pub tables_at_start : Configuration → Tables
tables_at_start c = record {
  threads = table_at_start c;
  loans = book_of c;
  mutexes = rows_of c;
  demand = first_cells c;
  slack = no_wishes c (spares_of c);
  jobs = seated c (length c.processes);
  kernel = first_parts c;
  releases = releases_of c;
  rights = rights_of c;
}
