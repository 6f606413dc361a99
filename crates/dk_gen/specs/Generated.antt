-- The workload of a number. Its draws are counted from 0: the first three make the periods, three more the releases, two the
-- costs, one the number of processes. Then come those of each process in turn, and the last one makes the hold of the mutex.
use Rattle.std.specs.Prelude.{ℕ, zero, suc, ◌+◌, ◌*◌, ◌/◌, ◌%◌, true, List, [], ◌∷◌, ◌++◌, map, codes, decimal}
use Rattle.dk_config.specs.declared.rows.Costs.{Costs}
use Rattle.dk_config.specs.declared.rows.LevelRow.{LevelRow}
use Rattle.dk_config.specs.declared.rows.ProcessRow.{ProcessRow}
use Rattle.dk_config.specs.Configuration.{Configuration}
use Rattle.dk_config.specs.Mutex.{Mutex}
use Rattle.dk_config.specs.Sums.{below}
use Rattle.dk_loader.specs.Workload.{Workload}
use Rattle.dk_gen.specs.Draws.{draw}
use Rattle.dk_gen.specs.Templates.{template_at, draws_in, program_of}

-- each period after the first is two to four times the one before
abbrev pub period_at : ℕ → ℕ → ℕ
period_at number zero = 100 * (1 + draw number 0 9)
period_at number (suc j) = period_at number j * (2 + draw number (suc j) 3)

abbrev pub level_at : ℕ → ℕ → LevelRow
level_at number j = record { period = period_at number j; release = draw number (3 + j) 4 }

abbrev pub levels_of : ℕ → List LevelRow
levels_of number = map (level_at number) (below 3)

abbrev pub costs_of : ℕ → Costs
costs_of number = record { switch = draw number 6 3; call = 1 + draw number 7 2 }

abbrev pub process_count : ℕ → ℕ
process_count number = 3 + draw number 8 6

-- A process draws its budget, then its template, and then its program: the place after all of these.
abbrev pub place_after : ℕ → ℕ → ℕ
place_after number place = place + 2 + draws_in (template_at number (place + 1))

-- the place at which the draws of process i begin
unfoldable pub place_of : ℕ → ℕ → ℕ
place_of number zero = 9
place_of number (suc i) = place_after number (place_of number i)

abbrev pub name_of : ℕ → List ℕ
name_of i = codes "g" ++ decimal i

abbrev pub file_name_of : ℕ → List ℕ
file_name_of i = name_of i ++ codes ".bin"

-- both switches and a tick of work, and a drawn part: by it all processes together have at most half of each window
abbrev pub budget_of : ℕ → ℕ → ℕ
budget_of number i =
    2 * (costs_of number).switch + 1 + draw number (place_of number i)
    (period_at number (i % 3) / (2 * process_count number))

abbrev pub process_with : ℕ → ℕ → ProcessRow
process_with i budget = record {
  name = name_of i;
  program = file_name_of i;
  level = i % 3;
  budget = budget;
  memory = 64;
  threads = 2;
  slack = true;
  max_level = 2;
}

abbrev pub process_at : ℕ → ℕ → ProcessRow
process_at number i = process_with i (budget_of number i)

abbrev pub processes_of : ℕ → List ProcessRow
processes_of number = map (process_at number) (below (process_count number))

abbrev pub hold_of : ℕ → ℕ
hold_of number = 1 + draw number (place_of number (process_count number)) (period_at number 0 / 20)

-- the mutex with this hold that all these processes use
abbrev pub mutex_with : ℕ → List ProcessRow → Mutex
mutex_with hold processes =
    record { name = codes "m0"; ceiling = 0; hold = hold; users = map (λ row. row.name) processes }

abbrev pub mutex_of : ℕ → Mutex
mutex_of number = mutex_with (hold_of number) (processes_of number)

abbrev pub configuration_of : ℕ → Configuration
configuration_of number = record {
  version = 1;
  costs = costs_of number;
  levels = levels_of number;
  processes = processes_of number;
  mutexes = mutex_of number ∷ [];
}

abbrev pub program_at : ℕ → ℕ → List ℕ
program_at number i = program_of (template_at number (place_of number i + 1)) number (place_of number i + 2)

-- the configuration of a number, and the program of each process
unfoldable pub generated : ℕ → Workload
generated number = record {
  config = configuration_of number;
  programs = map (program_at number) (below (process_count number));
}
