-- All that is wrong with a table of times, a process after the other.
use Rattle.std.specs.Prelude.{ℕ, ◌==◌, if◌then◌else◌, List, [], ◌++◌, codes, flat_map, length, Option, Some, None, Result, Ok, Err}
use Rattle.std.specs.List.{filter_map}
use Rattle.dk_config.specs.Configuration.{Configuration}
use Rattle.dk_config.specs.declared.rows.ProcessRow.{ProcessRow}
use Rattle.dk_profile.specs.declared.steps.Why.{Why}
use Rattle.dk_profile.specs.declared.steps.ProfileFault.{ProfileFault}
use Rattle.dk_profile.specs.FaultText.{faults_text}
use Rattle.dk_times.specs.declared.table.Cell.{Cell}
use Rattle.dk_times.specs.Table.{cells_of}
use Rattle.show_budgets.specs.Strangers.{header, strangers_told}

-- that there is no column is nothing wrong
abbrev pub says_fault : ℕ → Result ℕ Why → Option ProfileFault
says_fault line (Ok ticks) = None
says_fault line (Err Why.NoColumn) = None
says_fault line (Err why) = Some (record { line = line; why = why })

abbrev pub fault_in : Cell → Option ProfileFault
fault_in cell = says_fault cell.line cell.says

-- what is wrong with the column of a process of this name, where something is
abbrev pub faults_told : Configuration → List ℕ → List ProfileFault → List ℕ
faults_told c name faults =
    if length faults == 0 then [] else (codes "times of " ++ (name ++ (codes "\n" ++ faults_text c faults)))

abbrev pub column_told : Configuration → List ℕ → ProcessRow → List ℕ
column_told c table row = faults_told c row.name (filter_map fault_in (cells_of c.costs.call row.name table))

-- each column that is that of no process, and what is wrong with the others
abbrev pub table_told : Configuration → List ℕ → List ℕ
table_told c table = strangers_told c.processes (header table) ++ flat_map (column_told c table) c.processes
