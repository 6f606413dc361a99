use Rattle.dk_dispatch.proofs.tables.AllTables.reserve_counted.Goals as goal

pub returns : goal.returns
returns g c = c.at_start.ensures

pub at_start-requires-clause-rows : goal.at_start-requires-clause-rows
at_start-requires-clause-rows g c = c.table_of-table.ensures

pub at_start-requires-clause-threads : goal.at_start-requires-clause-threads
at_start-requires-clause-threads g c = c.in_ok-threads.ensures

pub at_start-requires-clause-slack : goal.at_start-requires-clause-slack
at_start-requires-clause-slack g c = c.in_ok-slack.ensures

pub at_start-requires-clause-jobs : goal.at_start-requires-clause-jobs
at_start-requires-clause-jobs g c = c.in_ok-jobs.ensures

pub at_start-requires-clause-kernel : goal.at_start-requires-clause-kernel
at_start-requires-clause-kernel g c = c.in_ok-kernel.ensures
