-- What contracts see of the fields of all tables.
use Rattle.dk_recount.specs.Tables.{Tables}
use Rattle.dk_dispatch.specs.declared.tables.AllTables.TheInside.{Inside}

abbrev pub tables_of : Inside → Tables
tables_of d = record {
  threads = d.threads;
  loans = d.loans;
  mutexes = d.mutexes;
  demand = d.demand;
  slack = d.slack;
  jobs = d.jobs;
  kernel = d.kernel;
  releases = d.releases.items;
  rights = d.rights.items;
}
