use Rattle.dk_show.proofs.Names.{length, rules, Ok, Err, Loaded}
use Rattle.dk_loader.specs.declared.fault.LoadFault.TheVariants as fault
use Rattle.dk_show.proofs.Asks.{asks_programs}
use Rattle.dk_show.proofs.Loads.{silent_loads, takes_few}
use Rattle.dk_show.proofs.loading.with_programs.Goals as goal

pub returns-in-Ok-clause-given : goal.returns-in-Ok-clause-given
returns-in-Ok-clause-given g c =
    takes_few (λ (l : Loaded). l.programs) (length c.args.config.processes) c.load.result _ _ c.requires.limits.few_processes c.load.ensures.given

pub returns-in-Ok-clause-asks : goal.returns-in-Ok-clause-asks
returns-in-Ok-clause-asks g c =
    asks_programs (g.D.Depot.seen c.args.depot.now).files c.args.config (g.D.Depot.seen c.args.depot.now) (g.D.Depot.seen c.load.new.depot)
    (Ok c.in-Ok.loaded) _ (λ loud n is. is) c.in-Ok.ensures.counted c.in-Ok.ensures.stray

pub returns-in-Err-Depot-clause-given : goal.returns-in-Err-Depot-clause-given
returns-in-Err-Depot-clause-given g c =
    takes_few (λ (l : Loaded). l.programs) (length c.args.config.processes) c.load.result _ _ c.requires.limits.few_processes c.load.ensures.given

pub returns-in-Err-Depot-clause-asks : goal.returns-in-Err-Depot-clause-asks
returns-in-Err-Depot-clause-asks g c =
    asks_programs (g.D.Depot.seen c.args.depot.now).files c.args.config (g.D.Depot.seen c.args.depot.now) (g.D.Depot.seen c.load.new.depot)
    c.load.result _ (λ loud n is. absurd (cc)) c.load.ensures.counted c.load.ensures.stray

pub returns-in-Err-TooLong-clause-given : goal.returns-in-Err-TooLong-clause-given
returns-in-Err-TooLong-clause-given g c =
    takes_few (λ (l : Loaded). l.programs) (length c.args.config.processes) c.load.result _ _ c.requires.limits.few_processes c.load.ensures.given

pub returns-in-Err-TooLong-clause-asks : goal.returns-in-Err-TooLong-clause-asks
returns-in-Err-TooLong-clause-asks g c =
    let load = rw c.in-Err-TooLong.field-0-is at c.in-Err-TooLong.ensures in
    asks_programs {X = Loaded} (g.D.Depot.seen c.args.depot.now).files c.args.config (g.D.Depot.seen c.args.depot.now) (g.D.Depot.seen c.load.new.depot)
    (Err (fault.TooLong c.in-Err-TooLong.process)) _ (λ loud n is. is) load.counted load.stray

-- want of memory
pub returns-in-Err : goal.returns-in-Err
returns-in-Err g c = record {
  loads = silent_loads (g.D.Depot.seen c.args.depot.now).files _;
  certified = tt;
  given = takes_few (λ (l : Loaded). l.programs) (length c.args.config.processes) c.load.result _ _ c.requires.limits.few_processes c.load.ensures.given;
  asks =
      asks_programs (g.D.Depot.seen c.args.depot.now).files c.args.config (g.D.Depot.seen c.args.depot.now) (g.D.Depot.seen c.load.new.depot)
      c.load.result _ (λ loud n is. absurd (cc)) c.load.ensures.counted c.load.ensures.stray;
  reads = record {
    cause = search rules;
    stays = search rules;
    faults = search rules;
    same = search rules;
  };
}
