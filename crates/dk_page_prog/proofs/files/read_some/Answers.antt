use Rattle.std.proofs.Common.{ap}
use Rattle.std.specs.Prelude.{option_map}
use Rattle.dk_page_prog.proofs.Reading.{none_read}
use Rattle.dk_page_prog.proofs.files.read_some.Goals as goal

pub returns-in-None-clause-held : goal.returns-in-None-clause-held
returns-in-None-clause-held g c =
    none_read (g.D.Depot.seen c.args.depot.now).files _ c.args.limit c.new.result.items (ap (option_map (λ n. n.now)) c.in-None.is) (cc)
