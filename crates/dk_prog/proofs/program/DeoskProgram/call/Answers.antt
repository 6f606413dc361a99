use Rattle.std.proofs.Common.{ap}
use Rattle.dk_prog.proofs.program.DeoskProgram.call.Goals as goal

pub returns : goal.returns
returns g c =
    let e = c.deosk.ensures in
    record {
      whole = e.output.whole;
      received_bounded_granted = e.received_bounded_granted;
      cut = e.output.cut;
      silent = λ silent. ap g.S.Sink.seen (e.output.silent silent);
      usage = e.usage;
      usage_only = e.usage_only;
      usage_line = e.usage_line;
      config = e.config;
      uncertified = e.uncertified;
      program = e.program;
      depot_fault = e.depot_fault;
      sink_fault = e.sink_fault;
      no_read_failed = e.no_read_failed;
      no_write_failed = e.no_write_failed;
      complete = e.complete;
      goes_on = e.goes_on;
      given = e.given;
      strays = e.strays;
    }
