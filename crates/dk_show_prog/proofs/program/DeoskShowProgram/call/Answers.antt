use Rattle.std.proofs.Common.{ap, inl, inr}
use Rattle.dk_show_prog.proofs.program.DeoskShowProgram.call.Goals as goal

pub returns : goal.returns
returns g c =
    let e = c.deosk_show.ensures in
    record {
      whole = e.output.whole;
      cut = e.output.cut;
      silent = λ silent. ap g.S.Sink.seen (e.output.silent silent);
      memory = λ ended. elim (e.output.memory ended) [ inl same ↦ inl (ap g.S.Sink.seen same) | inr cuts ↦ inr cuts ];
      untouched = λ draws memory. ap g.S.Sink.seen (e.untouched draws memory);
      complete = e.complete;
      usage = e.usage;
      usage_only = e.usage_only;
      depot_fault = e.depot_fault;
      sink_fault = e.sink_fault;
      no_read_failed = e.no_read_failed;
      no_write_failed = e.no_write_failed;
      faults = e.faults;
      given = e.given;
      strays = e.strays;
      same = e.same;
    }
