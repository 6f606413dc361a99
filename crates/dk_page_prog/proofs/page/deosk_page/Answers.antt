use Rattle.std.proofs.Common.{ℕ, List, subst, refl}
use Rattle.dk_outside.specs.Written.{Appends, AppendsPrefix}
use Rattle.dk_page_prog.proofs.page.deosk_page.Goals as goal

pub returns-in-Ok-write_all_to : goal.returns-in-Ok-write_all_to
returns-in-Ok-write_all_to g c =
    let old = (g.S.Sink.seen c.args.sink.now).written in
    let new = (g.S.Sink.seen c.write_all_to.new.sink).written in
    record {
      whole = λ e is. (
        c.in-Ok.answer,
        (cc),
        subst (λ (b : List ℕ). Appends old new b) c.as_slice.ensures.value c.in-Ok-write_all_to.ensures.ok,
        c.in-Ok.ensures.is,
      );
      cut = λ is. absurd (cc);
      silent = λ is. absurd (cc);
      memory = λ is. absurd (cc);
      depot_fault = λ is. absurd (cc);
      sink_fault = λ is. absurd (cc);
      no_read_failed = λ other. c.in-Ok.ensures.stays (λ bad. cc);
      no_write_failed = λ other. c.in-Ok-write_all_to.ensures.stays;
      same = c.in-Ok.ensures.same;
    }

pub returns-in-Ok : goal.returns-in-Ok
returns-in-Ok g c =
    let old = (g.S.Sink.seen c.args.sink.now).written in
    let new = (g.S.Sink.seen c.write_all_to.new.sink).written in
    record {
      whole = λ e is. absurd (cc);
      cut = λ is. (
        c.in-Ok.answer,
        subst (λ (b : List ℕ). AppendsPrefix old new b) c.as_slice.ensures.value c.in-Err.ensures.err,
        c.in-Ok.ensures.is,
      );
      silent = λ is. absurd (cc);
      memory = λ is. absurd (cc);
      depot_fault = λ is. absurd (cc);
      sink_fault = λ is. c.in-Err.ensures.cause refl;
      no_read_failed = λ other. c.in-Ok.ensures.stays (λ bad. cc);
      no_write_failed = λ other. absurd (other refl);
      same = c.in-Ok.ensures.same;
    }
