use Rattle.std.proofs.Common.{◌≡◌, ap, map, refl, string_bytes, subst, sym}
use Rattle.std.specs.Prelude.{IfSome}
use Rattle.dk_edge.specs.OutSink.{out_view}
use Rattle.dk_edge.specs.Words.{usable}
use Rattle.dk_edge.proofs.RunningLemmas.{ran, ran_none, shows_output}
use Rattle.dk_edge.proofs.running.run.Goals as goal

pub returns : goal.returns
returns g c =
    let told = g.W.Words.told c.args.given.now in
    let seen = g.S.Sink.seen in
    let sink = c.in-Ok-reserve.sink in
    record {
      words = map string_bytes c.as_slice.result.now;
      given = subst (λ words. IfSome told (λ given. map string_bytes words ≡ usable given)) (sym c.as_slice.ensures.value) c.in-Ok.ensures;
      ran =
          ran g.P.Program.ends (map string_bytes c.as_slice.result.now)
          (g.D.Depot.seen c.args.depot.now) (g.D.Depot.seen c.call-status.new.depot)
          (seen c.args.out) (out_view seen sink) (out_view seen c.call-status.new.sink) (seen c.hand_over.result.1)
          c.call-status.result c.hand_over.result.0
          (shows_output seen sink c.args.out c.in-Ok-reserve.ensures.out c.in-Ok-reserve.ensures.empty)
          c.call-status.ensures c.hand_over.ensures;
    }

-- no room for the words
pub returns-in-Err : goal.returns-in-Err
returns-in-Err g c = ran_none g.P.Program.ends (g.W.Words.told c.args.given.now) (g.D.Depot.seen c.args.depot.now) _ (g.S.Sink.seen c.args.out) _ refl refl

-- no room for the output
pub returns-in-Err-reserve : goal.returns-in-Err-reserve
returns-in-Err-reserve g c =
    ran_none g.P.Program.ends (g.W.Words.told c.args.given.now) (g.D.Depot.seen c.args.depot.now) _ (g.S.Sink.seen c.args.out) _ refl
    (ap (λ o. g.S.Sink.seen o) c.in-Err-reserve.ensures.back)
