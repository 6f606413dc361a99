use Rattle.dk_show.proofs.Names.{◌∙◌, sym, subst, Puts, Drawing, drawn_text}
use Rattle.dk_show.proofs.work.draw.Goals as goal

pub returns-in_ok-of-in-Trace : goal.returns-in_ok-of-in-Trace
returns-in_ok-of-in-Trace g c = λ j readable text.
    let drawn = c.write.ensures j c.args.work.now.from c.args.work.now.to readable (c.in_ok-of-in-Trace.ensures.trace j readable (text ∙ sym c.as_slice-bytes.ensures.value)) in
    subst (λ (d : Drawing). Puts (g.S.Sink.seen c.args.sink.now) (g.S.Sink.seen c.write.new.sink) c.write.result
    (drawn_text d c.args.work.now.from c.args.work.now.to j)) (sym c.in-Trace.is) drawn

pub returns-in_ok-of-in-Vcd : goal.returns-in_ok-of-in-Vcd
returns-in_ok-of-in-Vcd g c = λ j readable text.
    let drawn = c.write-in-Vcd.ensures j c.args.work.now.from c.args.work.now.to readable (c.in_ok-of-in-Vcd.ensures.dump j readable (text ∙ sym c.as_slice-bytes.ensures.value)) in
    subst (λ (d : Drawing). Puts (g.S.Sink.seen c.args.sink.now) (g.S.Sink.seen c.write-in-Vcd.new.sink) c.write-in-Vcd.result
    (drawn_text d c.args.work.now.from c.args.work.now.to j)) (sym c.in-Vcd.is) drawn

pub returns-in_ok-of-in-Csv : goal.returns-in_ok-of-in-Csv
returns-in_ok-of-in-Csv g c = λ j readable text.
    let drawn = c.write-in-Csv.ensures j c.args.work.now.from c.args.work.now.to readable (c.in_ok-of-in-Csv.ensures.table j readable (text ∙ sym c.as_slice-bytes.ensures.value)) in
    subst (λ (d : Drawing). Puts (g.S.Sink.seen c.args.sink.now) (g.S.Sink.seen c.write-in-Csv.new.sink) c.write-in-Csv.result
    (drawn_text d c.args.work.now.from c.args.work.now.to j)) (sym c.in-Csv.is) drawn
