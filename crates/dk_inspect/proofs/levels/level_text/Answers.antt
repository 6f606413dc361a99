use Rattle.dk_inspect.proofs.Names.{◌≡◌, ◌∙◌, ap, length, rules, subst, IsRecount, trace_of}
use Rattle.dk_inspect.specs.Printing.{level_line_of}
use Rattle.dk_inspect.proofs.Cells.{level-told}
use Rattle.dk_inspect.proofs.levels.level_text.Goals as goal

pub returns-clause-text : goal.returns-clause-text
unfolding level_line_of
returns-clause-text c =
    let k = c.args.kernel.now in
    let past = c.dispatcher.result.now.past in
    let d = c.dispatcher.ensures in
    let cells : IsRecount k.config (trace_of k) c.demand-demand.result.now =
    subst (λ es. IsRecount k.config es c.demand-demand.result.now) d.entries (subst (λ z. IsRecount z past.entries c.demand-demand.result.now) d.config c.demand-demand.ensures.cells) in
    level-told k.config (trace_of k) c.demand-demand.result.now c.args.level c.own.result c.remaining.result c.blocking.result c.saturating_sub.result
    c.numbers_text.result (c.windows_are_the_configurations.ensures.ends k.config) (c.demand-demand.ensures.tick ∙ ap (λ es. length es) d.entries) cells c.requires
    (record {
      windows = c.windows-windows.result.now;
      end = c.end.result;
      tick = c.now.result;
      own = c.own.ensures;
      remaining = c.remaining.ensures;
      blocking = c.blocking.ensures;
      clock = c.windows-windows.ensures;
      ends = c.end.ensures;
      now = c.now.ensures;
      left = search rules;
    }) c.numbers_text.ensures.text
