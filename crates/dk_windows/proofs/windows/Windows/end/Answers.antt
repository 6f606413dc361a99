use Rattle.std.proofs.Common.{◌≡◌, ◌<◌, ◌+◌, ap, sym, subst, ◌∙◌, length, get_or, List, arith, rules}
use Rattle.dk_windows.specs.Clock.{Clock, end_at}
use Rattle.dk_windows.specs.declared.row.Window.{Window}
use Rattle.dk_windows.proofs.Moving.{ends_fit, end-row, few-rows}
use Rattle.dk_windows.proofs.windows.Windows.end.Goals as goal

below : (c : goal.After-ticks) → c.args.level < length c.self.inside.rows.items
below c =
    few-rows c.self.inside.rows.items c.args.level (subst (λ (w : Clock). c.args.level < length w.periods) (sym c.self.view_is) c.requires)

row : (c : goal.After-ticks) → c.index-deref-level.result ≡ get_or c.self.inside.rows.items c.args.level c.index-deref-level.result
row c =
    let d : Window = c.index-deref-level.result in
    c.index-deref-level.is ∙ ap (λ (ws : List Window). get_or ws c.args.level d) c.deref.ensures.0

pub overflow_add-result : goal.overflow_add-result
overflow_add-result c =
    let d : Window = c.index-deref-level.result in
    let fits : d.start + d.period < 4294967296 =
    subst (λ (w : Window). w.start + w.period < 4294967296) (sym (row c))
    (ends_fit c.self.inside.tick c.self.inside.rows.items c.self.invariant.2 c.self.invariant.0 c.args.level d (below c)) in
    let long = c.ticks.ensures.length in
    let sum : d.start + c.ticks.result < 4294967296 = omega (arith, long, fits) in
    search (rules, sum)

pub returns : goal.returns
returns c =
    let d : Window = c.index-deref-level.result in
    ap (λ k. d.start + k) c.ticks.ensures.length
    ∙ ap (λ (w : Window). w.start + w.period) (row c)
    ∙ end-row c.self.inside.tick c.self.inside.rows.items c.args.level d c.self.invariant.0 (below c)
    ∙ ap (λ (w : Clock). end_at w c.args.level) c.self.view_is
