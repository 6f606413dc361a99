use Rattle.std.proofs.Common.{◌≡◌, ◌<◌, ◌∙◌, ap, sym, subst, length}
use Rattle.dk_config.specs.Configuration.{Configuration}
use Rattle.dk_chain_report.proofs.Undone.{rows-back, with_rows}
use Rattle.dk_chain_report.proofs.trials.swapped_gain.Goals as goal

pub returns-clause-same : goal.returns-clause-same
returns-clause-same c =
    let i = c.config.inside in
    let seen : Configuration = record { version = i.version; costs = i.costs; levels = i.levels.items; processes = i.processes.items; mutexes = i.mutexes.items } in
    let is : seen ≡ c.args.config.now = c.config.view_is in
    let one : c.args.earlier < length i.processes.items = subst (λ (k : Configuration). c.args.earlier < length k.processes) (sym is) c.requires.earlier in
    let two : c.args.later < length i.processes.items = subst (λ (k : Configuration). c.args.later < length k.processes) (sym is) c.requires.later in
    ap (with_rows seen) (rows-back i.processes.items c.swap.new.self.items c.swap-2.new.self.items c.args.earlier c.args.later one two c.swap.ensures.items c.swap-2.ensures.items)
    ∙ is
