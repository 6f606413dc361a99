use Rattle.std.proofs.Common.{◌≡◌, ◌<◌, ◌∙◌, ap, sym, subst, length}
use Rattle.dk_config.specs.Configuration.{Configuration}
use Rattle.dk_chain_report.specs.Changes.{with_level}
use Rattle.dk_chain_report.proofs.Undone.{level-set, same-length, with_rows}
use Rattle.dk_chain_report.proofs.trials.set_level.Goals as goal

pub returns-clause-level : goal.returns-clause-level
returns-clause-level c =
    let i = c.config.inside in
    let seen : Configuration = record { version = i.version; costs = i.costs; levels = i.levels.items; processes = i.processes.items; mutexes = i.mutexes.items } in
    let is : seen ≡ c.args.config.now = c.config.view_is in
    let less : c.args.process < length i.processes.items = subst (λ (k : Configuration). c.args.process < length k.processes) (sym is) c.requires in
    ap (with_rows seen) (level-set i.processes.items c.args.process c.args.level c.index_mut.result.now less c.index_mut.ensures.value)
    ∙ ap (λ (k : Configuration). with_level k c.args.process c.args.level) is

pub returns-clause-rows : goal.returns-clause-rows
returns-clause-rows c =
    ap (λ (k : Configuration). length k.processes) (returns-clause-level c) ∙ same-length c.args.config.now.processes c.args.process c.args.level
