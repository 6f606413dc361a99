use Rattle.std.proofs.Common.{◌≡◌, ◌∙◌, ap, rules, slice_index_or}
use Rattle.dk_config.specs.Configuration.{Configuration}
use Rattle.dk_chain_report.specs.Changes.{with_level}
use Rattle.dk_chain_report.proofs.Undone.{level-back}
use Rattle.dk_chain_report.proofs.trials.level_gain.Goals as goal

pub returns-clause-same : goal.returns-clause-same
returns-clause-same c =
    let now = c.args.config.now in
    let process = c.args.process in
    let row = c.index-as_slice-process.result in
    let rows : c.as_slice.result.now ≡ now.processes = search rules in
    let own = (slice_index_or c.as_slice.result.now process row).level in
    c.set_level-2.ensures.level
    ∙ ap (λ (k : Configuration). with_level k process own) c.set_level.ensures.level
    ∙ level-back now process c.args.level own row c.requires.process (ap (λ rs. (slice_index_or rs process row).level) rows)
