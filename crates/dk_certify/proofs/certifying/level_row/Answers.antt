use Rattle.std.proofs.Common.{◌≡◌, rules, arith}
use Rattle.dk_certify.proofs.WorkLemmas.{period_of_row, release_of_row}
use Rattle.dk_certify.proofs.certifying.level_row.Goals as goal

pub returns : goal.returns
returns c =
    let same : c.as_slice.result.now ≡ c.args.config.now.levels = search rules in
    let period = period_of_row c.args.config.now c.as_slice.result.now same c.args.level _ c.requires.exists in
    let release = release_of_row c.args.config.now c.as_slice.result.now same c.args.level _ c.requires.exists in
    let positive = c.requires.checked.positive c.args.level c.requires.exists in
    let short = c.requires.limits.periods c.args.level in
    let few = c.requires.limits.releases c.args.level in
    record { period = period; release = release; positive = omega (arith, period, positive); short = omega (arith, period, short); few = omega (arith, release, few) }
