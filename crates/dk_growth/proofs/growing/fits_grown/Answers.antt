use Rattle.std.proofs.Common.{rules, ◌≡◌, ◌+◌, ◌<◌, ◌≤◌, arith}
use Rattle.std.proofs.lemmas.Bool.{leb-true, leb-false}
use Rattle.dk_config.specs.Certification.{level_blocking}
use Rattle.dk_growth.proofs.Needs.{blocking-grown}
use Rattle.dk_growth.proofs.growing.fits_grown.Goals as goal

pub returns-clause-fits : goal.returns-clause-fits
returns-clause-fits c =
    λ yes.
    (let config = c.args.config.now in
    let window = c.level_row-window.result.period in
    let needs = c.grown_demand-demand.result + c.longest_delay-blocking.result in
    let within : needs ≤ window = leb-true needs window yes in
    let delay : c.longest_delay-blocking.result ≡ level_blocking config c.args.level = search rules in
    let same = blocking-grown config c.args.percent c.args.level in
    let period = c.level_row-window.ensures.period in
    let demand = c.grown_demand-demand.ensures.demand in
    omega (arith, within, delay, same, period, demand))

pub returns-clause-fails : goal.returns-clause-fails
returns-clause-fails c =
    λ no fits.
    (let config = c.args.config.now in
    let window = c.level_row-window.result.period in
    let needs = c.grown_demand-demand.result + c.longest_delay-blocking.result in
    let above : window < needs = leb-false needs window no in
    let delay : c.longest_delay-blocking.result ≡ level_blocking config c.args.level = search rules in
    let same = blocking-grown config c.args.percent c.args.level in
    let period = c.level_row-window.ensures.period in
    let demand = c.grown_demand-demand.ensures.demand in
    omega (arith, above, delay, same, period, demand, fits))
