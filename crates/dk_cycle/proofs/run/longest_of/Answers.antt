use Rattle.dk_cycle.proofs.Names.{rules, ◌≡◌, ◌-◌, ◌∙◌, length, ap, period}
use Rattle.dk_cycle.proofs.Stands.{last-is-longest}
use Rattle.dk_cycle.proofs.run.longest_of.Goals as goal

pub returns : goal.returns
returns c =
    let config = c.args.config.now in
    let many : c.len.result ≡ length config.levels = search rules in
    let is : c.period_of.result ≡ period config (length config.levels - 1) = c.period_of.ensures ∙ ap (λ n. period config (n - 1)) many in
    last-is-longest config c.period_of.result c.requires.checked c.requires.limits is
