use Rattle.dk_slack.proofs.Names.{◌≡◌, ◌≤◌, ◌∙◌, ◌*◌, ℕ, List, [], ap, sym, refl, length, replicate, arith, length-replicate, MAX_COST, MAX_LEVELS, MAX_THREADS, Configuration, Slack, at_start}
use Rattle.dk_slack.proofs.Running.{unclaimed-none}
use Rattle.dk_slack.proofs.Tables.{sound-start, table-start}
use Rattle.dk_slack.proofs.table.SlackTable.reserve.Goals as goal

pub invariant_of-result : goal.invariant_of-result
invariant_of-result c =
    let many : length c.args.spare.now ≤ MAX_LEVELS = omega (arith, c.requires.spares, c.requires.limits.few_levels) in
    let ticks : c.config.inside.costs.switch ≤ MAX_COST = omega (arith, c.requires.limits.switch, ap (λ (k : Configuration). k.costs.switch) c.config.view_is) in
    let levels = ap length c.listed.ensures in
    let each = length-replicate (length c.args.spare.now) 0 ∙ sym levels in (
      sound-start _ _ _ _ _ _ c.in_ok-rail.ensures.0 c.in_ok-rail.ensures.1 (c.in_ok-rows.ensures.items_if_clones_equal (λ y h. h)) levels many ticks,
      record { counted = ap length c.zeros.ensures ∙ each; marked = ap length c.zeros-2.ensures ∙ each },
      λ k before. absurd (omega (arith, before, c.unknown.ensures)),
    )

-- the numbers that a table has at the start
start-is : (c : Configuration) (spare us zs : List ℕ) (p s : ℕ) → p ≡ length c.processes → s ≡ c.costs.switch → length spare ≡ length c.levels
    → us ≡ replicate (length c.levels) 0 → zs ≡ spare
    → ◌≡◌ {A = Slack} (record { nodes = MAX_THREADS * p; switch = s; wishes = replicate (length spare) []; unclaimed = us; spares = zs }) (at_start c spare)
start-is c spare us zs p s processes switch levels counts same = rw (processes, switch, levels, counts, same) refl

pub returns : goal.returns
returns c =
    let processes : c.len-nodes.result ≡ length c.args.config.now.processes =
    omega (arith, c.len-nodes.ensures, c.config.inside.processes.ok, ap (λ (k : Configuration). length k.processes) c.config.view_is) in
    let switch = ap (λ (k : Configuration). k.costs.switch) c.config.view_is in
    let each = ap (λ n. replicate n 0) c.requires.spares in
    let counts = unclaimed-none (length c.args.config.now.levels) _ _ (c.zeros.ensures ∙ each) (c.zeros-2.ensures ∙ each) in
    table-start _ _ _ _ _ _ c.in_ok-rail.ensures.0 c.in_ok-rail.ensures.1 (c.in_ok-rows.ensures.items_if_clones_equal (λ y h. h)) _
    ∙ start-is c.args.config.now c.args.spare.now _ _ c.len-nodes.result _ processes switch c.requires.spares counts c.listed.ensures
