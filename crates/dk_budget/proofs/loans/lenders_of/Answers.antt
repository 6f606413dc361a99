use Rattle.dk_budget.proofs.Names.{◌≡◌, ◌≤◌, ◌∙◌, ◌++◌, ◌∷◌, [], ap, sym, arith, length, map, range_with_len, length-map-range_with_len, map-range_with_len_more, MAX_PROCESSES, Configuration, Lender, lender_of}
use Rattle.dk_budget.proofs.loans.lenders_of.Goals as goal

pub push-requires : goal.push-requires
push-requires c =
    let made : length c.loop-process.lenders.items ≡ c.loop-process.process =
    ap length c.loop-process.invariant ∙ length-map-range_with_len (lender_of c.args.config.now) 0 c.loop-process.process in
    let few : length c.args.config.now.processes ≤ MAX_PROCESSES = c.requires.limits.few_processes in
    let same : length c.config.inside.processes.items ≡ length c.args.config.now.processes =
    ap (λ (k : Configuration). length k.processes) c.config.view_is in
    (omega arith, omega arith)

pub loop-process-preserved : goal.loop-process-preserved
loop-process-preserved c =
    c.push.ensures.items
    ∙ ap (λ rows. rows ++ c.lender_of.result ∷ []) c.loop-process.invariant
    ∙ ap (λ (row : Lender). map (lender_of c.args.config.now) (range_with_len 0 c.loop-process.process) ++ row ∷ []) c.lender_of.ensures
    ∙ sym (map-range_with_len_more (lender_of c.args.config.now) 0 c.loop-process.process c.loop-process.process (omega arith))
