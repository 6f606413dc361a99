use Rattle.std.proofs.Common.{rules, ℕ, ◌≡◌, ◌+◌, ◌∙◌, ◌++◌, ◌∷◌, [], ap, sym, arith, length, map}
use Rattle.std.specs.List.{range_with_len}
use Rattle.std.proofs.lemmas.List.FromFn.{length-map-range_with_len, map-range_with_len_more}
use Rattle.dk_needs_check.specs.Meaning.{most_asked}
use Rattle.dk_needs_check.proofs.asking.asked_allotments.Goals as goal

pub loop-process-preserved : goal.loop-process-preserved
loop-process-preserved c =
    let f : ℕ → ℕ = most_asked c.args.config.now c.args.needs.now in
    c.in_ok-push.ensures.items
    ∙ ap (λ rows. rows ++ c.most_asked.result ∷ []) c.loop-process.invariant
    ∙ ap (λ (row : ℕ). map f (range_with_len 0 c.loop-process.process) ++ row ∷ []) c.most_asked.ensures
    ∙ sym (map-range_with_len_more f 0 c.loop-process.process c.loop-process.process (omega arith))

pub returns-clause-one_each : goal.returns-clause-one_each
returns-clause-one_each c =
    let all : c.loop-process.process ≡ length c.args.config.now.processes = search rules in
    ap length c.loop-process.invariant ∙ length-map-range_with_len (most_asked c.args.config.now c.args.needs.now) 0 c.loop-process.process ∙ all
