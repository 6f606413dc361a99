use Rattle.dk_threads.proofs.Names.{◌∙◌, ◌++◌, ◌∷◌, [], ap, sym, arith, map, range_with_len, map-range_with_len_more, Family, first_family}
use Rattle.dk_threads.proofs.threads.families_of.Goals as goal

pub loop-process-preserved : goal.loop-process-preserved
loop-process-preserved c =
    c.in_ok-push.ensures.items
    ∙ ap (λ families. families ++ c.in_ok-reserve.field-0 ∷ []) c.loop-process.invariant
    ∙ ap (λ (family : Family). map (first_family c.args.config.now) (range_with_len 0 c.loop-process.process) ++ family ∷ []) c.in_ok-reserve.ensures
    ∙ sym (map-range_with_len_more (first_family c.args.config.now) 0 c.loop-process.process c.loop-process.process (omega arith))
