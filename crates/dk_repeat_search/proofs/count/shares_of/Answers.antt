use Rattle.dk_repeat_search.proofs.Names.{◌≡◌, ◌∙◌, [], ◌∷◌, ◌++◌, map, ap, sym, range_with_len, map-append, Configuration, Workload, MainShare, share_at}
use Rattle.dk_repeat_search.proofs.Places.{range-more}
use Rattle.dk_repeat_search.proofs.count.shares_of.Goals as goal

pub loop-process-preserved : goal.loop-process-preserved
loop-process-preserved c =
    let w = c.args.loaded.now in
    let n = c.loop-process.process in
    let config : c.loaded.inside.config ≡ w.config = ap (λ (v : Workload). v.config) c.loaded.view_is in
    c.in_ok-push.ensures.items ∙ ap (λ shares. shares ++ c.share_at.result ∷ []) c.loop-process.invariant
    ∙ ap (λ (m : MainShare). map (share_at w.config) (range_with_len 0 n) ++ m ∷ []) (c.share_at.ensures ∙ ap (λ (z : Configuration). share_at z n) config)
    ∙ sym (map-append (share_at w.config) (range_with_len 0 n) (n ∷ []))
    ∙ ap (map (share_at w.config)) (sym (range-more n))
