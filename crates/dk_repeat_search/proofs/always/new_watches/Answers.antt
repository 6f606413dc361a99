use Rattle.dk_repeat_search.proofs.Names.{◌≡◌, ◌∙◌, ℕ, List, [], ◌∷◌, ◌++◌, map, ap, sym, subst, All, range_with_len, map-append, All-push, Configuration, Workload, IsWaitWatch, watched_process}
use Rattle.dk_repeat_search.proofs.Places.{range-more}
use Rattle.dk_repeat_search.proofs.always.new_watches.Goals as goal

pub loop-process-preserved : goal.loop-process-preserved
loop-process-preserved c =
    let w = c.args.loaded.now in
    let watches = c.loop-process.watches.items in
    let n = c.loop-process.process in
    let new = c.new.result in
    let all = IsWaitWatch w.config w.programs 0 in
    let config : c.loaded.inside.config ≡ w.config = ap (λ (v : Workload). v.config) c.loaded.view_is in
    let is : all new = subst (λ (z : Configuration). IsWaitWatch z w.programs 0 new) config (c.new.ensures.watch w.programs) in
    record {
      all = subst (All all) (sym c.in_ok-push.ensures.items) (All-push all watches new c.loop-process.invariant.all is);
      processes = ap (map watched_process) c.in_ok-push.ensures.items ∙ map-append watched_process watches (new ∷ [])
          ∙ ap (λ (ms : List ℕ). ms ++ watched_process new ∷ []) c.loop-process.invariant.processes
          ∙ ap (λ (m : ℕ). range_with_len 0 n ++ m ∷ []) c.new.ensures.process
          ∙ sym (range-more n);
    }
