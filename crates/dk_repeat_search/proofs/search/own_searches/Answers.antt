use Rattle.dk_repeat_search.proofs.Names.{◌≡◌, ◌∙◌, ℕ, List, [], ◌∷◌, ◌++◌, map, ap, sym, subst, All, range_with_len, map-append, All-push, Configuration, Workload, IsOwnSearch, HasLooked, HasLookedBefore, begun, process_of}
use Rattle.dk_repeat_search.proofs.Places.{range-more}
use Rattle.dk_repeat_search.proofs.search.own_searches.Goals as goal

pub loop-process-preserved : goal.loop-process-preserved
loop-process-preserved c =
    let w = c.args.loaded.now in
    let own = c.loop-process.own.items in
    let n = c.loop-process.process in
    let new = c.new-search.result in
    let all = IsOwnSearch w.config w.programs 0 in
    let config : c.loaded.inside.config ≡ w.config = ap (λ (v : Workload). v.config) c.loaded.view_is in
    let is : all new = subst (λ (z : Configuration). IsOwnSearch z w.programs 0 new) config (c.new-search.ensures.own w.programs (sym c.program_of-program.ensures)) in
    let looked : HasLookedBefore (begun w) 0 new = subst (λ (z : Configuration). HasLooked z w.programs 0 new) config (c.new-search.ensures.looked w.programs) in
    record {
      looked = subst (All (HasLookedBefore (begun w) 0)) (sym c.in_ok-push.ensures.items) (All-push (HasLookedBefore (begun w) 0) own new c.loop-process.invariant.looked looked);
      all = subst (All all) (sym c.in_ok-push.ensures.items) (All-push all own new c.loop-process.invariant.all is);
      processes = ap (map process_of) c.in_ok-push.ensures.items ∙ map-append process_of own (new ∷ [])
          ∙ ap (λ (ms : List ℕ). ms ++ process_of new ∷ []) c.loop-process.invariant.processes
          ∙ ap (λ (m : ℕ). range_with_len 0 n ++ m ∷ []) c.new-search.ensures.process
          ∙ sym (range-more n);
    }
