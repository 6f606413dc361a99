use Rattle.dk_repeat_search.proofs.Names.{ℕ, ◌≡◌, ◌∙◌, List, ap, subst, Configuration, Workload, IsRunSearch, HasLookedAtRun}
use Rattle.dk_repeat_search.proofs.search.Searches.of.Goals as goal

pub returns-clause-is : goal.returns-clause-is
returns-clause-is c =
    let w = c.args.loaded.now in
    let config : c.loaded.inside.config ≡ w.config = ap (λ (v : Workload). v.config) c.loaded.view_is in
    let run = subst (λ (z : Configuration). (programs : List (List ℕ)) → IsRunSearch z programs 0 c.new.result) config c.new.ensures.run in
    record {
      run = run w.programs;
      own = c.in_ok-own_searches.ensures.is;
      each = c.requires.programs;
      programs = c.in_ok-programs_of.ensures ∙ c.as_slice.ensures.value ∙ ap (λ (v : Workload). v.programs) c.loaded.view_is;
    }

pub returns-clause-looked : goal.returns-clause-looked
returns-clause-looked c =
    let w = c.args.loaded.now in
    let config : c.loaded.inside.config ≡ w.config = ap (λ (v : Workload). v.config) c.loaded.view_is in
    let run = subst (λ (z : Configuration). (programs : List (List ℕ)) → HasLookedAtRun z programs 0 0 c.new.result) config c.new.ensures.looked in
    record { run = run w.programs; own = c.in_ok-own_searches.ensures.looked }
