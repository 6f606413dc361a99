use Rattle.dk_repeat_search.proofs.Names.{◌∙◌, length, sym, ap, subst, arith, Workload, Running, shares_of, AreOwn, HaveLooked, IsLoaded, own_told, map, ◌≡◌, ◌+◌, loaded_of}
use Rattle.dk_repeat_search.proofs.Places.{many-own}
use Rattle.dk_repeat_search.proofs.Told.{found-all, knows-last, no-run-cycle, none-was}
use Rattle.dk_repeat_search.proofs.report.found_by.Goals as goal

pub settle-requires-clause-of : goal.settle-requires-clause-of
settle-requires-clause-of g c = c.requires.of ∙ sym (ap loaded_of c.search.ensures.same)

pub count_run-requires-clause-shares : goal.count_run-requires-clause-shares
count_run-requires-clause-shares g c = c.requires.shares ∙ sym (ap (λ (r : Running). shares_of r.config) c.search.ensures.same)

pub all_found-requires-clause-own : goal.all_found-requires-clause-own
all_found-requires-clause-own g c =
    let k = c.search.new.kernel in
    let l = c.count_run.new.kernel in
    let own = c.settle.new.self.own.items in
    subst (AreOwn l.config l.programs c.now-reached.result) (sym c.as_slice.ensures.value)
    (subst (λ (r : Running). AreOwn r.config r.programs c.now-reached.result own) (sym c.in_ok-counts.ensures.same)
    (subst (λ n. AreOwn k.config k.programs n own) (sym c.now-reached.ensures.ticks) c.in_ok-settle.ensures.is.own))

pub all_found-requires-clause-shares : goal.all_found-requires-clause-shares
all_found-requires-clause-shares g c =
    c.requires.shares ∙ sym (ap (λ (r : Running). shares_of r.config) c.search.ensures.same)
    ∙ sym (ap (λ (r : Running). shares_of r.config) c.in_ok-counts.ensures.same)

pub all_found-requires-clause-many : goal.all_found-requires-clause-many
all_found-requires-clause-many g c =
    let k = c.search.new.kernel in
    let many = ap length c.as_slice.ensures.value ∙ many-own k.config k.programs k.ticks c.settle.new.self.own.items c.in_ok-settle.ensures.is.own
    ∙ ap (λ (r : Running). length r.config.processes) c.search.ensures.same ∙ sym (ap (λ (w : Workload). length w.config.processes) c.requires.of) in
    let few = c.requires.pass.loaded.limits.few_processes in
    omega (arith, many, few)

pub returns-clause-found : goal.returns-clause-found
returns-clause-found g c =
    found-all (loaded_of c.args.kernel.now) c.search.new.kernel c.count_run.new.kernel c.search.new.self c.settle.new.self c.in_ok-counts.counts c.in_ok-own.own.items
    (ap loaded_of c.search.ensures.same) c.in_ok-counts.ensures.same c.in_ok-settle.ensures c.in_ok-counts.ensures.counted c.in_ok-own.ensures.found

pub returns-clause-last : goal.returns-clause-last
returns-clause-last g c =
    knows-last (loaded_of c.args.kernel.now) c.search.new.kernel c.args.ticks c.search.new.self c.settle.new.self (ap loaded_of c.search.ensures.same) c.in_ok-settle.ensures
    (λ none. let all = c.in_ok-search.ensures.all none in omega (arith, all, c.requires.begun))

pub search-requires-clause-looked : goal.search-requires-clause-looked
search-requires-clause-looked g c = subst (λ n. HaveLooked c.args.kernel.now n c.args.searches) (sym c.requires.begun) c.requires.looked

pub returns-clause-none : goal.returns-clause-none
returns-clause-none g c =
    let k = c.search.new.kernel in
    let begun = c.requires.begun in
    let high = c.search.ensures.ticks in
    let all : c.args.kernel.now.ticks + c.args.ticks + 1 ≡ c.args.ticks + 1 = omega (arith, begun) in
    none-was c.found_law.ensures.own (loaded_of c.args.kernel.now) k c.args.ticks c.search.new.self c.settle.new.self c.in_ok-own.own.items (ap loaded_of c.search.ensures.same)
    (subst (λ (w : Workload). IsLoaded w) c.requires.of c.requires.pass.loaded) c.in_ok-settle.ensures
    (subst (λ n. HaveLooked k n c.search.new.self) all c.in_ok-search.ensures.looked) (omega (arith, high, begun))
    (c.in_ok-own.ensures.told ∙ ap (map own_told) c.as_slice.ensures.value)

pub returns-clause-no_cycle : goal.returns-clause-no_cycle
returns-clause-no_cycle g c =
    let k = c.search.new.kernel in
    let begun = c.requires.begun in
    let all : c.args.kernel.now.ticks + c.args.ticks + 1 ≡ c.args.ticks + 1 = omega (arith, begun) in
    no-run-cycle c.found_law.ensures.run (loaded_of c.args.kernel.now) k c.args.ticks c.search.new.self c.settle.new.self (ap loaded_of c.search.ensures.same)
    (subst (λ (w : Workload). IsLoaded w) c.requires.of c.requires.pass.loaded) c.in_ok-search.ensures.is c.in_ok-settle.ensures
    (λ none. let ended = c.in_ok-search.ensures.all none in omega (arith, ended, begun))
    (subst (λ n. HaveLooked k n c.search.new.self) all c.in_ok-search.ensures.looked)
