use Rattle.dk_repeat_search.proofs.Names.{◌≡◌, ◌+◌, arith, ◌∙◌, List, length, sym, ap, subst, OwnSearch, WaitWatch, Workload, IsLoaded, HaveEnded, HaveLooked, loaded_of, AreTold, RunHasNoneToFind, RunTold}
use Rattle.dk_repeat_search.proofs.Places.{many-own}
use Rattle.dk_repeat_search.proofs.Told.{no-run-cycle}
use Rattle.dk_repeat_search.proofs.Watching.{always-of, many-watches}
use Rattle.dk_repeat_search.proofs.always.told_by.Goals as goal

pub settle-requires-clause-of : goal.settle-requires-clause-of
settle-requires-clause-of g c = c.requires.of ∙ sym (ap loaded_of c.watch.ensures.same)

pub watch-requires-clause-looked : goal.watch-requires-clause-looked
watch-requires-clause-looked g c = subst (λ n. HaveLooked c.args.kernel.now n c.args.watching.searches) (sym c.requires.begun) c.requires.looked

pub all_waits-requires : goal.all_waits-requires
all_waits-requires g c =
    let k = c.watch.new.kernel in
    ap length c.as_slice-own.ensures.value ∙ many-own k.config k.programs k.ticks c.settle.new.self.own.items c.in_ok-settle.ensures.is.own
    ∙ sym (many-watches k.config k.programs k.ticks c.watch.new.self.watches.items c.in_ok-watch.ensures.is.watches) ∙ sym (ap length c.as_slice.ensures.value)

pub returns : goal.returns
returns g c =
    let k = c.watch.new.kernel in
    let s = c.settle.new.self in
    let watches = c.watch.new.self.watches.items in
    let waits = c.in_ok-waits.waits.items in
    let told =
    subst (λ (own : List OwnSearch). AreTold own watches (length own) waits) c.as_slice-own.ensures.value
    (subst (λ (ws : List WaitWatch). AreTold c.as_slice-own.result.now ws (length c.as_slice-own.result.now) waits) c.as_slice.ensures.value c.in_ok-waits.ensures) in
    let reached : c.args.kernel.now.ticks + c.args.ticks ≡ c.args.ticks = omega (arith, c.requires.begun) in
    let ended : HaveEnded c.watch.new.self.searches k.ticks c.args.ticks = subst (λ n. HaveEnded c.watch.new.self.searches k.ticks n) reached c.in_ok-watch.ensures.ended in
    let high = c.watch.ensures.ticks in
    let looked-to : c.args.kernel.now.ticks + c.args.ticks + 1 ≡ c.args.ticks + 1 = omega (arith, c.requires.begun) in
    let both =
    always-of (loaded_of c.args.kernel.now) c.args.ticks k watches c.watch.new.self.searches s c.run_told.result waits c.told_law.ensures.run c.waits_law.ensures
    (ap loaded_of c.watch.ensures.same) (subst (λ (w : Workload). IsLoaded w) c.requires.of c.requires.pass.loaded) c.in_ok-settle.ensures
    (λ none. let all = c.in_ok-watch.ensures.all none in omega (arith, all, c.requires.begun)) ended c.in_ok-watch.ensures.is.watches c.run_told.ensures told c.found_law.ensures.own (omega (arith, high, c.requires.begun)) (subst (λ n. HaveLooked k n c.watch.new.self.searches) looked-to c.in_ok-watch.ensures.looked) in
    let no-cycles =
    no-run-cycle c.found_law.ensures.run (loaded_of c.args.kernel.now) k c.args.ticks c.watch.new.self.searches s (ap loaded_of c.watch.ensures.same)
    (subst (λ (w : Workload). IsLoaded w) c.requires.of c.requires.pass.loaded) c.in_ok-watch.ensures.is.searches c.in_ok-settle.ensures
    (λ none. let all = c.in_ok-watch.ensures.all none in omega (arith, all, c.requires.begun))
    (subst (λ n. HaveLooked k n c.watch.new.self.searches) looked-to c.in_ok-watch.ensures.looked) in
    record {
      run = both.0;
      waits = both.1;
      none = both.2;
      no_cycle = subst (λ (t : RunTold). RunHasNoneToFind (loaded_of c.args.kernel.now) c.args.ticks t.cycle) (sym c.run_told.ensures) no-cycles;
    }
