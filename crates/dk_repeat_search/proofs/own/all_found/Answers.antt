use Rattle.dk_repeat_search.proofs.Names.{◌≡◌, ◌∙◌, List, length, get_or, map, ap, sym, subst, arith, All, All-push, Running, IsOwnSearch, MainShare, share_at, IsOneFound, own_told, process_of, told_of}
use Rattle.dk_repeat_report.specs.Lines as lines
use Rattle.dk_repeat_search.proofs.Owning.{found-more, many-shares, share-there, told-all-of, told-more-of}
use Rattle.dk_repeat_search.proofs.own.all_found.Goals as goal

pub bounds-shares-search : goal.bounds-shares-search
bounds-shares-search g c =
    let k = c.args.kernel.now in
    let item = c.search-item.result in
    let is : IsOwnSearch k.config k.programs c.args.ticks item =
    subst (IsOwnSearch k.config k.programs c.args.ticks) (sym c.search-item.is) (c.requires.own.all c.loop-search.search-index item c.loop-search-test.true) in
    let known = is.known in
    let many : length c.args.shares.now ≡ length k.config.processes = ap length c.requires.shares ∙ many-shares k.config in
    omega (arith, known, many)

pub found_of-requires-clause-share : goal.found_of-requires-clause-share
found_of-requires-clause-share g c =
    let k = c.args.kernel.now in
    let item = c.search-item.result in
    let none : MainShare = record { process = 0; period = 0; budget = 0 } in
    let is : IsOwnSearch k.config k.programs c.args.ticks item =
    subst (IsOwnSearch k.config k.programs c.args.ticks) (sym c.search-item.is) (c.requires.own.all c.loop-search.search-index item c.loop-search-test.true) in
    ap (λ (shares : List MainShare). get_or shares item.process none) c.requires.shares ∙ share-there k.config item.process none is.known
    ∙ ap (λ (r : Running). share_at r.config item.process) (sym c.loop-search.invariant.same)

pub loop-search-preserved : goal.loop-search-preserved
loop-search-preserved g c =
    let k = c.args.kernel.now in
    let all = c.loop-search.all.items in
    let found = c.in_ok-found_of.field-0 in
    let item = c.search-item.result in
    let i = c.loop-search.search-index in
    let holds = IsOneFound k.config k.programs in
    let is : holds found =
    subst (λ (r : Running). IsOneFound r.config r.programs found) c.loop-search.invariant.same c.in_ok-found_of.ensures.found in
    let low = c.loop-search.invariant.low in
    let high = c.loop-search.invariant.high in
    let lower = c.in_ok-found_of.ensures.low in
    let higher = c.in_ok-found_of.ensures.ticks in
    record {
      all = subst (All holds) (sym c.in_ok-push.ensures.items) (All-push holds all found c.loop-search.invariant.all is);
      processes = ap (map lines.process_of) c.in_ok-push.ensures.items
          ∙ found-more all found c.args.own.now i item c.loop-search-test.true c.loop-search.invariant.processes (c.in_ok-found_of.ensures.process ∙ ap process_of c.search-item.is);
      told = ap (map told_of) c.in_ok-push.ensures.items
          ∙ told-more-of all found c.args.own.now i item c.loop-search-test.true c.loop-search.invariant.told (c.in_ok-found_of.ensures.told ∙ ap own_told c.search-item.is);
      same = c.in_ok-found_of.ensures.same ∙ ap (λ (r : Running). record r { ticks = c.found_of.new.kernel.ticks }) c.loop-search.invariant.same;
      low = omega (arith, low, lower);
      high = omega (arith, high, higher);
    }

pub returns-clause-told : goal.returns-clause-told
returns-clause-told g c = told-all-of c.loop-search.all.items c.args.own.now c.loop-search.search-index c.loop-search.invariant.told c.loop-search-test.false
