use Rattle.dk_show.proofs.Names.{ℕ, ◌≡◌, List, ap, subst, IfSome, Ok, None, Option, MAX_CONFIG_BYTES, Files, Asks, handed_out, Loads, certified_at, asked_of}
use Rattle.dk_show.proofs.Asks.{asks_after}
use Rattle.dk_show.proofs.Wanting.{loads_needs}
use Rattle.dk_show.proofs.checks.asked_at.Goals as goal

pub returns-clause-loads : goal.returns-clause-loads
returns-clause-loads g c =
    let files = (g.D.Depot.seen c.args.depot.now).files in
    let r = c.args.request.now in
    let x = c.in_ok-config.config in
    let found = subst (λ (name : List ℕ). IfSome files (λ at. certified_at (at name) ≡ Ok x)) c.as_str.ensures c.in_ok-config.ensures.loads in
    let loads = subst (λ (name : List ℕ). IfSome (g.D.Depot.seen c.certified_at.new.depot).files (λ at. Loads c.with_needs.result (asked_of x (at name))))
    c.as_str-2.ensures c.with_needs.ensures.loads in
    loads_needs files r.file r.needs x c.with_needs.result found
    (subst (λ (fs : Option Files). IfSome fs (λ at. Loads c.with_needs.result (asked_of x (at r.needs)))) c.in_ok-config.ensures.reads.same loads)

pub returns-clause-asks : goal.returns-clause-asks
returns-clause-asks g c =
    let files = (g.D.Depot.seen c.args.depot.now).files in
    let r = c.args.request.now in
    let x = c.in_ok-config.config in
    let found = subst (λ (name : List ℕ). IfSome files (λ at. certified_at (at name) ≡ Ok x)) c.as_str.ensures c.in_ok-config.ensures.loads in
    let first = subst (λ (name : List ℕ). Asks files (λ at. handed_out MAX_CONFIG_BYTES (at name)) (λ at. at name ≡ None)
    (g.D.Depot.seen c.args.depot.now) (g.D.Depot.seen c.certified_at.new.depot) (Ok x)) c.as_str.ensures c.in_ok-config.ensures.asks in
    let next = subst (λ (name : List ℕ). Asks (g.D.Depot.seen c.certified_at.new.depot).files (λ at. handed_out MAX_CONFIG_BYTES (at name)) (λ at. at name ≡ None)
    (g.D.Depot.seen c.certified_at.new.depot) (g.D.Depot.seen c.with_needs.new.depot) c.with_needs.result) c.as_str-2.ensures c.with_needs.ensures.asks in
    asks_after (λ at. certified_at (at r.file)) (λ at. handed_out MAX_CONFIG_BYTES (at r.file)) (λ at. at r.file ≡ None)
    (λ at _. handed_out MAX_CONFIG_BYTES (at r.needs)) (λ at _. at r.needs ≡ None) (g.D.Depot.seen c.args.depot.now) (g.D.Depot.seen c.certified_at.new.depot)
    (g.D.Depot.seen c.with_needs.new.depot) c.with_needs.result files x x first found (λ at missing. ap certified_at missing)
    (subst (λ (fs : Option Files). Asks fs (λ at. handed_out MAX_CONFIG_BYTES (at r.needs)) (λ at. at r.needs ≡ None)
    (g.D.Depot.seen c.certified_at.new.depot) (g.D.Depot.seen c.with_needs.new.depot) c.with_needs.result)
    c.in_ok-config.ensures.reads.same next)
