use Rattle.dk_show.proofs.Names.{ℕ, ◌≡◌, ◌∙◌, List, ap, subst, IfSome, Ok, None, Option, MAX_CONFIG_BYTES, MAX_PROFILE_BYTES, Files, IsOfNamed, Asks, handed_out, certified_at, IsOfProfile, ComesTo}
use Rattle.dk_show.specs.declared.refusal.Refusal.TheVariants as why
use Rattle.dk_show.proofs.Asks.{asks_after}
use Rattle.dk_show.proofs.Coming.{of_something}
use Rattle.dk_show.proofs.replays.replay_work.Goals as goal

pub returns-clause-comes : goal.returns-clause-comes
returns-clause-comes g c =
    let files = (g.D.Depot.seen c.args.depot.now).files in
    let r = c.args.request.now in
    let x = c.in_ok-config.config in
    let found = subst (λ (name : List ℕ). IfSome files (λ at. certified_at (at name) ≡ Ok x)) c.as_str.ensures c.in_ok-config.ensures.loads in
    of_something files (λ at. certified_at (at r.file)) (λ at k. IsOfNamed at r.profile MAX_PROFILE_BYTES why.LongProfile (IsOfProfile k r.profile r.name)) x
    c.replay_at.result found
    (subst (λ (fs : Option Files). IfSome fs (λ at. ComesTo (IsOfNamed at r.profile MAX_PROFILE_BYTES why.LongProfile (IsOfProfile x r.profile r.name)) c.replay_at.result))
    c.in_ok-config.ensures.reads.same c.replay_at.ensures.comes)

pub returns-clause-asks : goal.returns-clause-asks
returns-clause-asks g c =
    let files = (g.D.Depot.seen c.args.depot.now).files in
    let r = c.args.request.now in
    let x = c.in_ok-config.config in
    let found = subst (λ (name : List ℕ). IfSome files (λ at. certified_at (at name) ≡ Ok x)) c.as_str.ensures c.in_ok-config.ensures.loads in
    let first = subst (λ (name : List ℕ). Asks files (λ at. handed_out MAX_CONFIG_BYTES (at name)) (λ at. at name ≡ None)
    (g.D.Depot.seen c.args.depot.now) (g.D.Depot.seen c.certified_at.new.depot) (Ok x)) c.as_str.ensures c.in_ok-config.ensures.asks in
    asks_after (λ at. certified_at (at r.file)) (λ at. handed_out MAX_CONFIG_BYTES (at r.file)) (λ at. at r.file ≡ None)
    (λ at _. handed_out MAX_PROFILE_BYTES (at r.profile)) (λ at _. at r.profile ≡ None) (g.D.Depot.seen c.args.depot.now) (g.D.Depot.seen c.certified_at.new.depot)
    (g.D.Depot.seen c.replay_at.new.depot) c.replay_at.result files x x first found (λ at missing. ap certified_at missing)
    (subst (λ (fs : Option Files). Asks fs (λ at. handed_out MAX_PROFILE_BYTES (at r.profile)) (λ at. at r.profile ≡ None)
    (g.D.Depot.seen c.certified_at.new.depot) (g.D.Depot.seen c.replay_at.new.depot) c.replay_at.result)
    c.in_ok-config.ensures.reads.same c.replay_at.ensures.asks)
