use Rattle.dk_show.proofs.Names.{ℕ, ◌≡◌, ◌+◌, None, Asks, MAX_CONFIG_BYTES, MissesAfter, chain_at, handed_after, handed_out, List, sym, subst, IfSome, MAX_LEDGER_BYTES, Request, IsAllWrong, IsOfShown, IsOfRequest, IsOfHeld, IsOfLoaded, IsOfRepeats, IsOfWindows, ComesTo}
use Rattle.dk_show.specs.declared.refusal.Refusal.TheVariants as why
use Rattle.dk_show.specs.Asking.{Misses, handed_for}
use Rattle.dk_show.specs.Output.{IsOfNamed}
use Rattle.dk_show.proofs.making.work_for.Goals as goal

pub returns-in-Picture-clause-comes : goal.returns-in-Picture-clause-comes
returns-in-Picture-clause-comes g c =
    let files = (g.D.Depot.seen c.args.depot.now).files in
    let result = c.picture_work.result in
    let range = c.in-Picture.range in
    let file = c.in-Picture.file in
    let named = subst (λ (name : List ℕ). IfSome files (λ at. ComesTo (IsOfShown file at range name) result)) c.as_str.ensures c.picture_work.ensures.comes in
    subst (λ (r : Request). IfSome files (λ at. ComesTo (IsOfRequest r at) result)) (sym c.in-Picture.is) named

pub returns-in-Windows-clause-comes : goal.returns-in-Windows-clause-comes
returns-in-Windows-clause-comes g c =
    let files = (g.D.Depot.seen c.args.depot.now).files in
    let result = c.windows_work.result in
    let form = c.in-Windows.form in
    let named = subst (λ (name : List ℕ). IfSome files (λ at. ComesTo (IsOfNamed at name MAX_LEDGER_BYTES why.LongLedger (IsOfWindows form)) result)) c.as_str-in-Windows.ensures c.windows_work.ensures.comes in
    subst (λ (r : Request). IfSome files (λ at. ComesTo (IsOfRequest r at) result)) (sym c.in-Windows.is) named

pub returns-in-Holds-clause-comes : goal.returns-in-Holds-clause-comes
returns-in-Holds-clause-comes g c =
    let files = (g.D.Depot.seen c.args.depot.now).files in
    let result = c.holds_work.result in
    let file = c.in-Holds.file in
    let named = subst (λ (name : List ℕ). IfSome files (λ at. ComesTo (IsOfHeld file at name) result)) c.as_str-in-Holds.ensures c.holds_work.ensures.comes in
    subst (λ (r : Request). IfSome files (λ at. ComesTo (IsOfRequest r at) result)) (sym c.in-Holds.is) named

pub returns-in-Chain-clause-comes : goal.returns-in-Chain-clause-comes
returns-in-Chain-clause-comes g c =
    let files = (g.D.Depot.seen c.args.depot.now).files in
    subst (λ (r : Request). IfSome files (λ at. ComesTo (IsOfRequest r at) c.chain_work.result)) (sym c.in-Chain.is) c.chain_work.ensures.comes

pub returns-in-Repeats-clause-comes : goal.returns-in-Repeats-clause-comes
returns-in-Repeats-clause-comes g c =
    let files = (g.D.Depot.seen c.args.depot.now).files in
    let result = c.repeats_work.result in
    let ticks = c.in-Repeats.ticks in
    let named = subst (λ (name : List ℕ). IfSome files (λ at. ComesTo (IsOfLoaded at name (IsOfRepeats ticks)) result)) c.as_str-in-Repeats.ensures c.repeats_work.ensures.comes in
    subst (λ (r : Request). IfSome files (λ at. ComesTo (IsOfRequest r at) result)) (sym c.in-Repeats.is) named

pub returns-in-Faults-clause-comes : goal.returns-in-Faults-clause-comes
returns-in-Faults-clause-comes g c =
    let files = (g.D.Depot.seen c.args.depot.now).files in
    let result = c.faults_work.result in
    let named = subst (λ (name : List ℕ). IfSome files (λ at. ComesTo (IsAllWrong at name) result)) c.as_str-in-Faults.ensures c.faults_work.ensures.comes in
    subst (λ (r : Request). IfSome files (λ at. ComesTo (IsOfRequest r at) result)) (sym c.in-Faults.is) named

pub returns-in-Tell-clause-comes : goal.returns-in-Tell-clause-comes
returns-in-Tell-clause-comes g c =
    let files = (g.D.Depot.seen c.args.depot.now).files in
    let result = c.telling_work.result in
    subst (λ (r : Request). IfSome files (λ at. ComesTo (IsOfRequest r at) result)) (sym c.in-Tell.is) c.telling_work.ensures.comes

pub returns-in-Reactions-clause-asks : goal.returns-in-Reactions-clause-asks
returns-in-Reactions-clause-asks g c =
    let files = (g.D.Depot.seen c.args.depot.now).files in
    let old = g.D.Depot.seen c.args.depot.now in
    let new = g.D.Depot.seen c.reactions_work.new.depot in
    let result = c.reactions_work.result in
    let chain = c.in-Reactions.chain in
    let named = subst (λ (name : List ℕ). Asks files
    (λ at. handed_out MAX_CONFIG_BYTES (at chain.file) + handed_after (λ _. handed_out MAX_LEDGER_BYTES (at name)) (chain_at at chain))
    (λ at. MissesAfter (λ _. at name ≡ None) (chain_at at chain)) old new result) c.as_str-in-Reactions.ensures c.reactions_work.ensures.asks in
    subst (λ (r : Request). Asks files (handed_for r) (Misses r) old new result) (sym c.in-Reactions.is) named
