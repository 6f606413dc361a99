use Rattle.dk_repeat_search.proofs.Names.{◌≡◌, ◌+◌, ◌<◌, ◌∙◌, length, get_or, sym, ap, subst, arith, get_or_default, OwnSearch, WaitWatch, waits_told, AreTold}
use Rattle.dk_repeat_search.proofs.Watching.{no_watch, told-more}
use Rattle.dk_repeat_search.proofs.always.all_waits.Goals as goal

pub loop-process-preserved : goal.loop-process-preserved
loop-process-preserved c =
    let own = c.args.own.now in
    let watches = c.args.watches.now in
    let n = c.loop-process.process in
    let item = c.index-own-process.result in
    let same : length own ≡ length watches = c.requires in
    let less : n < length own = omega (arith, c.loop-process-test.true) in
    let wide : n < length watches = omega (arith, less, same) in
    subst (AreTold own watches (n + 1)) (sym c.in_ok-push.ensures.items)
    (told-more own watches n c.loop-process.waits.items c.waits_told.result c.loop-process.invariant (λ s w.
    c.waits_told.ensures
    ∙ ap (λ (o : OwnSearch). waits_told o (get_or watches n no_watch)) (c.index-own-process.is ∙ get_or_default own n item s less)
    ∙ ap (λ (v : WaitWatch). waits_told (get_or own n s) v) (get_or_default watches n no_watch w wide)))
