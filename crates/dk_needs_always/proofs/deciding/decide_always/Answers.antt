use Rattle.std.proofs.Common.{◌≡◌, ◌∙◌, map, ap, sym, subst}
use Rattle.std.proofs.lemmas.Result.{IfOk-weaker}
use Rattle.std.proofs.lemmas.Simd.{map-map}
use Rattle.dk_config.specs.Configuration.{Configuration}
use Rattle.dk_cycle.specs.Told.{IsRunTold}
use Rattle.dk_loader.specs.Workload.{Workload}
use Rattle.dk_needs_always.specs.Asking.{asked_row}
use Rattle.dk_needs_always.specs.Deciding.{AreDecided, AreKept, AreNotKept}
use Rattle.dk_needs_always.specs.Telling.{decided_row, kept_row}
use Rattle.dk_needs_always.proofs.deciding.decide_always.Goals as goal

pub are_kept-requires-clause-told : goal.are_kept-requires-clause-told
are_kept-requires-clause-told c =
    let always = c.in_ok-always.always in
    (_, subst (λ (w : Workload). IsRunTold w.config w.programs _ always.run) (sym c.in_ok-pass.ensures.same) c.in_ok-always.ensures.run)

pub returns : goal.returns
returns c =
    let w = c.args.loaded in
    let needs = c.args.needs.now.rows in
    let rows = c.args.rows.now in
    let always = c.in_ok-always.always in
    let config : c.loaded.inside.config ≡ w.config = ap (λ (v : Workload). v.config) c.loaded.view_is in
    let asked =
    c.as_slice.ensures.value ∙ c.in_ok-asked.ensures ∙ ap (λ (z : Configuration). map (asked_row z needs) rows) config in
    let decided = c.in_ok-decided.ensures ∙ ap (map (decided_row always)) asked ∙ map-map (decided_row always) (asked_row w.config needs) rows in
    let kept = c.in_ok-kept.kept in
    IfOk-weaker c.kept_rows.result (λ found. found.items ≡ map (kept_row kept) c.as_slice-2.result.now) (λ found. AreDecided w needs rows found.items)
    (λ found is. record {
      always = always;
      is = c.in_ok-always.ensures;
      kept = kept;
      keeps = λ yes. subst (λ (v : Workload). AreKept v needs) c.in_ok-pass.ensures.same (c.in_ok-kept.ensures.kept yes);
      lost = λ no asks. subst (λ (v : Workload). AreNotKept v needs always.run) c.in_ok-pass.ensures.same (c.in_ok-kept.ensures.lost no asks);
      whole = is ∙ ap (map (kept_row kept)) (c.as_slice-2.ensures.value ∙ decided);
    }) c.kept_rows.ensures
