use Rattle.dk_repeat_search.proofs.Names.{◌≡◌, ◌∙◌, ap, Workload, names_of, found_text, repeats}
use Rattle.dk_repeat_search.proofs.Told.{repeats-of}
use Rattle.dk_repeat_search.proofs.report.find_repeats.Goals as goal

pub returns : goal.returns
returns c =
    let w = c.args.loaded in
    let f = c.in_ok-found.found in
    let ticks = c.args.ticks in
    let config : c.loaded.inside.config ≡ w.config = ap (λ (v : Workload). v.config) c.loaded.view_is in
    let text = c.new.ensures ∙ c.in_ok-text.ensures.text
    ∙ ap (λ ns. found_text ns ticks f.run f.counts c.as_slice-2.result.now) (c.as_slice.ensures.value ∙ c.in_ok-names.ensures ∙ ap names_of config)
    ∙ ap (λ own. found_text (names_of w.config) ticks f.run f.counts own) c.as_slice-2.ensures.value in
    repeats-of w ticks c.new.result c.repeats_whole.result f c.told_law.ensures.run c.told_law.ensures.own c.cycles_law.ensures c.own_cycles_law.ensures c.requires
    c.in_ok-found.ensures.found c.in_ok-found.ensures.last c.in_ok-found.ensures.none c.in_ok-found.ensures.no_cycle text (c.repeats_whole.ensures ∙ ap repeats c.run_told.ensures)
