use Rattle.dk_slack.proofs.Names.{◌≡◌, ◌<◌, ◌+◌, ◌-◌, ◌%◌, ◌^◌, ◌∙◌, ltb, cond, ℕ, length, get_or, drop, refl, ap, sym, arith, add-one, sum, drop_all, sum_by-drop_more, Source, since, run_of_slower, unclaimed_by}
use Rattle.dk_slack.proofs.Counts.{source_from, source_named, source-here, source-end, named-none, named-first}
use Rattle.dk_slack.proofs.Running.{since-wraps, unclaimed-at}
use Rattle.dk_slack.proofs.unclaimed.source.Goals as goal

pub loop-level-init : goal.loop-level-init
loop-level-init c =
    let spares = c.args.spares.now in
    let us = unclaimed_by c.args.nobodys c.args.counters.now c.args.marks.now in
    let none = ap sum (drop_all (length spares) c.args.counters.now (omega arith)) in
    record {
      run = omega (arith, none);
      first = named-none (length spares) ∙ sym (source-end us spares (length spares) (omega arith));
    }

pub loop-level-preserved : goal.loop-level-preserved
loop-level-preserved c =
    let spares = c.args.spares.now in
    let counters = c.args.counters.now in
    let us = unclaimed_by c.args.nobodys counters c.args.marks.now in
    let level : ℕ = c.loop-level.level - 1 in
    let behind : c.loop-level.level ≡ level + 1 = omega arith in
    let inside : level < length spares = omega arith in
    let more = sum_by-drop_more (λ n. n) counters level 0 (omega arith) in
    let run : c.loop-level.run ≡ (c.args.nobodys + sum (drop (level + 1) counters)) % 2 ^ 32 =
    c.loop-level.invariant.run ∙ ap (λ n. (c.args.nobodys + sum (drop n counters)) % 2 ^ 32) behind in
    let unclaimed : c.since.result ≡ get_or us level 0 =
    c.since.ensures
    ∙ ap (since (get_or c.args.marks.now level 0)) (run ∙ ap (λ n. (c.args.nobodys + sum (drop n counters)) % 2 ^ 32) (add-one level))
    ∙ since-wraps (get_or c.args.marks.now level 0) (run_of_slower level c.args.nobodys counters)
    ∙ sym (unclaimed-at c.args.nobodys level counters c.args.marks.now (omega arith) (omega arith)) in
    let slower : source_named c.loop-level.first (length spares) ≡ source_from us spares (level + 1) =
    c.loop-level.invariant.first ∙ ap (source_from us spares) behind in
    record {
      run = ap (λ n. (n + get_or counters level 0) % 2 ^ 32) run ∙ omega (arith, more);
      first = ap (λ n. source_named n (length spares)) c.first_at-first.ensures
          ∙ named-first (ltb c.since.result (get_or spares level 0)) c.loop-level.first level (length spares) inside
          ∙ ap (λ n. cond (ltb n (get_or spares level 0)) (source_named c.loop-level.first (length spares)) (Source.Reclaimed level)) unclaimed
          ∙ ap (λ s. cond (ltb (get_or us level 0) (get_or spares level 0)) s (Source.Reclaimed level)) slower
          ∙ source-here us spares level inside;
    }

pub returns : goal.returns
returns c =
    let spares = c.args.spares.now in
    let us = unclaimed_by c.args.nobodys c.args.counters.now c.args.marks.now in
    let none : c.loop-level.level ≡ 0 = omega arith in
    let all : length spares - 0 ≡ length spares = omega arith in
    c.reclaimed.ensures ∙ c.loop-level.invariant.first ∙ ap (source_from us spares) none ∙ rw all refl
