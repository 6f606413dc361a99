use Rattle.dk_slack.proofs.Names.{◌≡◌, ◌<◌, ◌+◌, ◌-◌, ◌%◌, ◌^◌, ◌∙◌, ltb, cond, inl, inr, ℕ, length, get_or, drop, refl, ap, sym, arith, add-one, sum, None, cases_lt, le-ltb, lt-ltb, drop_all, sum_by-drop_more, Source, since, run_of_slower, unclaimed_by, counted_for}
use Rattle.dk_slack.proofs.Counts.{source_from, source_named, source-end, named-none, named-first}
use Rattle.dk_slack.proofs.Running.{length-unclaimed, since-wraps, unclaimed-at}
use Rattle.dk_slack.proofs.Lasting.{lasts-hit, lasts-miss}
use Rattle.dk_slack.proofs.unclaimed.foreseen.Goals as goal

pub loop-level-init : goal.loop-level-init
loop-level-init c =
    let spares = c.args.spares.now in
    let us = unclaimed_by c.args.nobodys c.args.counters.now c.args.marks.now in
    let none = ap sum (drop_all (length spares) c.args.counters.now (omega arith)) in
    record {
      run = omega (arith, none);
      first = λ k before. named-none (length spares) ∙ sym (source-end (counted_for k None us) spares (length spares) (omega arith));
    }

pub loop-level-preserved : goal.loop-level-preserved
loop-level-preserved c =
    let spares = c.args.spares.now in
    let counters = c.args.counters.now in
    let us = unclaimed_by c.args.nobodys counters c.args.marks.now in
    let level : ℕ = c.loop-level.level - 1 in
    let behind : c.loop-level.level ≡ level + 1 = omega arith in
    let inside : level < length spares = omega arith in
    let same : length counters ≡ length c.args.marks.now = omega arith in
    let known : level < length us = omega (arith, inside, length-unclaimed c.args.nobodys counters c.args.marks.now same) in
    let more = sum_by-drop_more (λ n. n) counters level 0 (omega arith) in
    let run : c.loop-level.run ≡ (c.args.nobodys + sum (drop (level + 1) counters)) % 2 ^ 32 =
    c.loop-level.invariant.run ∙ ap (λ n. (c.args.nobodys + sum (drop n counters)) % 2 ^ 32) behind in
    let unclaimed : c.since-unclaimed.result ≡ get_or us level 0 =
    c.since-unclaimed.ensures
    ∙ ap (since (get_or c.args.marks.now level 0)) (run ∙ ap (λ n. (c.args.nobodys + sum (drop n counters)) % 2 ^ 32) (add-one level))
    ∙ since-wraps (get_or c.args.marks.now level 0) (run_of_slower level c.args.nobodys counters)
    ∙ sym (unclaimed-at c.args.nobodys level counters c.args.marks.now (omega arith) same) in
    let named = ap (λ n. source_named n (length spares)) c.first_at-first.ensures
    ∙ named-first (ltb c.since-unclaimed.result (get_or spares level 0)) c.loop-level.first level (length spares) inside in
    record {
      run = ap (λ n. (n + get_or counters level 0) % 2 ^ 32) run ∙ omega (arith, more);
      first = λ k before.
          elim (cases_lt c.since-unclaimed.result (get_or spares level 0)) [
            | inl under ↦
                let own = c.ticks_at-ticks.ensures.own under in
                let slower = c.ticks_at-ticks.ensures.slower under in
                named
                ∙ ap (λ b. cond b (source_named c.loop-level.first (length spares)) (Source.Reclaimed level)) (lt-ltb c.since-unclaimed.result (get_or spares level 0) under)
                ∙ c.loop-level.invariant.first k (omega (arith, before, slower))
                ∙ ap (source_from (counted_for k None us) spares) behind
                ∙ sym (lasts-miss us spares level k known inside (omega (arith, before, own, unclaimed)))
            | inr over ↦
                named
                ∙ ap (λ b. cond b (source_named c.loop-level.first (length spares)) (Source.Reclaimed level)) (le-ltb c.since-unclaimed.result (get_or spares level 0) over)
                ∙ sym (lasts-hit us spares level k known inside (omega (arith, over, unclaimed)))
          ];
    }

pub returns : goal.returns
returns c = λ k before.
    let spares = c.args.spares.now in
    let us = unclaimed_by c.args.nobodys c.args.counters.now c.args.marks.now in
    let none : c.loop-level.level ≡ 0 = omega arith in
    let all : length spares - 0 ≡ length spares = omega arith in
    sym (c.reclaimed.ensures ∙ c.loop-level.invariant.first k before ∙ ap (source_from (counted_for k None us) spares) none ∙ rw all refl)
