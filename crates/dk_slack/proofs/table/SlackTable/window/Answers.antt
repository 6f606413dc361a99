use Rattle.dk_slack.proofs.Names.{◌≡◌, ◌<◌, ◌%◌, ◌^◌, ◌∙◌, ℕ, List, length, set, ap, arith, length-set, Slack, AreCounters, unclaimed_by, run_of_slower}
use Rattle.dk_slack.proofs.Running.{length-unclaimed, marked, put}
use Rattle.dk_slack.proofs.table.SlackTable.window.Goals as goal

-- the level has a mark
marked-level : (t : Slack) (nobodys level : ℕ) (counters marks spares : List ℕ) → AreCounters counters marks spares
    → unclaimed_by nobodys counters marks ≡ t.unclaimed → level < length t.unclaimed → level < length marks
marked-level t nobodys level counters marks spares are is known =
    let same : length counters ≡ length marks = omega (arith, are.counted, are.marked) in
    omega (arith, known, same, ap length is, length-unclaimed nobodys counters marks same)

pub bounds-deref_mut-level : goal.bounds-deref_mut-level
bounds-deref_mut-level c =
    let t = c.self.inside in
    let inside = marked-level c.args.self.now t.nobodys c.args.level t.counters.items t.marks.items t.spares.items c.self.invariant.1
    (ap (λ (v : Slack). v.unclaimed) c.self.view_is) c.requires in
    omega (arith, inside, ap length c.deref_mut.ensures.value)

pub invariant_of-self : goal.invariant_of-self
invariant_of-self c =
    let marks = c.self.inside.marks.items in (
      c.self.invariant.0,
      record {
        counted = c.self.invariant.1.counted;
        marked = ap length (put marks c.deref_mut.result.now c.args.level c.run_of_slower.result c.deref_mut.ensures.value)
            ∙ length-set marks c.args.level c.run_of_slower.result ∙ c.self.invariant.1.marked;
      },
      λ k before. absurd (omega arith),
    )

pub returns : goal.returns
returns c =
    let t = c.self.inside in
    let inside : c.args.level < length t.counters.items =
    omega (
      arith,
      c.self.invariant.1.counted,
      c.self.invariant.1.marked,
      marked-level c.args.self.now t.nobodys c.args.level t.counters.items t.marks.items t.spares.items c.self.invariant.1
          (ap (λ (v : Slack). v.unclaimed) c.self.view_is) c.requires,
    ) in
    let run = c.run_of_slower.ensures ∙ ap (λ ns. run_of_slower c.args.level t.nobodys ns % 2 ^ 32) c.deref.ensures.0 in
    let new = ap (unclaimed_by t.nobodys t.counters.items) (put t.marks.items c.deref_mut.result.now c.args.level c.run_of_slower.result c.deref_mut.ensures.value)
    ∙ marked t.nobodys c.args.level c.run_of_slower.result t.counters.items t.marks.items run inside in
    rw new (ap (λ (v : Slack). record v { unclaimed = set v.unclaimed c.args.level 0 }) c.self.view_is)
