use Rattle.dk_dispatch.proofs.Names.{◌≡◌, ◌+◌, ◌∙◌, ◌∷◌, [], drop, ap, sym, subst, refl, arith, slice_get_past, drop-some, drop-none, drop-next, children_at, Slack, AreKnown, CanAllSit, given, given_steps, quieted, quieted_one}
use Rattle.dk_dispatch.proofs.opening.begin_children.Goals as goal
use Rattle.dk_dispatch.proofs.opening.begin_children.Goals.{in-Some, in_default}

pub begin_row-requires-clause-levels : goal.begin_row-requires-clause-levels
begin_row-requires-clause-levels g c =
    c.requires.levels

pub loop-index-init : goal.loop-index-init
loop-index-init g c =
    record { known = c.requires.known; seats = c.requires.seats; jobs = refl; slack = refl; steps = refl }

pub returns-clause-jobs : goal.returns-clause-jobs
returns-clause-jobs g c =
    let rows = children_at c.args.threads.now c.args.process in
    let end : drop c.loop-index.index rows ≡ [] = drop-none rows c.loop-index.index (slice_get_past rows c.loop-index.index (omega (arith, c.requires.few, c.loop-index-test.false))) in
    sym (ap (λ left. given c.args.loans.now c.args.windows.now left c.loop-index.jobs) end) ∙ c.loop-index.invariant.jobs

pub returns-clause-slack : goal.returns-clause-slack
returns-clause-slack g c =
    let rows = children_at c.args.threads.now c.args.process in
    let end : drop c.loop-index.index rows ≡ [] = drop-none rows c.loop-index.index (slice_get_past rows c.loop-index.index (omega (arith, c.requires.few, c.loop-index-test.false))) in
    sym (ap (λ left. record c.loop-index.slack { wishes = quieted c.args.windows.now left c.loop-index.slack.wishes }) end) ∙ c.loop-index.invariant.slack

pub returns-clause-steps : goal.returns-clause-steps
returns-clause-steps g c =
    let rows = children_at c.args.threads.now c.args.process in
    let end : drop c.loop-index.index rows ≡ [] = drop-none rows c.loop-index.index (slice_get_past rows c.loop-index.index (omega (arith, c.requires.few, c.loop-index-test.false))) in
    let none = ap (λ left. given_steps c.args.loans.now c.args.windows.now left c.loop-index.slack.wishes) end in
    let all = c.loop-index.invariant.steps in
    omega (arith, none, all)

pub begin_row-requires-clause-known : goal.begin_row-requires-clause-known
begin_row-requires-clause-known g c =
    let rows = children_at c.args.threads.now c.args.process in
    let here = drop-some rows c.loop-index.index c.in-Some.row (sym c.child.ensures ∙ c.in-Some.is) in
    (subst (AreKnown c.args.loans.now c.args.windows.now) here c.loop-index.invariant.known).0

pub begin_row-requires-clause-seat : goal.begin_row-requires-clause-seat
begin_row-requires-clause-seat g c =
    let rows = children_at c.args.threads.now c.args.process in
    let here = drop-some rows c.loop-index.index c.in-Some.row (sym c.child.ensures ∙ c.in-Some.is) in
    (subst (λ left. CanAllSit c.args.loans.now c.args.windows.now left c.loop-index.jobs) here c.loop-index.invariant.seats).0

pub loop-index-preserved : goal.loop-index-preserved
loop-index-preserved g c =
    let rows = children_at c.args.threads.now c.args.process in
    let b = c.args.loans.now in
    let w = c.args.windows.now in
    let was = c.loop-index.invariant in
    let next = drop (c.loop-index.index + 1) rows in
    elim c.match-child.branch [
      | in-Some v ↦
          let here : drop c.loop-index.index rows ≡ v.in-Some.row ∷ next = drop-some rows c.loop-index.index v.in-Some.row (sym c.child.ensures ∙ v.in-Some.is) in
          let seats = subst (λ left. CanAllSit b w left c.loop-index.jobs) here was.seats in
          let jobs = v.jobs-is ∙ v.begin_row.ensures.jobs in
          let slack = v.slack-is ∙ v.begin_row.ensures.slack in
          let spent = v.steps-is ∙ v.begin_row.ensures.steps in
          let left : given_steps b w next c.match-child.slack.wishes ≡ given_steps b w next (quieted_one w v.in-Some.row c.loop-index.slack.wishes) =
          ap (λ (s : Slack). given_steps b w next s.wishes) slack in
          let before = ap (λ rows. given_steps b w rows c.loop-index.slack.wishes) here in
          let steps = was.steps in
          record {
            known = (subst (AreKnown b w) here was.known).1;
            seats = subst (CanAllSit b w next) (sym jobs) seats.1;
            jobs = ap (given b w next) jobs ∙ ap (λ rows. given b w rows c.loop-index.jobs) (sym here) ∙ was.jobs;
            slack = ap (λ (s : Slack). record s { wishes = quieted w next s.wishes }) slack
                ∙ ap (λ rows. record c.loop-index.slack { wishes = quieted w rows c.loop-index.slack.wishes }) (sym here) ∙ was.slack;
            steps = omega (arith, spent, left, before, steps);
          }
      | in_default v ↦
          let none = sym c.child.ensures ∙ v.in_default.is in
          let last : drop c.loop-index.index rows ≡ [] = drop-none rows c.loop-index.index none in
          let end : next ≡ [] = drop-next rows c.loop-index.index none in
          let same : drop c.loop-index.index rows ≡ next = last ∙ sym end in
          let left : given_steps b w next c.match-child.slack.wishes ≡ given_steps b w (drop c.loop-index.index rows) c.loop-index.slack.wishes =
          ap (λ (s : Slack). given_steps b w next s.wishes) v.slack-is ∙ ap (λ rows. given_steps b w rows c.loop-index.slack.wishes) (sym same) in
          let spent = v.steps-is in
          let steps = was.steps in
          record {
            known = subst (AreKnown b w) same was.known;
            seats = subst (λ jobs. CanAllSit b w next jobs) (sym v.jobs-is) (subst (λ left. CanAllSit b w left c.loop-index.jobs) same was.seats);
            jobs = ap (given b w next) v.jobs-is ∙ ap (λ rows. given b w rows c.loop-index.jobs) (sym same) ∙ was.jobs;
            slack = ap (λ (s : Slack). record s { wishes = quieted w next s.wishes }) v.slack-is
                ∙ ap (λ rows. record c.loop-index.slack { wishes = quieted w rows c.loop-index.slack.wishes }) (sym same) ∙ was.slack;
            steps = omega (arith, spent, left, steps);
          }
    ]
