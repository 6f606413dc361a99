use Rattle.dk_dispatch.proofs.Names.{◌≡◌, ◌+◌, ◌-◌, ◌∙◌, ◌++◌, ap, sym, subst, arith, List, ThreadRow, few-children, Slack, AreKnown, CanAllSit, given, given_steps, quieted, rows_from, rows_in, rows-next, given-append, quieted-append, steps-append, known-split, sit-split}
use Rattle.dk_dispatch.proofs.opening.begin_threads.Goals as goal

pub begin_process-requires-clause-few : goal.begin_process-requires-clause-few
begin_process-requires-clause-few g c = few-children c.args.threads.now c.loop-process.process c.rows_are_in_order.ensures

pub begin_process-requires-clause-known : goal.begin_process-requires-clause-known
begin_process-requires-clause-known g c =
    let t = c.args.threads.now in
    let p = c.loop-process.process in
    let here = rows-next t p c.args.processes c.loop-process-test.true in
    (known-split c.args.loans.now c.args.windows.now (rows_in t p) _ (subst (AreKnown c.args.loans.now c.args.windows.now) here c.loop-process.invariant.known)).0

pub begin_process-requires-clause-seats : goal.begin_process-requires-clause-seats
begin_process-requires-clause-seats g c =
    let t = c.args.threads.now in
    let p = c.loop-process.process in
    let here = rows-next t p c.args.processes c.loop-process-test.true in
    (sit-split c.args.loans.now c.args.windows.now (rows_in t p) _ c.loop-process.jobs
    (subst (λ left. CanAllSit c.args.loans.now c.args.windows.now left c.loop-process.jobs) here c.loop-process.invariant.seats)).0

pub loop-process-preserved : goal.loop-process-preserved
loop-process-preserved g c =
    let t = c.args.threads.now in
    let p = c.loop-process.process in
    let b = c.args.loans.now in
    let w = c.args.windows.now in
    let was = c.loop-process.invariant in
    let rows : List ThreadRow = rows_in t p in
    let next : List ThreadRow = rows_from t (p + 1) (c.args.processes - (p + 1)) in
    let here : rows_from t p (c.args.processes - p) ≡ rows ++ next = rows-next t p c.args.processes c.loop-process-test.true in
    let jobs = c.begin_process.ensures.jobs in
    let slack = c.begin_process.ensures.slack in
    let spent = c.begin_process.ensures.steps in
    let left : given_steps b w next c.begin_process.new.slack.wishes ≡ given_steps b w next (quieted w rows c.loop-process.slack.wishes) =
    ap (λ (s : Slack). given_steps b w next s.wishes) slack in
    let before : given_steps b w (rows_from t p (c.args.processes - p)) c.loop-process.slack.wishes
    ≡ given_steps b w rows c.loop-process.slack.wishes + given_steps b w next (quieted w rows c.loop-process.slack.wishes) =
    ap (λ rows. given_steps b w rows c.loop-process.slack.wishes) here ∙ steps-append b w rows next c.loop-process.slack.wishes in
    let steps = was.steps in
    record {
      known = (known-split b w rows next (subst (AreKnown b w) here was.known)).1;
      seats = subst (CanAllSit b w next) (sym jobs) (sit-split b w rows next c.loop-process.jobs (subst (λ left. CanAllSit b w left c.loop-process.jobs) here was.seats)).1;
      jobs = ap (given b w next) jobs ∙ sym (given-append b w rows next c.loop-process.jobs) ∙ ap (λ rows. given b w rows c.loop-process.jobs) (sym here) ∙ was.jobs;
      slack = ap (λ (s : Slack). record s { wishes = quieted w next s.wishes }) slack
          ∙ ap (λ wishes. record c.loop-process.slack { wishes = wishes }) (sym (quieted-append b w rows next c.loop-process.slack.wishes))
          ∙ ap (λ rows. record c.loop-process.slack { wishes = quieted w rows c.loop-process.slack.wishes }) (sym here) ∙ was.slack;
      steps = omega (arith, spent, left, before, steps);
    }
