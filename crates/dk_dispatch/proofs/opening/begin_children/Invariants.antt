use Rattle.dk_dispatch.proofs.Names.{◌≡◌, ◌+◌, drop, children_at, AreKnown, CanAllSit, given, given_steps, quieted}
use Rattle.dk_dispatch.proofs.opening.begin_children.Given as goal

abbrev pub invariant-loop-index : goal.invariant-loop-index
invariant-loop-index g l =
    let rows = children_at l.threads l.process in
    let left = drop l.index rows in
    record {
      known : AreKnown l.loans l.windows left;
      seats : CanAllSit l.loans l.windows left l.jobs;
      jobs : given l.loans l.windows left l.jobs ≡ given l.loans l.windows rows l.fn.jobs;
      slack : record l.slack { wishes = quieted l.windows left l.slack.wishes } ≡ record l.fn.slack { wishes = quieted l.windows rows l.fn.slack.wishes };
      steps : l.steps + given_steps l.loans l.windows left l.slack.wishes ≡ l.fn.steps + given_steps l.loans l.windows rows l.fn.slack.wishes;
    }
