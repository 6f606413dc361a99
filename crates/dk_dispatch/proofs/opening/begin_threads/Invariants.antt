use Rattle.dk_dispatch.proofs.Names.{◌≡◌, ◌+◌, ◌-◌, AreKnown, CanAllSit, all_rows, given, given_steps, quieted, rows_from}
use Rattle.dk_dispatch.proofs.opening.begin_threads.Given as goal

abbrev pub invariant-loop-process : goal.invariant-loop-process
invariant-loop-process g l =
    let rows = all_rows l.threads in
    let left = rows_from l.threads l.process (l.processes - l.process) in
    record {
      known : AreKnown l.loans l.windows left;
      seats : CanAllSit l.loans l.windows left l.jobs;
      jobs : given l.loans l.windows left l.jobs ≡ given l.loans l.windows rows l.fn.jobs;
      slack : record l.slack { wishes = quieted l.windows left l.slack.wishes } ≡ record l.fn.slack { wishes = quieted l.windows rows l.fn.slack.wishes };
      steps : l.steps + given_steps l.loans l.windows left l.slack.wishes ≡ l.fn.steps + given_steps l.loans l.windows rows l.fn.slack.wishes;
    }
