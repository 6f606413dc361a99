use Rattle.dk_needs_run.proofs.checking.decide.Goals as goal

pub returns-clause-rows : goal.returns-clause-rows
returns-clause-rows c =
    record {
      known = c.requires.known;
      before = c.args.before.now;
      run = c.in_ok-run.run';
      are = c.requires.are;
      says = c.in_ok-run.ensures.run;
      whole = c.in_ok-rows_with.ensures;
    }
