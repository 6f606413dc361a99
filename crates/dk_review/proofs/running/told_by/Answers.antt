use Rattle.dk_review.proofs.running.told_by.Goals as goal

pub returns-clause-told : goal.returns-clause-told
returns-clause-told c =
    record {
      audit = c.in-Ok.ensures;
      passed = c.has_passed-passed.ensures;
      drawing = c.in_ok-drawing.ensures.drawn;
      windows = c.in_ok-windows.ensures.told;
      tenths = c.in_ok-tenths.ensures.told;
      totals = c.in_ok-texts.ensures.told;
    }
