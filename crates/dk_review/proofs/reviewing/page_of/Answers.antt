use Rattle.dk_review.proofs.reviewing.page_of.Goals as goal

pub returns : goal.returns
returns c =
    record {
      told = c.in_ok-told.told;
      stand = c.in_ok-needed.needed.standing;
      first = c.in_ok-needed.needed.added;
      before = c.in_ok-before.before;
      last = c.in_ok-last.last;
      added = c.in_ok-added.added;
      is_told = c.in_ok-told.ensures;
      needed = c.in_ok-needed.ensures;
      with_more = c.in_ok-before.ensures;
      adds = c.in_ok-last.ensures;
      both = c.in_ok-added.ensures;
      page = c.in_ok-bytes.ensures;
      ends = c.run_ending-ending.ensures;
    }
