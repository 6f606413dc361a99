use Rattle.dk_review.proofs.reviewing.of_certified.Goals as goal

pub returns : goal.returns
returns c =
    record {
      told = c.in_ok-told.told;
      stand = c.in_ok-needed.needed.standing;
      first = c.in_ok-needed.needed.added;
      added = c.in_ok-added.added;
      is_told = c.in_ok-told.ensures;
      needed = c.in_ok-needed.ensures;
      both = c.in_ok-added.ensures;
      page = c.in_ok-bytes.ensures;
      ends = c.needs_ending-ending.ensures;
    }
