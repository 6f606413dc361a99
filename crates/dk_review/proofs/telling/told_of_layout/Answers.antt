use Rattle.dk_review.proofs.telling.told_of_layout.Goals as goal

pub returns : goal.returns
returns c =
    record {
      certificate = c.in_ok-certificate.ensures;
      certificate_table = c.in_ok-certificate_table.ensures;
      matrix = c.in_ok-matrix.ensures;
      certification = c.in_ok-certification.ensures;
      margins = c.in_ok-margins.ensures;
      margins_table = c.in_ok-margins_table.ensures;
      warnings = c.in_ok-warnings.ensures;
      count = c.in_ok-count.ensures;
    }
