use Rattle.dk_chain_report.proofs.latency.latency_of.Goals as goal

pub returns : goal.returns
returns c =
    record {
      reaction = c.reaction.ensures.reaction;
      age = λ done are. c.data_age.ensures.age done c.reaction.result are (c.reaction.ensures.reaction done are);
    }
