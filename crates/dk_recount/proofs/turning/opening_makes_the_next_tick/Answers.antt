use Rattle.dk_recount.proofs.Open.Due.{Laws}
use Rattle.dk_recount.proofs.Open.Recount.{few-steps, may, opens}
use Rattle.dk_recount.proofs.Open.NobodyDue.{rests}
use Rattle.dk_recount.proofs.turning.opening_makes_the_next_tick.Goals as goal

pub returns : goal.returns
returns c =
    let laws : Laws = record {
      starts = c.windows_are_the_configurations.ensures.starts;
      threads = c.opening_keeps_the_recount.ensures;
      loans = c.opening_keeps_the_recount-2.ensures;
      mains = c.main_shares_are_the_pasts.ensures;
      children = c.child_shares_are_the_pasts.ensures;
      future = c.future_shares_are_the_pasts.ensures;
      keeps = c.clock_law.ensures.keeps;
      ready = c.ready_law.ensures.clock;
      release = c.windows_release_law.ensures;
      families = c.rows_law.ensures.families;
      named = c.rows_law.ensures.named;
      absent = c.rows_law.ensures.absent;
      askers = c.standing_law.ensures;
      last = c.lasting_law.ensures;
      cells = c.opening_keeps_the_recount-4.ensures;
      wish_stays = c.opening_keeps_the_recount-3.ensures.wishes_stay;
      wish_begins = c.opening_keeps_the_recount-3.ensures.wishes_begin;
      count_begins = c.opening_keeps_the_recount-3.ensures.unclaimed_begin;
      count_stays = c.opening_keeps_the_recount-3.ensures.unclaimed_stay;
    } in
    record {
      may = λ k e past d stands audited sound before after. may laws k e past d stands audited sound before after;
      steps = λ k e past d stands audited sound before after. few-steps laws k e past d stands audited sound before after;
      opens = λ k e past d stands audited sound before after. opens laws k e past d stands audited sound before after;
      rests = λ k e past d stands audited off. rests laws.families k e past d stands audited off;
    }
