use Rattle.dk_recount.proofs.Names.{arith, ◌≡◌, ◌∙◌, ap, length, length-map}
use Rattle.dk_recount.specs.Needed.{ChoosingLaws as Laws}
use Rattle.dk_recount.proofs.Choosing.{front-owned}
use Rattle.dk_recount.proofs.Told.{ready-told, holder-told}
use Rattle.dk_recount.proofs.question_laws.workers_are_the_pasts.Goals as goal

pub returns : goal.returns
returns c =
    let laws : Laws = c.choosing_laws.ensures in
    record {
      ready = λ k past d level index ready families known. ready-told laws k past d ready families level index known;
      holder = λ k past d level ready families. holder-told laws k past d ready families level;
      front = λ k past d id ready families sound level node inside at sits.
          (let levels : length d.demand.windows.periods ≡ length k.levels =
          ap (λ w. length w.periods) ready.recount.cells.windows ∙ length-map k.levels (λ row. row.period) in
          let queues = sound.queues in
          front-owned laws k past d ready families level node id (omega (arith, levels, queues, inside)) at sits);
    }
