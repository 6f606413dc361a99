use Rattle.dk_ready.proofs.Names.{inl, inr, ◌∙◌, sym, length-set}
use Rattle.dk_ready.proofs.Staying.{kept-after}
use Rattle.dk_ready.proofs.jobs.Jobs.close.Goals as goal
use Rattle.dk_ready.proofs.jobs.Jobs.close.Goals.{then-is_some, else-is_some}

pub invariant_of-self : goal.invariant_of-self
invariant_of-self g c =
    let f = c.self.inside in (
      c.unlink.ensures.nodes ∙ c.self.invariant.0 ∙ sym (length-set f.seats.items c.args.node _),
      kept-after (record { switch = f.switch; seats = f.seats.items; ready = f.ready }) c.args.node _ c.unlink.new.self f.first f.body
          c.unless_on-self-inside.result c.if-is_some.self c.unlink.ensures.lists c.self.invariant.1 c.unless_on-self-inside.ensures (elim c.if-is_some.branch [
            | then-is_some w ↦ inl (sym c.is_some.ensures ∙ w.if-is_some.true, w.self-is)
            | else-is_some w ↦ inr (sym c.is_some.ensures ∙ w.if-is_some.false, w.self-is)
          ]),
    )
