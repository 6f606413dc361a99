use Rattle.std.proofs.Common.{refl, sym, subst, Option}
use Rattle.dk_needs_check.specs.declared.row.Answer.{Answer}
use Rattle.dk_needs_check.specs.Meaning.{IfThere, IsReactionJitter}
use Rattle.dk_needs_check.proofs.Told.{jitter_told}
use Rattle.dk_needs_check.proofs.bounds.chain_jitter_bounds.Goals as goal

pub returns : goal.returns
returns c =
    let config = c.args.config.now in
    let rest = c.args.rest.now in (
      subst (λ (a : Option Answer). IfThere (IsReactionJitter config c.args.first rest) c.args.asked a) (sym c.bound_where.ensures)
          (jitter_told config c.args.first rest c.reaction_jitter-jitter.result c.args.asked c.reaction_jitter-jitter.ensures),
      refl,
    )
