use Rattle.std.proofs.Common.{sym, subst, Option}
use Rattle.dk_needs_check.specs.declared.row.Answer.{Answer}
use Rattle.dk_needs_check.specs.Meaning.{IfThere, IsAgeBound, IsReactionBound}
use Rattle.dk_needs_check.proofs.Told.{age_told, reaction_told}
use Rattle.dk_needs_check.proofs.bounds.chain_bounds.Goals as goal

pub returns : goal.returns
returns c =
    let config = c.args.config.now in
    let rest = c.args.rest.now in (
      subst (λ (a : Option Answer). IfThere (IsReactionBound config c.args.first rest) c.args.reaction_asked a) (sym c.bound_where.ensures)
          (reaction_told config c.args.first rest c.reaction.result c.args.reaction_asked c.reaction.ensures.reaction),
      subst (λ (a : Option Answer). IfThere (IsAgeBound config c.args.first rest) c.args.age_asked a) (sym c.bound_where-2.ensures)
          (age_told config c.args.first rest c.reaction.result c.data_age.result c.args.age_asked c.reaction.ensures.reaction c.data_age.ensures.age),
    )
