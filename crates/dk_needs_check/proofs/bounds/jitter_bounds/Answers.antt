use Rattle.std.proofs.Common.{refl, sym, subst, Option}
use Rattle.dk_config.specs.Windows.{budget}
use Rattle.dk_needs_check.specs.declared.row.Answer.{Answer}
use Rattle.dk_needs_check.specs.declared.row.Measure.{Measure}
use Rattle.dk_needs_check.specs.Bounds.{IsAtMost}
use Rattle.dk_needs_check.specs.Meaning.{IfThere, VariesBy}
use Rattle.dk_needs_check.proofs.Told.{varies_told}
use Rattle.dk_needs_check.proofs.bounds.jitter_bounds.Goals as goal

pub returns : goal.returns
returns c =
    let config = c.args.config.now in
    let p = c.args.process in (
      subst (λ (a : Option Answer). IfThere (IsAtMost (VariesBy config p 1) Measure.BeginsJitter) c.args.begins_asked a) (sym c.bound_where.ensures)
          (varies_told config p 1 c.begins_from.result c.begins_by.result _ Measure.BeginsJitter c.args.begins_asked refl
          (record { reached = c.begins_from.ensures.reached; least = c.begins_from.ensures.least })
          (record { reached = c.begins_by.ensures.reached; least = c.begins_by.ensures.least })
          (c.begins_from.ensures.sooner c.begins_by.result c.begins_by.ensures.reached) refl),
      subst (λ (a : Option Answer). IfThere (IsAtMost (VariesBy config p (budget config p)) Measure.DoneJitter) c.args.done_asked a) (sym c.bound_where-2.ensures)
          (varies_told config p (budget config p) c.done_from.result c.done_by.result _ Measure.DoneJitter c.args.done_asked refl
          (record { reached = c.done_from.ensures.reached; least = c.done_from.ensures.least })
          (record { reached = c.done_by.ensures.reached; least = c.done_by.ensures.least })
          (c.done_from.ensures.sooner c.done_by.result c.done_by.ensures.reached) refl),
    )
