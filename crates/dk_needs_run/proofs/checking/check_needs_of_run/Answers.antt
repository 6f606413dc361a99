use Rattle.std.proofs.Common.{List, subst, sym}
use Rattle.dk_needs_check.specs.declared.row.Row.{Row}
use Rattle.dk_needs_check.specs.Rows.{AreRows}
use Rattle.dk_needs_check.specs.Unknown.{IsCheck}
use Rattle.dk_needs_run.proofs.checking.check_needs_of_run.Goals as goal

pub decide-requires-clause-known : goal.decide-requires-clause-known
decide-requires-clause-known c =
    let is = subst (IsCheck c.args.config.now c.args.needs.now.rows) c.in-Decided.is c.in_ok-found.ensures in
    is.0

pub decide-requires-clause-are : goal.decide-requires-clause-are
decide-requires-clause-are c =
    let is = subst (IsCheck c.args.config.now c.args.needs.now.rows) c.in-Decided.is c.in_ok-found.ensures in
    subst (λ (rows : List Row). AreRows c.args.config.now 0 c.args.needs.now.rows rows) (sym c.as_slice.ensures.value) is.1
