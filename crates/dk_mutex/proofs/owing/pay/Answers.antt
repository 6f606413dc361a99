use Rattle.dk_mutex.proofs.Names.{◌≡◌, ◌∙◌, arith, ap, sym, map, taken}
use Rattle.dk_mutex.proofs.Owed.{taken-none}
use Rattle.dk_mutex.proofs.owing.pay.Goals as goal

pub returns-else-owed-gt0-clause-rows : goal.returns-else-owed-gt0-clause-rows
returns-else-owed-gt0-clause-rows c =
    let none : c.args.owed.now ≡ 0 = omega (arith, c.if-owed-gt0.false) in
    sym (ap (λ n. map (taken n c.args.debtor) c.args.rows.now) none ∙ taken-none c.args.debtor c.args.rows.now)
