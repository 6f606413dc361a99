use Rattle.dk_threads.proofs.Names.{◌≡◌, ◌∙◌, length, ap, sym, arith, rows_at}
use Rattle.dk_threads.proofs.Stored.{length-rows_at}
use Rattle.dk_threads.proofs.rows.Rows.len.Goals as goal

pub returns-clause-rows : goal.returns-clause-rows
returns-clause-rows c =
    c.len.ensures.value
    ∙ sym (length-rows_at c.self.inside.slab c.self.inside.keys.items c.self.invariant.held)
    ∙ ap length c.self.view_is

pub returns-clause-few : goal.returns-clause-few
returns-clause-few c =
    let same = length-rows_at c.self.inside.slab c.self.inside.keys.items c.self.invariant.held in
    let seen : length (rows_at c.self.inside.slab c.self.inside.keys.items) ≡ length c.args.self.now = ap length c.self.view_is in
    omega (arith, c.self.invariant.few)
