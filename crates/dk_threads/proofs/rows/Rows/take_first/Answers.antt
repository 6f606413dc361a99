use Rattle.dk_threads.proofs.Names.{◌≡◌, ◌<◌, ◌∙◌, ◌∷◌, length, sym, ap, arith, MAX_CHILDREN, rows_at, IsStored}
use Rattle.dk_threads.proofs.Stored.{length-rows_at, first_out}
use Rattle.dk_threads.proofs.rows.Rows.take_first.Goals as goal

-- what is left once the first row is taken out
left : (c : goal.After-remove) → IsStored c.remove.new.self c.remove-key.new.self.items
    × (rows_at c.self.inside.slab c.self.inside.keys.items ≡ c.remove.result ∷ rows_at c.remove.new.self c.remove-key.new.self.items)
    × (length c.remove-key.new.self.items < MAX_CHILDREN)
left c =
    let old = c.self.inside.slab in
    let keys = c.self.inside.keys.items in
    let same = length-rows_at old keys c.self.invariant.held in
    let some : 0 < length c.args.self.now = c.requires in
    let seen : length c.args.self.now ≡ length (rows_at old keys) = ap length (sym c.self.view_is) in
    first_out old c.remove.new.self keys c.remove-key.new.self.items c.remove-key.result c.remove.result c.self.invariant (omega arith)
    c.remove-key.ensures.value c.remove-key.ensures.items c.remove.ensures.value c.remove.ensures.updates c.remove.ensures.len c.remove.ensures.capacity

pub invariant_of-self : goal.invariant_of-self
invariant_of-self c = (left c).0

pub returns-clause-rows : goal.returns-clause-rows
returns-clause-rows c = sym c.self.view_is ∙ (left c).1

pub returns-clause-few : goal.returns-clause-few
returns-clause-few c =
    let few : length c.remove-key.new.self.items < MAX_CHILDREN = (left c).2 in
    let same = length-rows_at c.remove.new.self c.remove-key.new.self.items (left c).0.held in
    omega arith
