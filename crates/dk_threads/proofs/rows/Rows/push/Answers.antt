use Rattle.dk_threads.proofs.Names.{◌≡◌, ◌<◌, length, arith, length-append, sym, ap, refl, ◌∷◌, [], MAX_CHILDREN, rows_at}
use Rattle.dk_threads.proofs.Stored.{not_among, rows_stay, length-rows_at, rows_at-push, AreKeys-more}
use Rattle.dk_threads.proofs.rows.Rows.push.Goals as goal

pub insert_reserved-key-requires : goal.insert_reserved-key-requires
insert_reserved-key-requires c =
    let same = length-rows_at c.self.inside.slab c.self.inside.keys.items c.self.invariant.held in
    let few : length c.args.self.now < MAX_CHILDREN = c.requires in
    let seen : length c.args.self.now ≡ length (rows_at c.self.inside.slab c.self.inside.keys.items) = ap length (sym c.self.view_is) in
    omega (arith, c.self.invariant.room)

pub push-requires : goal.push-requires
push-requires c =
    let same = length-rows_at c.self.inside.slab c.self.inside.keys.items c.self.invariant.held in
    let few : length c.args.self.now < MAX_CHILDREN = c.requires in
    let seen : length c.args.self.now ≡ length (rows_at c.self.inside.slab c.self.inside.keys.items) = ap length (sym c.self.view_is) in
    (omega arith, omega arith)

pub returns : goal.returns
returns c =
    let old = c.self.inside.slab in
    let keys = c.self.inside.keys.items in
    let change = c.insert_reserved-key.ensures.updates in
    let apart = not_among old keys c.insert_reserved-key.result c.self.invariant.held c.insert_reserved-key.ensures.was_vacant in
    rw (c.push.ensures.items, rows_at-push c.insert_reserved-key.new.self keys c.insert_reserved-key.result c.args.row change.changed, rows_stay old _ keys _ _ change apart, c.self.view_is) refl

pub invariant_of-self : goal.invariant_of-self
invariant_of-self c =
    let old = c.self.inside.slab in
    let keys = c.self.inside.keys.items in
    let key = c.insert_reserved-key.result in
    let new = c.insert_reserved-key.new.self in
    let same = length-rows_at old keys c.self.invariant.held in
    let few : length c.args.self.now < MAX_CHILDREN = c.requires in
    let seen : length c.args.self.now ≡ length (rows_at old keys) = ap length (sym c.self.view_is) in
    rw c.push.ensures.items (record {
      held = AreKeys-more old new keys key c.args.row c.self.invariant.held c.insert_reserved-key.ensures.was_vacant c.insert_reserved-key.ensures.updates;
      room = omega (arith, length-append keys (key ∷ []), c.self.invariant.room, c.insert_reserved-key.ensures.len, c.insert_reserved-key.ensures.capacity);
      few = omega (arith, length-append keys (key ∷ []));
    })
