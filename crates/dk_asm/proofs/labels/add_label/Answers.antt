use Rattle.dk_asm.proofs.Imports.{◌∙◌, ap, sym, is_some, place_in}
use Rattle.std.proofs.lemmas.Map.Text.{btree_map_updates_str}
use Rattle.dk_asm.proofs.Places.{placed}
use Rattle.dk_asm.proofs.labels.add_label.Goals as goal

pub returns : goal.returns
returns c = λ other.
    let free = ap is_some (sym c.place_at.ensures) ∙ sym c.is_some.ensures ∙ c.if-is_some.false in
    btree_map_updates_str c.args.name.now c.args.places.now c.insert.new.self _ c.in_ok-insert.ensures.updates other ∙ placed (place_in c.args.places.now) c.args.name.now other c.args.place free
