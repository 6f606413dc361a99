use Rattle.dk_rail.proofs.Names.{ℕ, ◌<◌, List, length, slice_index, sym, ap, arith, numbers}
use Rattle.dk_rail.proofs.PlacesLemmas.{number_at}
use Rattle.dk_rail.proofs.block.Block.read.Goals as goal

pub get-requires : goal.get-requires
get-requires c =
    let f = c.self.inside in
    let inside : c.args.index < length (numbers f.cells.slots) = omega (arith, c.requires, ap (λ (ns : List ℕ). length ns) c.self.view_is) in
    (sym c.self.invariant.0.cells, (slice_index (numbers f.cells.slots) c.args.index, number_at f.cells.slots c.self.invariant.0.filled c.args.index inside))
