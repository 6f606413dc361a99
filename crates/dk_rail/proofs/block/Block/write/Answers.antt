use Rattle.dk_rail.proofs.Names.{ℕ, List, map, length, set, Option, Some, sym, ap, ◌∙◌, length-set, numbers}
use Rattle.dk_rail.proofs.PlacesLemmas.{numbers-set, filled-set}
use Rattle.dk_rail.proofs.block.Block.write.Goals as goal

pub invariant_of-self : goal.invariant_of-self
invariant_of-self c =
    let f = c.self.inside in let was = c.self.invariant in let is = c.write.ensures.1 in (
      record {
        cells = c.write.ensures.0 ∙ was.0.cells;
        deed = was.0.deed;
        filled = ap (λ (ps : List (Option ℕ)). map Some (numbers ps)) is ∙ filled-set f.cells.slots was.0.filled c.args.index c.args.number ∙ sym is;
        many = ap (λ (ps : List (Option ℕ)). length ps) is ∙ length-set f.cells.slots c.args.index (Some c.args.number) ∙ was.0.many;
        owed = was.0.owed;
      },
      was.1,
    )

pub returns : goal.returns
returns c =
    let f = c.self.inside in
    ap numbers c.write.ensures.1 ∙ numbers-set f.cells.slots c.self.invariant.0.filled c.args.index c.args.number ∙ ap (λ (ns : List ℕ). set ns c.args.index c.args.number) c.self.view_is
