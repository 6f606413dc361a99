use Rattle.dk_demand.proofs.Names.{◌≡◌, ◌<◌, ◌≤◌, ◌+◌, ◌^◌, ◌∙◌, ℕ, List, length, refl, ap, subst, sym, arith, slice_index, Cells, adjusted, between, by_level}
use Rattle.dk_demand.proofs.Changing.{length-by_level}
use Rattle.dk_demand.proofs.Writing.{cells-same, rewritten}
use Rattle.dk_demand.proofs.demand.Demand.adjust_blocking.Goals as goal

pub returns-clause-cells : goal.returns-clause-cells
returns-clause-cells g c =
    let d = c.self.inside in
    let change = between c.args.levels.start c.args.levels.end (adjusted c.args.less c.args.more) in
    cells-same _ _ _ _ _ _ _ refl refl
    (rewritten change d.blocking.items c.deref_mut.result.now c.adjust_between.new.cells c.deref_mut.ensures.value c.adjust_between.ensures.cells)
    ∙ ap (λ (d : Cells). record d { blocking = by_level change d.blocking }) c.self.view_is

pub adjust_between-requires-clause-known : goal.adjust_between-requires-clause-known
adjust_between-requires-clause-known g c =
    let levels = ap (λ (d : Cells). length d.windows.periods) c.self.view_is in
    omega (arith, levels, c.requires.known, c.self.invariant.3, ap length c.deref_mut.ensures.value)

pub adjust_between-requires-clause-low : goal.adjust_between-requires-clause-low
adjust_between-requires-clause-low g c = λ j past below.
    let same : c.deref_mut.result.now ≡ c.args.self.now.blocking = c.deref_mut.ensures.value ∙ ap (λ (d : Cells). d.blocking) c.self.view_is in
    subst (λ (ns : List ℕ). c.args.less ≤ slice_index ns j + c.args.more) (sym same) (c.requires.low j past below)

pub adjust_between-requires-clause-high : goal.adjust_between-requires-clause-high
adjust_between-requires-clause-high g c = λ some j past below.
    let same : c.deref_mut.result.now ≡ c.args.self.now.blocking = c.deref_mut.ensures.value ∙ ap (λ (d : Cells). d.blocking) c.self.view_is in
    subst (λ (ns : List ℕ). adjusted c.args.less c.args.more (slice_index ns j) < 2 ^ 32) (sym same) (c.requires.high some j past below)

pub invariant_of-self : goal.invariant_of-self
invariant_of-self g c =
    let d = c.self.inside in
    let change = between c.args.levels.start c.args.levels.end (adjusted c.args.less c.args.more) in (
      c.self.invariant.0,
      c.self.invariant.1,
      c.self.invariant.2,
      ap length (rewritten change d.blocking.items c.deref_mut.result.now c.adjust_between.new.cells c.deref_mut.ensures.value c.adjust_between.ensures.cells)
          ∙ length-by_level change d.blocking.items ∙ c.self.invariant.3,
      λ tick now before. absurd (omega arith),
    )
