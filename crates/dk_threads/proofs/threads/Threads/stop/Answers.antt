use Rattle.dk_threads.proofs.Names.{◌≡◌, ◌<◌, ◌∙◌, ℕ, length, ap, sym, subst, All, ThreadRow, Table, IsFamily, changed_at, child_stopped}
use Rattle.dk_threads.proofs.Families.{family_at, within-runs, levels-of, IsFamily-stopped, AreFamilies-set, changed-set}
use Rattle.dk_threads.proofs.threads.Threads.stop.Goals as goal

pub stop-requires : goal.stop-requires
stop-requires c =
    let at = family_at c.args.self.now c.self.inside.families.items c.args.id.process c.index_mut-family.result.now
    (ap (λ (table : Table). table.families) c.self.view_is) (within-runs c.args.self.now c.args.id c.requires.runs) c.index_mut-family.ensures.value in
    let is : IsFamily c.self.inside.levels c.index_mut-family.result.now = c.self.invariant c.args.id.process c.index_mut-family.result.now at in
    let levels : c.self.inside.levels ≡ length c.args.windows.now.periods = ap (λ (table : Table). table.levels) c.self.view_is ∙ sym c.requires.windows in
    subst (λ (n : ℕ). All (λ (row : ThreadRow). row.level < n) c.index_mut-family.result.now.children) levels (levels-of c.self.inside.levels c.index_mut-family.result.now is)

pub invariant_of-self : goal.invariant_of-self
invariant_of-self c =
    let at = family_at c.args.self.now c.self.inside.families.items c.args.id.process c.index_mut-family.result.now
    (ap (λ (table : Table). table.families) c.self.view_is) (within-runs c.args.self.now c.args.id c.requires.runs) c.index_mut-family.ensures.value in
    let is : IsFamily c.self.inside.levels c.index_mut-family.result.now = c.self.invariant c.args.id.process c.index_mut-family.result.now at in
    AreFamilies-set c.self.inside.levels c.self.inside.families.items c.args.id.process c.stop.new.self c.self.invariant
    (subst (IsFamily c.self.inside.levels) (sym c.stop.ensures) (IsFamily-stopped c.args.id c.args.windows.now c.self.inside.levels c.index_mut-family.result.now is))

pub returns : goal.returns
returns c =
    let at = family_at c.args.self.now c.self.inside.families.items c.args.id.process c.index_mut-family.result.now
    (ap (λ (table : Table). table.families) c.self.view_is) (within-runs c.args.self.now c.args.id c.requires.runs) c.index_mut-family.ensures.value in
    changed-set (child_stopped c.args.id c.args.windows.now) c.self.inside.levels c.self.inside.families.items c.args.id.process c.index_mut-family.result.now c.stop.new.self at c.stop.ensures
    ∙ ap (changed_at (child_stopped c.args.id c.args.windows.now) c.args.id.process) c.self.view_is
