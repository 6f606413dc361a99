use Rattle.dk_threads.proofs.Names.{◌≡◌, ◌<◌, ◌+◌, ◌∙◌, ℕ, ap, sym, subst, ◌≤◌, arith, Some, slice_get, MAX_CHILDREN, Table, IsFamily, changed_at, begun, ThreadId}
use Rattle.dk_threads.proofs.Families.{family_at, within-stands, room-at, few-at, serials-at, IsFamily-begun, AreFamilies-set, changed-set}
use Rattle.dk_threads.proofs.threads.Threads.begin.Goals as goal

pub begin-requires-clause-room : goal.begin-requires-clause-room
begin-requires-clause-room c =
    let at = family_at c.args.self.now c.self.inside.families.items c.args.process c.index_mut-family.result.now
    (ap (λ (table : Table). table.families) c.self.view_is) (within-stands c.args.self.now c.args.process c.requires.stands) c.index_mut-family.ensures.value in
    let is : IsFamily c.self.inside.levels c.index_mut-family.result.now = c.self.invariant c.args.process c.index_mut-family.result.now at in
    let few : c.index_mut-family.result.now.most ≤ MAX_CHILDREN = is.few in
    let room = room-at c.args.self.now c.args.process c.index_mut-family.result.now
    (subst (λ (table : Table). slice_get table.families c.args.process ≡ Some c.index_mut-family.result.now) c.self.view_is at) c.requires.room in
    omega arith

pub begin-requires-clause-few : goal.begin-requires-clause-few
begin-requires-clause-few c =
    let at = family_at c.args.self.now c.self.inside.families.items c.args.process c.index_mut-family.result.now
    (ap (λ (table : Table). table.families) c.self.view_is) (within-stands c.args.self.now c.args.process c.requires.stands) c.index_mut-family.ensures.value in
    few-at c.args.self.now c.args.process c.index_mut-family.result.now
    (subst (λ (table : Table). slice_get table.families c.args.process ≡ Some c.index_mut-family.result.now) c.self.view_is at) c.requires.few

pub invariant_of-self : goal.invariant_of-self
invariant_of-self c =
    let at = family_at c.args.self.now c.self.inside.families.items c.args.process c.index_mut-family.result.now
    (ap (λ (table : Table). table.families) c.self.view_is) (within-stands c.args.self.now c.args.process c.requires.stands) c.index_mut-family.ensures.value in
    let family = c.index_mut-family.result.now in
    let is : IsFamily c.self.inside.levels family = c.self.invariant c.args.process family at in
    let known : c.args.level < c.self.inside.levels = subst (λ (table : Table). c.args.level < table.levels) (sym c.self.view_is) c.requires.known in
    let room = room-at c.args.self.now c.args.process family (subst (λ (table : Table). slice_get table.families c.args.process ≡ Some c.index_mut-family.result.now) c.self.view_is at) c.requires.room in
    AreFamilies-set c.self.inside.levels c.self.inside.families.items c.args.process c.begin.new.self c.self.invariant
    (subst (IsFamily c.self.inside.levels) (sym c.begin.ensures.family)
    (IsFamily-begun c.args.process c.args.level c.args.start c.self.inside.levels family is known room))

pub returns-clause-name : goal.returns-clause-name
returns-clause-name c =
    let at = family_at c.args.self.now c.self.inside.families.items c.args.process c.index_mut-family.result.now
    (ap (λ (table : Table). table.families) c.self.view_is) (within-stands c.args.self.now c.args.process c.requires.stands) c.index_mut-family.ensures.value in
    let named : ℕ → ThreadId = λ n. record { process = c.args.process; serial = n + 1 } in
    c.begin.ensures.name ∙ ap named (sym (serials-at c.args.self.now c.args.process c.index_mut-family.result.now (subst (λ (table : Table). slice_get table.families c.args.process ≡ Some c.index_mut-family.result.now) c.self.view_is at)))

pub returns-clause-rows : goal.returns-clause-rows
returns-clause-rows c =
    let at = family_at c.args.self.now c.self.inside.families.items c.args.process c.index_mut-family.result.now
    (ap (λ (table : Table). table.families) c.self.view_is) (within-stands c.args.self.now c.args.process c.requires.stands) c.index_mut-family.ensures.value in
    changed-set (begun c.args.process c.args.level c.args.start) c.self.inside.levels c.self.inside.families.items c.args.process
    c.index_mut-family.result.now c.begin.new.self at c.begin.ensures.family
    ∙ ap (changed_at (begun c.args.process c.args.level c.args.start) c.args.process) c.self.view_is
