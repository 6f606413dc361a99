use Rattle.dk_dispatch.proofs.Names.{◌≡◌, ◌∙◌, sym, subst, ThreadRow, Tables, child_row, with_child, Creates, IsNewRow, call_label}
use Rattle.dk_dispatch.proofs.Calling.{calling, is-created, is-not-created, stands-created}
use Rattle.dk_dispatch.proofs.dispatcher.Dispatcher.create.Goals as goal

-- what holds of the child's row and the tables with it holds of these
made-as : (P : Tables → ThreadRow → Type 0) (new made : Tables) (row child : ThreadRow) → row ≡ child → new ≡ made → P made child → P new row
made-as P new made row child same is told = subst (λ t. P t row) (sym is) (subst (P made) (sym same) told)

pub create-requires : goal.create-requires
create-requires g c = λ main.
    let a = c.args in
    let d = c.self.inside.tables in
    c.creating_a_child_is_booked.ensures.may a.id _ _ _ d a.level a.quota a.entry a.instructions (calling a.id _ d _ c.self.view_is c.requires c.self.invariant)
    c.are_sound.ensures.sound c.are_sound.ensures.families main

pub invariant_of-self : goal.invariant_of-self
invariant_of-self g c =
    let a = c.args in
    let d = c.self.inside.tables in
    let p = c.self.inside.history.past in
    let told = c.in-Ok.ensures.told in
    let called = calling a.id p d _ c.self.view_is c.requires c.self.invariant in
    stands-created a.id p d _ c.self.view_is c.requires c.self.invariant a.level a.quota a.entry a.instructions _ c.in-Ok.row
    (made-as (λ t r. Creates a.id a.level a.quota a.entry a.instructions d t r p.config (call_label p) p.entries) c.create.new.self (with_child a.id.process a.level a.quota d) c.in-Ok.row (child_row a.id.process a.level d)
    told.1 told.2 (c.creating_a_child_is_booked.ensures.done a.id _ _ _ d a.level a.quota a.entry a.instructions called c.are_sound.ensures.sound c.are_sound.ensures.families told.0))
    _ c.then-self-inside.ensures

pub returns-in-Ok-clause-answer : goal.returns-in-Ok-clause-answer
returns-in-Ok-clause-answer g c =
    let a = c.args in
    let d = c.self.inside.tables in
    let p = c.self.inside.history.past in
    let told = c.in-Ok.ensures.told in
    let called = calling a.id p d _ c.self.view_is c.requires c.self.invariant in
    is-created a.id p d _ c.self.view_is c.requires c.self.invariant a.level a.quota a.entry a.instructions _ c.in-Ok.row
    (made-as (λ t r. Creates a.id a.level a.quota a.entry a.instructions d t r p.config (call_label p) p.entries) c.create.new.self (with_child a.id.process a.level a.quota d) c.in-Ok.row (child_row a.id.process a.level d)
    told.1 told.2 (c.creating_a_child_is_booked.ensures.done a.id _ _ _ d a.level a.quota a.entry a.instructions called c.are_sound.ensures.sound c.are_sound.ensures.families told.0))
    _ c.then-self-inside.ensures
    (made-as (λ t r. IsNewRow a.id a.level d t r) c.create.new.self (with_child a.id.process a.level a.quota d) c.in-Ok.row (child_row a.id.process a.level d)
    told.1 told.2 (c.creating_a_child_is_booked.ensures.row a.id _ _ _ d a.level a.quota a.entry a.instructions called c.are_sound.ensures.sound c.are_sound.ensures.families told.0))

pub returns-in-Err-clause-answer : goal.returns-in-Err-clause-answer
returns-in-Err-clause-answer g c =
    let a = c.args in
    let d = c.self.inside.tables in
    let told = c.in-Err.ensures.told in
    is-not-created a.id _ d _ c.self.view_is c.requires c.self.invariant a.level a.quota a.entry a.instructions _ _
    (sym (c.creates_are_refused_by_the_loans.ensures a.id _ _ _ d a.level a.quota a.entry a.instructions (calling a.id _ d _ c.self.view_is c.requires c.self.invariant)) ∙ told.0) told.1
