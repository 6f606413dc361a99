use Rattle.dk_dispatch.proofs.Names.{ℕ, ◌≡◌, ◌+◌, ◌∙◌, Bool, Some, ap, sym, subst, refl, if◌then◌else◌, eqb-on, Refusal, Clock, end_at, ThreadRow, begun, children_at, free_slot, new_row, next_id, serials_at, changed_family, Book, lend_refusal, lent_to, new_loan, changed_lender, released, Tables, MayCreate, child_row, free_node, new_seat, with_child, the_view}
use Rattle.dk_dispatch.proofs.tables.AllTables.create.Goals as goal

pub lend-requires-clause-known : goal.lend-requires-clause-known
lend-requires-clause-known g c =
    let a = c.args in
    let p = a.id.process in
    let may : MayCreate p a.level a.quota a.entry a.instructions (the_view c.self.inside) =
    subst (MayCreate p a.level a.quota a.entry a.instructions) (sym c.self.view_is) (c.requires (eqb-on a.id.serial 0 c.if-id-ne0.false)) in
    may.process

pub lend-requires-clause-same_levels : goal.lend-requires-clause-same_levels
lend-requires-clause-same_levels g c =
    ap (λ (w : Clock). w.periods) c.windows-windows.ensures ∙ sym c.self.invariant.periods

pub seat_child-requires-clause-stands : goal.seat_child-requires-clause-stands
seat_child-requires-clause-stands g c =
    let a = c.args in
    let p = a.id.process in
    let may : MayCreate p a.level a.quota a.entry a.instructions (the_view c.self.inside) =
    subst (MayCreate p a.level a.quota a.entry a.instructions) (sym c.self.view_is) (c.requires (eqb-on a.id.serial 0 c.if-id-ne0.false)) in
    may.stands

pub seat_child-requires-clause-room : goal.seat_child-requires-clause-room
seat_child-requires-clause-room g c =
    let a = c.args in
    let p = a.id.process in
    let may : MayCreate p a.level a.quota a.entry a.instructions (the_view c.self.inside) =
    subst (MayCreate p a.level a.quota a.entry a.instructions) (sym c.self.view_is) (c.requires (eqb-on a.id.serial 0 c.if-id-ne0.false)) in
    may.room c.in-Ok.ensures.0

pub seat_child-requires-clause-few : goal.seat_child-requires-clause-few
seat_child-requires-clause-few g c =
    let a = c.args in
    let p = a.id.process in
    let may : MayCreate p a.level a.quota a.entry a.instructions (the_view c.self.inside) =
    subst (MayCreate p a.level a.quota a.entry a.instructions) (sym c.self.view_is) (c.requires (eqb-on a.id.serial 0 c.if-id-ne0.false)) in
    may.serials

pub seat_child-requires-clause-known : goal.seat_child-requires-clause-known
seat_child-requires-clause-known g c =
    let a = c.args in
    let p = a.id.process in
    let may : MayCreate p a.level a.quota a.entry a.instructions (the_view c.self.inside) =
    subst (MayCreate p a.level a.quota a.entry a.instructions) (sym c.self.view_is) (c.requires (eqb-on a.id.serial 0 c.if-id-ne0.false)) in
    may.known c.in-Ok.ensures.0

pub seat_child-requires-clause-node : goal.seat_child-requires-clause-node
seat_child-requires-clause-node g c =
    let a = c.args in
    let p = a.id.process in
    let may : MayCreate p a.level a.quota a.entry a.instructions (the_view c.self.inside) =
    subst (MayCreate p a.level a.quota a.entry a.instructions) (sym c.self.view_is) (c.requires (eqb-on a.id.serial 0 c.if-id-ne0.false)) in
    may.node c.in-Ok.ensures.0

pub seat_child-requires-clause-free : goal.seat_child-requires-clause-free
seat_child-requires-clause-free g c =
    let a = c.args in
    let p = a.id.process in
    let may : MayCreate p a.level a.quota a.entry a.instructions (the_view c.self.inside) =
    subst (MayCreate p a.level a.quota a.entry a.instructions) (sym c.self.view_is) (c.requires (eqb-on a.id.serial 0 c.if-id-ne0.false)) in
    may.free c.in-Ok.ensures.0

rowed : (p level : ℕ) (d t : Tables) (w : Clock) (start : ℕ) (row : ThreadRow) → t ≡ d → w ≡ t.demand.windows → start ≡ end_at w level
    → row ≡ new_row (next_id t.threads p) level (free_slot (children_at t.threads p)) start → row ≡ child_row p level d
rowed p level d t w start row same clock end is = rw (is, end, clock, same) refl

told : (p level quota : ℕ) (d t : Tables) (w : Clock) (serial start : ℕ) (b : Book)
    → t ≡ d → w ≡ t.demand.windows → serial ≡ serials_at t.threads p + 1 → start ≡ end_at w level
    → b ≡ changed_lender p (lent_to (new_loan w serial level quota)) t.loans
    → record t {
      loans = b;
      threads = changed_family (begun p level start) p t.threads;
      jobs = released (free_node t.threads p) (new_seat t.threads p level) t.jobs;
    } ≡ with_child p level quota d
told p level quota d t w serial start b same clock next end is = rw (is, end, next, clock, same) refl

pub returns-clause-told : goal.returns-clause-told
returns-clause-told g c =
    let d = c.args.self.now in
    let t = the_view c.self.inside in
    let a = c.args in
    let p = a.id.process in
    let w = c.windows-windows.result.now in
    let start = c.in-Ok.start in (
      ap (λ (b : Bool). if b then lend_refusal d.loans p a.level a.quota a.entry a.instructions else Some Refusal.NotMain) (eqb-on a.id.serial 0 c.if-id-ne0.false)
          ∙ sym (ap (λ (u : Tables). lend_refusal u.loans p a.level a.quota a.entry a.instructions) c.self.view_is)
          ∙ c.in-Ok.ensures.0,
      rowed p a.level d t w start c.seat_child.result c.self.view_is c.windows-windows.ensures c.in-Ok.ensures.1 c.seat_child.ensures.row,
      c.seat_child.ensures.tables
          ∙ told p a.level a.quota d t w c.next_serial-serial.result start c.lend.new.self
          c.self.view_is c.windows-windows.ensures c.next_serial-serial.ensures c.in-Ok.ensures.1 c.in-Ok.ensures.2,
    )
