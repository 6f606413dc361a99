use Rattle.dk_dispatch.proofs.Names.{◌≡◌, ◌≤◌, ◌+◌, ◌*◌, false, eqb, length, sym, subst, arith, Some, nat_tests, find_row, Tables, running_children, eqb-on}
use Rattle.dk_dispatch.proofs.Stops.{row-name}
use Rattle.dk_dispatch.proofs.tables.AllTables.stop.Goals as goal

pub stop_family-requires : goal.stop_family-requires
stop_family-requires g c =
    let found : find_row c.args.self.now.threads c.args.id ≡ Some c.in-Some.row =
    subst (λ (t : Tables). find_row t.threads c.args.id ≡ Some c.in-Some.row) c.self.view_is (sym c.in-Some.ensures) in
    (c.requires c.in-Some.row found).main (eqb-on c.args.id.serial 0 c.if-id-eq0.true)

pub stop_child-requires : goal.stop_child-requires
stop_child-requires g c =
    let found : find_row c.args.self.now.threads c.args.id ≡ Some c.in-Some.row =
    subst (λ (t : Tables). find_row t.threads c.args.id ≡ Some c.in-Some.row) c.self.view_is (sym c.in-Some.ensures) in
    let off : eqb c.args.id.serial 0 ≡ false = (let apart = c.if-id-eq0.false in grind (arith, nat_tests)) in
    (c.requires c.in-Some.row found).child off

pub returns-then-id-eq0-clause-steps : goal.returns-then-id-eq0-clause-steps
returns-then-id-eq0-clause-steps g c =
    let d = c.args.self.now in
    let found : find_row d.threads c.args.id ≡ Some c.in-Some.row =
    subst (λ (t : Tables). find_row t.threads c.args.id ≡ Some c.in-Some.row) c.self.view_is (sym c.in-Some.ensures) in
    let few = c.stop_family.ensures.steps in
    let few' : c.stop_family.new.steps ≤ c.args.steps.now + ((5 + length d.kernel) * (1 + length (running_children d.threads c.args.id.process)) + length d.kernel) =
    subst (λ i. c.stop_family.new.steps ≤ c.args.steps.now + ((5 + length d.kernel) * (1 + length (running_children d.threads i.process)) + length d.kernel))
    (sym (row-name d.threads c.args.id c.in-Some.row found)) (omega (arith, few)) in
    rw (eqb-on c.args.id.serial 0 c.if-id-eq0.true) few'
