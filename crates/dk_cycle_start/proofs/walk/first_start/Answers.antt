use Rattle.dk_cycle_start.proofs.Names.{◌+◌, ◌∙◌, sym, ap, subst, arith, RunStandsAgain, Running, HasPrograms, IsCycleOf}
use Rattle.dk_cycle_start.proofs.Walking.{both-next, next-begins, none-more, room}
use Rattle.dk_cycle_start.proofs.walk.first_start.Goals as goal

pub stands_again-requires-clause-has : goal.stands_again-requires-clause-has
stands_again-requires-clause-has g c = subst HasPrograms (sym c.loop-start.invariant.next) c.requires.has

pub stands_again-requires-clause-cycle : goal.stands_again-requires-clause-cycle
stands_again-requires-clause-cycle g c =
    subst (λ (r : Running). IsCycleOf r c.args.cycle) (sym c.loop-start.invariant.next) (record { stands = c.requires.cycle.stands; keeps = c.requires.cycle.keeps })

pub go_on-requires : goal.go_on-requires
go_on-requires g c =
    let k = c.args.early.now in
    let y = c.args.cycle in
    let now = c.loop-start.invariant in
    let far = room k.config k.programs y c.args.search.now.longest c.loop-start.start now.longest c.requires.cycle.stands now.begins c.loop-start-test.true in
    let at = ap (λ (r : Running). r.ticks) now.next in
    omega (arith, far, at, c.requires.room)

pub lead-requires-clause-room : goal.lead-requires-clause-room
lead-requires-clause-room g c =
    let k = c.args.early.now in
    let y = c.args.cycle in
    let now = c.loop-start.invariant in
    let far = room k.config k.programs y c.args.search.now.longest c.loop-start.start now.longest c.requires.cycle.stands now.begins c.loop-start-test.true in
    let at = ap (λ (r : Running). r.ticks) now.next in
    let later = ap (λ (r : Running). r.ticks) now.later in
    omega (arith, far, at, later, c.requires.room)

pub overflow_add-start : goal.overflow_add-start
overflow_add-start g c =
    let k = c.args.early.now in
    let now = c.loop-start.invariant in
    let far = room k.config k.programs c.args.cycle c.args.search.now.longest c.loop-start.start now.longest c.requires.cycle.stands now.begins c.loop-start-test.true in
    omega (arith, far, c.requires.room)

pub loop-start-preserved : goal.loop-start-preserved
loop-start-preserved g c =
    let k = c.args.early.now in
    let y = c.args.cycle in
    let now = c.loop-start.invariant in
    let longest = c.args.search.now.longest in
    record {
      next = c.go_on.ensures ∙ ap (λ (r : Running). record r { ticks = r.ticks + longest }) now.next;
      later = both-next c.loop-start.early c.loop-start.late y.length longest c.go_on.new.kernel c.lead.new.late now.later c.go_on.ensures c.lead.ensures.next;
      is = c.lead.ensures.is;
      longest = now.longest;
      begins = next-begins longest c.loop-start.start now.begins;
      early = room k.config k.programs y longest c.loop-start.start now.longest c.requires.cycle.stands now.begins c.loop-start-test.true;
      none = none-more k y longest c.loop-start.start now.longest now.begins now.none
          (subst (λ (r : Running). RunStandsAgain r.config r.programs r.ticks y.length → ⊥) now.next (c.stands_again.ensures.no c.if-stands_again.false));
    }

pub returns : goal.returns
returns g c =
    let over = c.loop-start-test.false in
    record {
      early = omega arith;
      stands = c.requires.cycle.stands;
      first = λ t less. c.loop-start.invariant.none t (omega (arith, less, over));
    }
