use Rattle.dk_dispatch.proofs.Names.{◌≡◌, ◌≤◌, ◌+◌, ◌*◌, ◌∙◌, ◌∷◌, inl, inr, not, true, false, eqb, length, ap, sym, subst, arith, Some, cases_Bool, is_of, find_row, runs, IsBooked, stopped, Keeps, slots, StopsChild, StopsProcess, running_children, Dispatched, seen}
use Rattle.dk_dispatch.proofs.Stops.{child-steps, child-stopped, family-steps, main-stopped, row-name, stop-keeps}
use Rattle.dk_dispatch.proofs.Ticking.{ends-as, is-charged, is-ending, stands-stopped, stop-steps}
use Rattle.dk_dispatch.proofs.dispatcher.Dispatcher.end.Goals as goal

pub stop-requires : goal.stop-requires
stop-requires g c = λ row is.
    let d = c.self.inside.tables in
    let p = c.self.inside.history.past in
    let x = c.args.id in
    let w = c.requires.ends in
    let ending = is-ending x p d _ c.self.view_is w.entry w.ending c.self.invariant in
    let charged = is-charged x p d _ c.self.view_is w.entry w.ending c.self.invariant in
    let sound = c.are_sound.ensures.sound in
    let are = c.are_sound.ensures.families in
    let name = row-name d.threads x row is in
    let found : find_row d.threads row.id ≡ Some row = subst (λ i. find_row d.threads i ≡ Some row) name is in
    let own = subst (λ i. is_of i w.entry ≡ true) name ending.own in
    let runner = c.ending_threads_run.ensures p.config w.entry p.entries d x charged ending.follows ending.own ending.end in
    record {
      main = λ main. c.stopping_a_main_is_booked.ensures.may p.config w.entry p.entries d row sound are charged ending.follows
          (record { main = subst (λ i. eqb i.serial 0 ≡ true) name main; own = own; end = ending.end }) found;
      child = λ child. c.stopping_a_child_is_booked.ensures.may p.config w.entry.label p.entries d row sound are charged found
          (subst (λ i. not (eqb i.serial 0) ≡ true) name (ap not child)) (subst (λ i. runs d.threads i ≡ true) name runner.runs);
    }

pub invariant_of-self : goal.invariant_of-self
invariant_of-self g c =
    let d = c.self.inside.tables in
    let p = c.self.inside.history.past in
    let x = c.args.id in
    let w = c.requires.ends in
    let e = w.entry in
    let ending = is-ending x p d _ c.self.view_is e w.ending c.self.invariant in
    let charged = is-charged x p d _ c.self.view_is e w.ending c.self.invariant in
    let sound = c.are_sound.ensures.sound in
    let are = c.are_sound.ensures.families in
    let runner = c.ending_threads_run.ensures p.config e p.entries d x charged ending.follows ending.own ending.end in
    let row = runner.row in
    let name = row-name d.threads x row runner.found in
    let found : find_row d.threads row.id ≡ Some row = subst (λ i. find_row d.threads i ≡ Some row) name runner.found in
    let own = subst (λ i. is_of i e ≡ true) name ending.own in
    let booked : IsBooked p.config e p.entries c.stop.new.self =
    elim (cases_Bool (eqb x.serial 0)) [
      | inl main ↦
          let ends : StopsProcess e row.id = record { main = subst (λ i. eqb i.serial 0 ≡ true) name main; own = own; end = ending.end } in
          subst (IsBooked p.config e p.entries) (sym (c.stop.ensures.tables ∙ main-stopped x row d runner.found main))
          (c.stopping_a_main_is_booked.ensures.stands p.config e p.entries d row sound are charged ending.follows ends found)
      | inr child ↦
          let ends : StopsChild e row.id = record { child = subst (λ i. eqb i.serial 0 ≡ false) name child; cause = inl (own, ending.end) } in
          subst (IsBooked p.config e p.entries) (sym (c.stop.ensures.tables ∙ child-stopped x row d runner.found child))
          (c.stopping_a_child_is_booked.ensures.stands p.config e p.entries d row sound are charged ending.follows ends found (subst (λ i. runs d.threads i ≡ true) name runner.runs))
    ] in
    stands-stopped x p d _ c.self.view_is e w.ending c.self.invariant _ c.stop.new.self
    (c.then-self-inside.ensures ∙ ends-as x p d _ c.self.view_is e w.ending c.self.invariant c.args.note.now w.next) booked

pub returns-clause-rows : goal.returns-clause-rows
returns-clause-rows g c =
    subst (λ (w : Dispatched). Keeps (seen w) (slots c.stop.new.self)) c.self.view_is
    (subst (λ t. Keeps (slots c.self.inside.tables) (slots t)) (sym c.stop.ensures.tables) (stop-keeps c.args.id c.self.inside.tables c.are_sound.ensures.families))

pub returns-clause-steps : goal.returns-clause-steps
returns-clause-steps g c = λ e given.
    let d = c.self.inside.tables in
    let p = c.self.inside.history.past in
    let x = c.args.id in
    let ending = is-ending x p d _ c.self.view_is e given c.self.invariant in
    let charged = is-charged x p d _ c.self.view_is e given c.self.invariant in
    let sound = c.are_sound.ensures.sound in
    let are = c.are_sound.ensures.families in
    let runner = c.ending_threads_run.ensures p.config e p.entries d x charged ending.follows ending.own ending.end in
    let row = runner.row in
    let name = row-name d.threads x row runner.found in
    let few = c.stop.ensures.steps in
    stop-steps x p d _ c.self.view_is e given c.self.invariant c.args.steps.now c.stop.new.steps
    (elim (cases_Bool (eqb x.serial 0)) [
      | inl main ↦
          let ends : StopsProcess e row.id = record {
            main = subst (λ i. eqb i.serial 0 ≡ true) name main;
            own = subst (λ i. is_of i e ≡ true) name ending.own;
            end = ending.end;
          } in
          let many = subst (λ i. 1 + length (running_children d.threads i.process) ≤ stopped p.config (e ∷ p.entries)) (sym name)
          (c.stopping_a_main_is_booked.ensures.counts p.config e p.entries d row sound are charged ending.follows ends (subst (λ i. find_row d.threads i ≡ Some row) name runner.found)) in
          let most = family-steps (length d.kernel) (length (running_children d.threads x.process)) (stopped p.config (e ∷ p.entries)) many in
          let few' : c.stop.new.steps ≤ c.args.steps.now + ((5 + length d.kernel) * (1 + length (running_children d.threads x.process)) + length d.kernel) =
          rw main at few in
          omega (arith, few', most)
      | inr child ↦
          let few' : c.stop.new.steps ≤ c.args.steps.now + (5 + length d.kernel) = rw child at few in
          let most = child-steps (length d.kernel) (stopped p.config (e ∷ p.entries)) in
          omega (arith, few', most)
    ])
