use Rattle.dk_cycle.proofs.Names.{ℕ, ◌≡◌, ◌+◌, ◌∙◌, ◌||◌, Bool, Option, false, refl, sym, ap, subst, arith, IsWaitWatch, main_waits}
use Rattle.dk_cycle.proofs.Seen.{gone-on, window-over}
use Rattle.dk_cycle.proofs.waiting.WaitWatch.follow.Goals as goal
use Rattle.dk_cycle.proofs.waiting.WaitWatch.follow.Goals.{then-main_waits, else-main_waits}

pub returns-then-passed-self-clause-watches : goal.returns-then-passed-self-clause-watches
returns-then-passed-self-clause-watches c =
    let watch = c.args.self.now in
    let entry = c.args.entry.now in
    let waited : c.if-main_waits.waited ≡ (main_waits watch.process entry || watch.waited) =
    elim c.if-main_waits.branch [
      | then-main_waits w ↦ w.waited-is ∙ w.if-main_waits.true ∙ sym (ap (λ (b : Bool). b || watch.waited) (sym c.main_waits.ensures ∙ w.if-main_waits.true))
      | else-main_waits w ↦ w.waited-is ∙ sym (ap (λ (b : Bool). b || watch.waited) (sym c.main_waits.ensures ∙ w.if-main_waits.false))
    ] in
    λ config programs tick is next. gone-on config programs tick watch entry c.if-main_waits.waited (watch.passed + 1) is next waited refl c.if-passed-self.true

pub returns-else-passed-self-clause-watches : goal.returns-else-passed-self-clause-watches
returns-else-passed-self-clause-watches c =
    let watch = c.args.self.now in
    let entry = c.args.entry.now in
    let high = c.if-passed-self.false in
    let waited : c.if-main_waits.waited ≡ (main_waits watch.process entry || watch.waited) =
    elim c.if-main_waits.branch [
      | then-main_waits w ↦ w.waited-is ∙ w.if-main_waits.true ∙ sym (ap (λ (b : Bool). b || watch.waited) (sym c.main_waits.ensures ∙ w.if-main_waits.true))
      | else-main_waits w ↦ w.waited-is ∙ sym (ap (λ (b : Bool). b || watch.waited) (sym c.main_waits.ensures ∙ w.if-main_waits.false))
    ] in
    λ config programs tick is next.
    subst (λ (m : Option ℕ). IsWaitWatch config programs (tick + 1)
    (record { process = watch.process; period = watch.period; begins = watch.begins + (watch.passed + 1); passed = 0; waited = false; missed = m }))
    (sym c.missed_with-self.ensures)
    (window-over config programs tick watch entry c.if-main_waits.waited (watch.passed + 1) is next waited refl (omega (arith, high)))
