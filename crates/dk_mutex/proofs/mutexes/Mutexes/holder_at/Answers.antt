use Rattle.dk_mutex.proofs.Names.{◌≡◌, ◌∙◌, List, None, ap, arith, sym, Lockable, holder_at}
use Rattle.dk_mutex.proofs.Unheld.{nobody-at}
use Rattle.dk_mutex.proofs.mutexes.Mutexes.holder_at.Goals.{else-level-self-2-via-then-level-self-2+else-is_held, else-level-self-2-via-else-level-self-2}
use Rattle.dk_mutex.proofs.mutexes.Mutexes.holder_at.Goals as goal

pub returns-else-level-self-2 : goal.returns-else-level-self-2
returns-else-level-self-2 c =
    let rows = c.self.inside.rows in
    let nobody : holder_at c.args.level rows ≡ None = elim c.else-level-self-2.branch [
      | else-level-self-2-via-then-level-self-2+else-is_held w ↦ nobody-at rows c.args.level rows (sym c.self.invariant.1.held ∙ sym w.is_held.ensures ∙ w.if-is_held.false)
      | else-level-self-2-via-else-level-self-2 w ↦ c.self.invariant.1.before c.args.level (omega (arith, c.if-level-self.false, w.if-level-self-2.false))
    ] in
    sym nobody ∙ ap (λ (all : List Lockable). holder_at c.args.level all) c.self.view_is
