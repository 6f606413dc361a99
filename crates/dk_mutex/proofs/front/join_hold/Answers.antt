use Rattle.dk_mutex.proofs.Names.{◌≡◌, ◌≤◌, ◌∙◌, None, Some, sym, FirstHold}
use Rattle.dk_mutex.proofs.Firsts.{first-lower, no-higher}
use Rattle.dk_mutex.proofs.front.join_hold.Goals.{in-Some-first+else-hold-row, in_default-first}
use Rattle.dk_mutex.proofs.front.join_hold.Goals as goal

pub returns : goal.returns
returns c =
    let row = c.args.row.now in
    let below : (hold : FirstHold) → c.args.first.now ≡ Some hold → row.ceiling ≤ hold.ceiling = elim c.match-first.branch [
      | in-Some-first+else-hold-row w ↦ no-higher c.args.first.now w.in-Some-first.hold row w.in-Some-first.is w.if-hold-row.false
      | in_default-first w ↦ λ hold is. (let none : None ≡ Some hold = sym w.in_default-first.is ∙ is in absurd (cc))
    ] in
    λ rows was. first-lower c.args.first.now rows row c.in-Some.holder c.in-Some.is below was
