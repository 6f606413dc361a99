use Rattle.dk_mutex.proofs.Names.{◌≡◌, ◌∙◌, ◌-◌, ap, refl, sym, spent, hold_left}
use Rattle.std.specs.Prelude.{map}
use Rattle.dk_mutex.proofs.Fronts.{front-spent, hold-other, hold-own}
use Rattle.dk_mutex.proofs.front.Front.spend.Goals as goal

pub returns-then-is_of : goal.returns-then-is_of
returns-then-is_of c = λ rows was.
    let own = c.is_of.ensures.own c.if-is_of.true in
    front-spent c.args.id c.args.self.now _ rows refl
    (λ y named.
    let is : c.args.id ≡ y = cc in
    c.saturating_sub-self.ensures
    ∙ ap (λ n. n - 1) (was.left c.args.id own)
    ∙ sym (hold-own c.args.id rows)
    ∙ ap (λ x. hold_left x (map (spent c.args.id) rows)) is)
    was

pub returns-else-is_of : goal.returns-else-is_of
returns-else-is_of c = λ rows was.
    front-spent c.args.id c.args.self.now _ rows refl
    (λ y named. was.left y named ∙ sym (hold-other y c.args.id (c.is_of.ensures.other y c.if-is_of.false named) rows))
    was
