use Rattle.dk_mutex.proofs.Names.{◌≡◌, ◌<◌, ◌∙◌, ◌⊎◌, inl, inr, ap, min, Some, sym, subst, ceiling_at}
use Rattle.dk_mutex.proofs.Locking.{front-locked}
use Rattle.dk_mutex.proofs.front.Front.locked.Goals.{then-ceiling-self, else-ceiling-self}
use Rattle.dk_mutex.proofs.front.Front.locked.Goals as goal

pub returns-then-is_of : goal.returns-then-is_of
returns-then-is_of c = λ rows m next was can at is.
    let front = c.args.self.now in
    let h = c.args.holder.now in
    let first : (ceiling_at rows m < front.level) ⊎ (front.holder ≡ Some h.thread) = elim c.if-ceiling-self.branch [
      | then-ceiling-self w ↦ inl (subst (λ n. n < front.level) (sym at) w.if-ceiling-self.true)
      | else-ceiling-self w ↦ inr (w.is_of.ensures.own (sym w.value-is ∙ c.if-is_of.true))
    ] in
    let made : record { level = c.min.result; holder = Some h.thread; left = h.left } ≡ next = cc in
    front-locked h m rows can front was next first
    (sym made ∙ ap (λ n. record { level = n; holder = Some h.thread; left = h.left }) (c.min.ensures ∙ ap (min front.level) (sym at)))

pub returns-else-is_of : goal.returns-else-is_of
returns-else-is_of c = λ rows m next was can at is. absurd (cc)
