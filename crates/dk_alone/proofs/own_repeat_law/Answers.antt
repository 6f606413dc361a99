use Rattle.dk_alone.proofs.Names.{[], ◌+◌, ◌*◌, sym, ap, ◌∙◌, subst, slice_index_or, take, alone, entries_of, KeepsToItself}
use Rattle.dk_alone.proofs.Cycles.{begins-sum, begins-far}
use Rattle.dk_alone.proofs.own_repeat_law.Goals as goal

pub returns : goal.returns
returns c config programs others p s k cycles m n checked accepted keeps agree again begins more =
    let near = begins-sum config p s m again.begins begins in
    let far = begins-far config p s k cycles m again.begins again.begins_later begins in
    let keeps' = subst (KeepsToItself config p) agree keeps in
    c.windows_law.ensures config others p (s + cycles * k + m) n checked accepted keeps' far (begins-sum config p (s + cycles * k + m) n far more)
    ∙ ap (λ program. entries_of p (take n (alone config p program (s + cycles * k + m + n)).past)) (sym agree)
    ∙ ap (entries_of p) (c.repeat_alone_law.ensures config (slice_index_or programs p []) p s k cycles m n checked accepted keeps again)
    ∙ sym (c.windows_law.ensures config programs p (s + m) n checked accepted keeps near (begins-sum config p (s + m) n near more))
