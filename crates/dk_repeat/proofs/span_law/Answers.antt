use Rattle.dk_repeat.proofs.Names.{◌≡◌, ◌+◌, ◌*◌, ap, ◌∙◌, arith, entry_at}
use Rattle.dk_repeat.proofs.Repeating.{spans}
use Rattle.dk_repeat.proofs.span_law.Goals as goal

pub returns : goal.returns
returns c config programs s k cycles m n checked accepted again =
    spans config programs (s + cycles * k + m) (s + m) n (λ j.
    let near : (s + cycles * k + m) + j ≡ s + cycles * k + (m + j) = omega arith in
    let far : s + (m + j) ≡ (s + m) + j = omega arith in
    ap (entry_at config programs) near ∙ c.forever_law.ensures config programs s k cycles (m + j) checked accepted again ∙ ap (entry_at config programs) far)
