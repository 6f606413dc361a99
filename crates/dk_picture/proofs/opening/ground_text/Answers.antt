use Rattle.dk_picture.proofs.Names.{◌∙◌, ◌++◌, ap, head_text}
use Rattle.dk_picture.specs.Opening.{ground_text}
use Rattle.std.specs.Prelude.{string_bytes}
use Rattle.dk_picture.proofs.Styles.{style_is}
use Rattle.dk_picture.proofs.opening.ground_text.Goals as goal

pub returns : goal.returns
unfolding ground_text
returns c =
    c.in_ok-push_line.ensures ∙ ap (λ t. string_bytes c.in_ok-text.text ++ t) c.in_ok-head_text.ensures
    ∙ ap (λ t. t ++ head_text c.args.height c.args.head.now) (c.in_ok-text.ensures ∙ style_is)
