use Rattle.dk_picture.proofs.Names.{◌∙◌, ◌++◌, ap, append_assoc, LEGEND, legend_head}
use Rattle.dk_picture.specs.Pictures.{legend_text}
use Rattle.dk_picture.proofs.Legends.{legend_is}
use Rattle.dk_picture.proofs.whole.legend_text.Goals as goal

pub returns : goal.returns
unfolding legend_text
returns c =
    c.in_ok-push_words-2.ensures ∙ ap (λ t. t ++ LEGEND.now) (c.in_ok-push_words.ensures ∙ ap (λ t. t ++ c.args.key.now) c.in_ok-text.ensures)
    ∙ append_assoc (legend_head c.args.y) c.args.key.now LEGEND.now ∙ ap (λ t. legend_head c.args.y ++ (c.args.key.now ++ t)) legend_is
