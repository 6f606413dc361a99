use Rattle.dk_show_request.proofs.Names.{◌∙◌, ap, sym, option_map, is_no_ticks}
use Rattle.dk_show_request.proofs.Finding.{find-map}
use Rattle.dk_show_request.proofs.arguments.first_no_ticks.Goals as goal

pub returns : goal.returns
returns c = ap (option_map (λ w. w.now)) c.found_no_ticks.ensures ∙ sym (find-map (λ w. w.now) is_no_ticks c.args.words.now)
