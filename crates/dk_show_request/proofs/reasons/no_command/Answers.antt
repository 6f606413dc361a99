use Rattle.dk_show_request.proofs.Names.{◌∙◌, ap, sym, option_map, is_no_command}
use Rattle.dk_show_request.proofs.Finding.{find-map}
use Rattle.dk_show_request.proofs.reasons.no_command.Goals as goal

pub returns : goal.returns
returns c = ap (option_map (λ w. w.now)) c.found_no_command.ensures ∙ sym (find-map (λ w. w.now) is_no_command c.args.words.now)
