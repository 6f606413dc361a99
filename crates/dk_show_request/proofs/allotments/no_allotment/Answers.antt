use Rattle.dk_show_request.proofs.Names.{◌∙◌, ap, sym, option_map, is_no_allotment}
use Rattle.dk_show_request.proofs.Finding.{find-map}
use Rattle.dk_show_request.proofs.allotments.no_allotment.Goals as goal

pub returns : goal.returns
returns c = ap (option_map (λ w. w.now)) c.found_no_allotment.ensures ∙ sym (find-map (λ w. w.now) is_no_allotment c.args.words.now)
