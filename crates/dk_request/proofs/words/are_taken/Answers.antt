use Rattle.dk_request.proofs.Names.{◌∙◌, sym}
use Rattle.dk_request.proofs.WordLemmas.{are_taken-map}
use Rattle.dk_request.proofs.words.are_taken.Goals as goal

pub returns : goal.returns
returns c = c.are_taken_texts.ensures ∙ sym (are_taken-map c.args.synopsis.now c.args.words.now)
