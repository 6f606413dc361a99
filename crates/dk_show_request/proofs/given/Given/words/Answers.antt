use Rattle.dk_show_request.proofs.Names.{◌∙◌, ap, all_of, found_of, raw_values-rows}
use Rattle.dk_show_request.proofs.given.Given.words.Goals as goal

pub returns : goal.returns
returns c =
    c.get_raw.ensures ∙ raw_values-rows (found_of c.self.inside.matches) c.args.name.now ∙ ap (all_of c.args.name.now) c.self.view_is
