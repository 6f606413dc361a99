use Rattle.dk_show_request.proofs.Names.{◌∙◌, ap, first_of, found_of, first_value-rows}
use Rattle.dk_show_request.proofs.given.Given.word.Goals as goal

pub returns : goal.returns
returns c =
    c.get_str.ensures ∙ first_value-rows (found_of c.self.inside.matches) c.args.name.now ∙ ap (first_of c.args.name.now) c.self.view_is
