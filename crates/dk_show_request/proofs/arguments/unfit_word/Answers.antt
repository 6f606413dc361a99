use Rattle.dk_show_request.proofs.Names.{arith, string_bytes, is_unfit}
use Rattle.dk_show_request.proofs.Finding.{find-map}
use Rattle.dk_show_request.proofs.arguments.unfit_word.Goals as goal

pub returns-in-Some : goal.returns-in-Some
returns-in-Some c = grind (arith, find-map string_bytes (is_unfit c.args.form.now) c.args.words.now)

pub returns-in-None : goal.returns-in-None
returns-in-None c = grind (arith, find-map string_bytes (is_unfit c.args.form.now) c.args.words.now)
