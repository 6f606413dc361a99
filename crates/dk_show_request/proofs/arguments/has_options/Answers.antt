use Rattle.dk_show_request.proofs.Names.{arith, string_bytes, nat_tests, is_option}
use Rattle.dk_show_request.proofs.Finding.{length-filter-map}
use Rattle.dk_show_request.proofs.arguments.has_options.Goals as goal

pub returns : goal.returns
returns c = grind (arith, nat_tests, length-filter-map string_bytes (is_option c.args.form.now) c.args.words.now)
