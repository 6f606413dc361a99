use Rattle.dk_show_request.proofs.Names.{arith, string_bytes, nat_tests, is_flag}
use Rattle.dk_show_request.proofs.Finding.{length-filter-map}
use Rattle.dk_show_request.proofs.arguments.has_flags.Goals as goal

pub returns : goal.returns
returns c = grind (arith, nat_tests, length-filter-map string_bytes (is_flag c.args.form.now) c.args.words.now)
