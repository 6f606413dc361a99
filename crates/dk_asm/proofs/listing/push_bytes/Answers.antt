use Rattle.std.proofs.Common.{map, decimal, codes}
use Rattle.std.proofs.lemmas.Result.{on_ok_weaker}
use Rattle.dk_asm.proofs.Listings.{after_name}
use Rattle.dk_asm.proofs.listing.push_bytes.Goals as goal

pub returns : goal.returns
returns c =
    on_ok_weaker c.push_numbers.result
    (λ e. after_name c.args.text.now.items c.push_word.new.text.items c.push_numbers.new.text.items (codes "BYTES") (map decimal c.args.bytes.now) c.in_ok-push_word.ensures e) c.push_numbers.ensures
