use Rattle.std.proofs.Common.{◌++◌, [], ◌∷◌, ap, refl, sym, rules}
use Rattle.std.specs.Prelude.{IsErr}
use Rattle.dk_outside.proofs.WrittenLemmas.{first_fails, second_ends}
use Rattle.dk_ledger.specs.Heading.{ended}
use Rattle.dk_holds.specs.Holds.{holding}
use Rattle.dk_vcd.specs.Changes.{rest_text}
use Rattle.dk_vcd.specs.Holders.{event_before, moved_text}
use Rattle.dk_vcd.proofs.changes.write_rest.Goals as goal

pub returns-in_err-write_moved : goal.returns-in_err-write_moved
returns-in_err-write_moved g c = λ past holders.
    let first = moved_text c.args.header.now (event_before c.args.before) (λ m. holding m past) in
    let behind = ended (rest_text c.args.overran c.args.before c.args.group) in
    let fails : IsErr c.from_residual.result = search rules in
    first_fails first behind (first ++ behind) refl _ _ _ c.from_residual.result fails (c.in_err-write_moved.ensures past holders)

pub returns : goal.returns
returns g c = λ past holders.
    let first = moved_text c.args.header.now (event_before c.args.before) (λ m. holding m past) in
    second_ends first (c.rest_of.result ++ 10 ∷ []) (first ++ ended (rest_text c.args.overran c.args.before c.args.group))
    (ap (λ t. first ++ ended t) (sym c.rest_of.ensures.text)) _ _ _ _ c.write_to.result (c.in_ok-write_moved.ensures past holders) c.write_to.ensures
