use Rattle.std.proofs.Common.{◌++◌, [], ◌∷◌, ap, sym, rules}
use Rattle.std.specs.Prelude.{IsErr}
use Rattle.dk_outside.proofs.WrittenLemmas.{first_fails, second_ends}
use Rattle.dk_ledger.specs.Heading.{ended}
use Rattle.dk_holds.specs.Holds.{holding}
use Rattle.dk_vcd.specs.Changes.{change_text, rest_text}
use Rattle.dk_vcd.specs.Holders.{event_before, moved_text}
use Rattle.dk_vcd.proofs.changes.write_group.Goals as goal

pub returns-in_err-write_to : goal.returns-in_err-write_to
returns-in_err-write_to g c = λ past holders.
    let behind = moved_text c.args.header.now (event_before c.args.before) (λ m. holding m past) ++ ended (rest_text c.args.overran c.args.before c.args.group) in
    let fails : IsErr c.from_residual.result = search rules in
    first_fails (c.start_of.result ++ 10 ∷ []) behind (change_text c.args.header.now (λ m. holding m past) c.args.overran c.args.before c.args.group)
    (ap (λ t. ended t ++ behind) (sym c.start_of.ensures.text)) _ _ _ c.from_residual.result fails c.in_err-write_to.ensures

pub returns : goal.returns
returns g c = λ past holders.
    let behind = moved_text c.args.header.now (event_before c.args.before) (λ m. holding m past) ++ ended (rest_text c.args.overran c.args.before c.args.group) in
    second_ends (c.start_of.result ++ 10 ∷ []) behind (change_text c.args.header.now (λ m. holding m past) c.args.overran c.args.before c.args.group)
    (ap (λ t. ended t ++ behind) (sym c.start_of.ensures.text)) _ _ _ _ c.write_rest.result c.in_ok-write_to.ensures (c.write_rest.ensures past holders)
