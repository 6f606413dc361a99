use Rattle.std.proofs.Common.{◌++◌, ap, codes, refl, sym, rules}
use Rattle.std.specs.Prelude.{IsErr}
use Rattle.dk_outside.proofs.WrittenLemmas.{first_fails, second_ends}
use Rattle.dk_holds.specs.Holds.{holding}
use Rattle.dk_vcd.specs.declared.holders.Occasion.{Occasion}
use Rattle.dk_vcd.specs.Holders.{holders_text}
use Rattle.dk_vcd.proofs.holders.write_first.Goals as goal

pub returns-in_err-write_holders : goal.returns-in_err-write_holders
returns-in_err-write_holders g c = λ past holders.
    let own = holders_text c.args.header.now Occasion.Start (λ m. holding m past) in
    let fails : IsErr c.from_residual.result = search rules in
    first_fails own (codes "$end\n") (own ++ codes "$end\n") refl
    _ _ _ c.from_residual.result fails (c.in_err-write_holders.ensures past holders)

pub returns : goal.returns
returns g c = λ past holders.
    let own = holders_text c.args.header.now Occasion.Start (λ m. holding m past) in
    second_ends own c.as_bytes.result.now (own ++ codes "$end\n") (ap (λ t. own ++ t) (sym c.as_bytes.ensures.value))
    _ _ _ _ c.write_all_to.result (c.in_ok-write_holders.ensures past holders) c.write_all_to.ensures
