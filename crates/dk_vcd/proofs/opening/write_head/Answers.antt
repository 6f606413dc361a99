use Rattle.std.proofs.Common.{◌++◌, codes, refl, rules}
use Rattle.std.specs.Prelude.{IsErr}
use Rattle.dk_outside.proofs.WrittenLemmas.{first_fails, second_ends}
use Rattle.dk_holds.specs.Holds.{holding}
use Rattle.dk_vcd.specs.Dumps.{head_text, scopes_text}
use Rattle.dk_vcd.specs.declared.holders.Occasion.{Occasion}
use Rattle.dk_vcd.specs.Holders.{holders_text}
use Rattle.dk_vcd.proofs.opening.write_head.Goals as goal

pub returns-in_err-write_signals : goal.returns-in_err-write_signals
returns-in_err-write_signals g c = λ past holders.
    let h = c.args.header.now in
    let behind = holders_text h Occasion.Start (λ m. holding m past) ++ codes "$end\n" in
    let fails : IsErr c.from_residual.result = search rules in
    first_fails (scopes_text h.processes) behind (head_text h (λ m. holding m past)) refl
    _ _ _ c.from_residual.result fails c.in_err-write_signals.ensures

pub returns : goal.returns
returns g c = λ past holders.
    let h = c.args.header.now in
    let behind = holders_text h Occasion.Start (λ m. holding m past) ++ codes "$end\n" in
    second_ends (scopes_text h.processes) behind (head_text h (λ m. holding m past)) refl
    _ _ _ _ c.write_first.result c.in_ok-write_signals.ensures (c.write_first.ensures past holders)
