use Rattle.std.proofs.Common.{◌+◌, refl, rules}
use Rattle.std.specs.Prelude.{IsErr}
use Rattle.dk_outside.proofs.WrittenLemmas.{first_fails, second_ends}
use Rattle.dk_ledger.proofs.HeaderLemmas.{rest_of, first_named}
use Rattle.dk_groups.proofs.ProcessTexts.{parts_of}
use Rattle.dk_vcd.specs.Dumps.{process_text, process_texts}
use Rattle.dk_vcd.proofs.opening.+write_processes.Goals as goal

pub returns-in_err-write_process-in-len1-up : goal.returns-in_err-write_process-in-len1-up
returns-in_err-write_process-in-len1-up g t c =
    let own = process_text c.args.process c.line-item.result in
    let parts = parts_of process_text process_texts (λ p l ls. refl) c.args.process c.args.lines.now c.line-item.result own c.in-len1-up.len_at_least c.line-item.is refl in
    let fails : IsErr c.from_residual.result = search rules in
    first_fails own (process_texts (c.args.process + 1) (rest_of c.args.lines.now)) (process_texts c.args.process c.args.lines.now) parts
    _ _ _ c.from_residual.result fails c.in_err-write_process-in-len1-up.ensures

pub returns-in_ok-write_process-in-len1-up : goal.returns-in_ok-write_process-in-len1-up
returns-in_ok-write_process-in-len1-up g t c =
    let own = process_text c.args.process c.line-item.result in
    let parts = parts_of process_text process_texts (λ p l ls. refl) c.args.process c.args.lines.now c.line-item.result own c.in-len1-up.len_at_least c.line-item.is refl in
    second_ends own (process_texts (c.args.process + 1) (rest_of c.args.lines.now)) (process_texts c.args.process c.args.lines.now) parts
    _ _ _ _ c.write_processes.result c.in_ok-write_process-in-len1-up.ensures c.write_processes.ensures

pub write_process-requires : goal.write_process-requires
write_process-requires g t c = first_named c.args.lines.now c.line-item.result c.in-len1-up.len_at_least c.line-item.is c.requires.names
