use Rattle.dk_ledger.proofs.Names.{rules, IsErr, first_fails, second_ends, process_lines, ended}
use Rattle.dk_ledger.proofs.HeaderLemmas.{rest_of, process_parts, first_named, rest_named}
use Rattle.dk_ledger.proofs.header_text.+write_processes.Goals as goal

pub returns-in_err-write_to-in-len1-up : goal.returns-in_err-write_to-in-len1-up
returns-in_err-write_to-in-len1-up g t c =
    let parts = process_parts c.args.processes.now c.process-item.result c.process_text.result c.in-len1-up.len_at_least c.process-item.is c.process_text.ensures.text in
    let fails : IsErr c.from_residual.result = search rules in
    first_fails (ended c.process_text.result) (process_lines (rest_of c.args.processes.now)) (process_lines c.args.processes.now) parts
    _ _ _ c.from_residual.result fails c.in_err-write_to-in-len1-up.ensures

pub returns-in_ok-write_to-in-len1-up : goal.returns-in_ok-write_to-in-len1-up
returns-in_ok-write_to-in-len1-up g t c =
    let parts = process_parts c.args.processes.now c.process-item.result c.process_text.result c.in-len1-up.len_at_least c.process-item.is c.process_text.ensures.text in
    second_ends (ended c.process_text.result) (process_lines (rest_of c.args.processes.now)) (process_lines c.args.processes.now) parts
    _ _ _ _ c.write_processes.result c.in_ok-write_to-in-len1-up.ensures c.write_processes.ensures

pub process_text-requires : goal.process_text-requires
process_text-requires g t c = first_named c.args.processes.now c.process-item.result c.in-len1-up.len_at_least c.process-item.is c.requires

pub write_processes-requires : goal.write_processes-requires
write_processes-requires g t c = λ κs lives. (search rules, (search rules, rest_named c.args.processes.now c.requires))
