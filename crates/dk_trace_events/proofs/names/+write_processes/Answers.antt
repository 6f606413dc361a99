use Rattle.std.proofs.Common.{◌+◌, refl, rules}
use Rattle.std.specs.Prelude.{IsErr}
use Rattle.dk_outside.proofs.WrittenLemmas.{first_fails, second_ends}
use Rattle.dk_ledger.proofs.HeaderLemmas.{rest_of, first_named}
use Rattle.dk_groups.proofs.ProcessTexts.{parts_of}
use Rattle.dk_trace_events.specs.Names.{process_text, process_texts}
use Rattle.dk_trace_events.proofs.names.+write_processes.Goals as goal

pub returns-in_err-write_to-in-len1-up : goal.returns-in_err-write_to-in-len1-up
returns-in_err-write_to-in-len1-up g t c =
    let parts = parts_of process_text process_texts (λ p l ls. refl) c.args.process c.args.lines.now c.line-item.result c.process_of.result c.in-len1-up.len_at_least c.line-item.is c.process_of.ensures in
    let fails : IsErr c.from_residual.result = search rules in
    first_fails c.process_of.result (process_texts (c.args.process + 1) (rest_of c.args.lines.now)) (process_texts c.args.process c.args.lines.now) parts
    _ _ _ c.from_residual.result fails c.in_err-write_to-in-len1-up.ensures

pub returns-in_ok-write_to-in-len1-up : goal.returns-in_ok-write_to-in-len1-up
returns-in_ok-write_to-in-len1-up g t c =
    let parts = parts_of process_text process_texts (λ p l ls. refl) c.args.process c.args.lines.now c.line-item.result c.process_of.result c.in-len1-up.len_at_least c.line-item.is c.process_of.ensures in
    second_ends c.process_of.result (process_texts (c.args.process + 1) (rest_of c.args.lines.now)) (process_texts c.args.process c.args.lines.now) parts
    _ _ _ _ c.write_processes.result c.in_ok-write_to-in-len1-up.ensures c.write_processes.ensures

pub process_of-requires : goal.process_of-requires
process_of-requires g t c = first_named c.args.lines.now c.line-item.result c.in-len1-up.len_at_least c.line-item.is c.requires.names
