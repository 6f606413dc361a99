use Rattle.dk_audit.proofs.Names.{◌∙◌, [], Bounded, Granted, Received, AllByWhen, ByWhen, LedgerFault, IsFoundIn, IfOk-weaker, if_ok, passed_on}
use Rattle.dk_audit.proofs.ByLine.{passed_in}
use Rattle.dk_audit.proofs.lines.audit_bytes.Goals as goal

pub returns-in_err-first-clause-line : goal.returns-in_err-first-clause-line
returns-in_err-first-clause-line c = λ n e.
    c.next.ensures.line n c.args.bytes.now []
    (c.in_err-first.was ∙ passed_on c.from_residual.result c.in_err-first.field-0.0 (LedgerFault.Line n) c.from_residual.ensures.1 e)
    c.new-reader.ensures

pub judge_lines-requires-clause-next : goal.judge_lines-requires-clause-next
judge_lines-requires-clause-next c =
    if_ok c.next.result c.in_ok-first.first _ c.in_ok-first.was c.next.ensures.comes c.args.bytes.now [] c.new-reader.ensures

pub returns-clause-received : goal.returns-clause-received
returns-clause-received c =
    IfOk-weaker c.judge_lines.result (IsFoundIn c.args.config.now c.args.bytes.now) _
    (λ f found. passed_in (Received c.args.config.now) c.args.config.now c.args.bytes.now f c.one_to_one.ensures
    (λ past audited. c.received_law.ensures c.args.config.now past c.requires.checked c.requires.accepted audited) found) c.judge_lines.ensures.finding

pub returns-clause-bounded : goal.returns-clause-bounded
returns-clause-bounded c =
    IfOk-weaker c.judge_lines.result (IsFoundIn c.args.config.now c.args.bytes.now) _
    (λ f found. passed_in (Bounded c.args.config.now) c.args.config.now c.args.bytes.now f c.one_to_one.ensures
    (λ past audited. c.bounded_law.ensures c.args.config.now past c.requires.checked c.requires.accepted audited) found) c.judge_lines.ensures.finding

pub returns-clause-by_when : goal.returns-clause-by_when
returns-clause-by_when c =
    IfOk-weaker c.judge_lines.result (IsFoundIn c.args.config.now c.args.bytes.now) _
    (λ f found. passed_in (ByWhen c.args.config.now) c.args.config.now c.args.bytes.now f c.one_to_one.ensures
    (λ past audited. c.by_when_law.ensures c.args.config.now past c.requires.checked c.requires.accepted audited) found) c.judge_lines.ensures.finding

pub returns-clause-all_by_when : goal.returns-clause-all_by_when
returns-clause-all_by_when c =
    IfOk-weaker c.judge_lines.result (IsFoundIn c.args.config.now c.args.bytes.now) _
    (λ f found. passed_in (AllByWhen c.args.config.now) c.args.config.now c.args.bytes.now f c.one_to_one.ensures
    (λ past audited. c.all_by_when_law.ensures c.args.config.now past c.requires.checked c.requires.accepted audited) found) c.judge_lines.ensures.finding

pub returns-clause-granted : goal.returns-clause-granted
returns-clause-granted c =
    IfOk-weaker c.judge_lines.result (IsFoundIn c.args.config.now c.args.bytes.now) _
    (λ f found. passed_in (Granted c.args.config.now) c.args.config.now c.args.bytes.now f c.one_to_one.ensures
    (c.granted_law.ensures c.args.config.now) found) c.judge_lines.ensures.finding
