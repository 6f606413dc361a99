use Rattle.dk_asm.proofs.Imports.{◌++◌, ◌∷◌, [], sym, subst, take, arith, take_all, length-map, FitsLine, value_by, seen_line, seen_lines, IsCode}
use Rattle.dk_asm.proofs.Places.{take_one}
use Rattle.dk_asm.proofs.Encodings.{each_seen, code_push}
use Rattle.dk_asm.proofs.encoding.code_of.Goals as goal

pub push_line-requires : goal.push_line-requires
push_line-requires c = each_seen (FitsLine (value_by c.args.labels.now.places)) seen_line c.args.lines.now c.loop-line.line-index c.line-item.result c.requires c.loop-line-test.true c.line-item.is

pub loop-line-preserved : goal.loop-line-preserved
loop-line-preserved c =
    let appended = c.in_ok-push_line.ensures in
    let more = take_one seen_line c.args.lines.now c.loop-line.line-index c.line-item.result c.loop-line-test.true c.line-item.is in
    let value = value_by c.args.labels.now.places in
    let longer = code_push (value_by c.args.labels.now.places) (take c.loop-line.line-index (seen_lines c.args.lines.now)) (seen_line c.line-item.result) c.loop-line.code.items appended.0 c.loop-line.invariant appended.1 in
    subst (λ ls. IsCode (value_by c.args.labels.now.places) ls c.push_line.new.code.items) (sym more)
    (subst (IsCode (value_by c.args.labels.now.places) (take c.loop-line.line-index (seen_lines c.args.lines.now) ++ seen_line c.line-item.result ∷ [])) (sym appended.2) longer)

pub returns : goal.returns
returns c =
    let all = take_all c.loop-line.line-index (seen_lines c.args.lines.now) (omega (arith, length-map c.args.lines.now seen_line)) in
    subst (λ ls. IsCode (value_by c.args.labels.now.places) ls c.loop-line.code.items) all c.loop-line.invariant
