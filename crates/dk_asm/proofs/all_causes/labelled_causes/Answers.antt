use Rattle.dk_asm.proofs.Imports.{◌≡◌, ◌∙◌, ◌+◌, ◌++◌, ap, sym, take, drop, arith, causes_from, seen_line, seen_lines, instructions, has_instruction, cause_at}
use Rattle.dk_asm.proofs.Places.{few_instructions, take_one, length_taken, instructions_push, at_most_one}
use Rattle.dk_asm.proofs.Causes.{cause_is, get_seen}
use Rattle.dk_asm.proofs.FirstCause.{one_more}
use Rattle.dk_asm.proofs.all_causes.labelled_causes.Goals as goal

pub cause_of-requires : goal.cause_of-requires
cause_of-requires c =
    let few = few_instructions (take c.loop-i.i (seen_lines c.args.lines.now)) in
    let taken = length_taken seen_line c.args.lines.now c.loop-i.i (omega arith) in
    omega (arith, few, taken, c.loop-i.invariant.count, c.requires.few)

pub overflow_add-before : goal.overflow_add-before
overflow_add-before c =
    let few = few_instructions (take c.loop-i.i (seen_lines c.args.lines.now)) in
    let taken = length_taken seen_line c.args.lines.now c.loop-i.i (omega arith) in
    let one = at_most_one (has_instruction (seen_line c.index-lines-i.result)) in
    omega (arith, few, taken, one, c.loop-i.invariant.count, c.instructions_on-before.ensures, c.requires.few)

pub loop-i-preserved : goal.loop-i-preserved
loop-i-preserved c =
    let more = take_one seen_line c.args.lines.now c.loop-i.i c.index-lines-i.result c.loop-i-test.true c.index-lines-i.is in
    let at = get_seen seen_line c.args.lines.now c.loop-i.i c.index-lines-i.result c.loop-i-test.true c.index-lines-i.is in
    let cause : c.cause_of.result ≡ cause_at (seen_lines c.args.lines.now) c.loop-i.i =
    c.cause_of.ensures
    ∙ cause_is c.args.labels.now.places (seen_lines c.args.lines.now) c.loop-i.i (seen_line c.index-lines-i.result) c.args.labels.now.instructions c.loop-i.before c.requires.places at c.requires.count c.loop-i.invariant.count in
    record {
      count = ap (λ n. n + c.instructions_on-before.result) c.loop-i.invariant.count
          ∙ ap (λ n. instructions (take c.loop-i.i (seen_lines c.args.lines.now)) + n) c.instructions_on-before.ensures
          ∙ sym (instructions_push (take c.loop-i.i (seen_lines c.args.lines.now)) (seen_line c.index-lines-i.result))
          ∙ ap instructions (sym more);
      found = ap (λ xs. xs ++ causes_from (seen_lines c.args.lines.now) (c.loop-i.i + 1) (drop (c.loop-i.i + 1) (seen_lines c.args.lines.now))) c.in_ok-push.ensures.items
          ∙ one_more (seen_lines c.args.lines.now) c.loop-i.i (seen_line c.index-lines-i.result) c.loop-i.causes.items c.cause_of.result at cause
          ∙ c.loop-i.invariant.found;
    }
