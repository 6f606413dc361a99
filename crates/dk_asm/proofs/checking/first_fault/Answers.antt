use Rattle.dk_asm.proofs.Imports.{◌≡◌, ◌∙◌, ◌+◌, None, ap, sym, take, arith, below_more, ⊎_elim, cases_lt, length-map, seen_line, seen_lines, instructions, has_instruction, cause_at}
use Rattle.dk_asm.proofs.Places.{few_instructions, take_one, length_taken, instructions_push, at_most_one}
use Rattle.dk_asm.proofs.Causes.{cause_is, get_seen, none_past}
use Rattle.dk_asm.proofs.checking.first_fault.Goals as goal

pub cause_of-requires : goal.cause_of-requires
cause_of-requires c =
    let few = few_instructions (take c.loop-i.i (seen_lines c.args.lines.now)) in
    let taken = length_taken seen_line c.args.lines.now c.loop-i.i (omega arith) in
    omega (arith, few, taken, c.loop-i.invariant.count, c.requires.few)

pub returns-in-Some-clause-first : goal.returns-in-Some-clause-first
returns-in-Some-clause-first c =
    let at = get_seen seen_line c.args.lines.now c.loop-i.i c.index-lines-i.result c.loop-i-test.true c.index-lines-i.is in
    record {
      here = sym (cause_is c.args.labels.now.places (seen_lines c.args.lines.now) c.loop-i.i (seen_line c.index-lines-i.result) c.args.labels.now.instructions c.loop-i.before c.requires.places at c.requires.count c.loop-i.invariant.count)
          ∙ sym c.in-Some.ensures;
      none_before = c.loop-i.invariant.none;
    }

pub overflow_add-before : goal.overflow_add-before
overflow_add-before c =
    let few = few_instructions (take c.loop-i.i (seen_lines c.args.lines.now)) in
    let taken = length_taken seen_line c.args.lines.now c.loop-i.i (omega arith) in
    let one = at_most_one (has_instruction (seen_line c.index-lines-i.result)) in
    omega (arith, few, taken, one, c.loop-i.invariant.count, c.instructions_on-before.ensures, c.requires.few)

pub loop-i-preserved : goal.loop-i-preserved
loop-i-preserved c =
    let more = take_one seen_line c.args.lines.now c.loop-i.i c.index-lines-i.result c.loop-i-test.true c.index-lines-i.is in
    let at = get_seen seen_line c.args.lines.now c.loop-i.i c.index-lines-i.result c.loop-i-test.true c.index-lines-i.is in
    let none : cause_at (seen_lines c.args.lines.now) c.loop-i.i ≡ None =
    sym (cause_is c.args.labels.now.places (seen_lines c.args.lines.now) c.loop-i.i (seen_line c.index-lines-i.result) c.args.labels.now.instructions c.loop-i.before c.requires.places at c.requires.count c.loop-i.invariant.count)
    ∙ sym c.in_default.ensures in
    record {
      count = ap (λ n. n + c.instructions_on-before.result) c.loop-i.invariant.count
          ∙ ap (λ n. instructions (take c.loop-i.i (seen_lines c.args.lines.now)) + n) c.instructions_on-before.ensures
          ∙ sym (instructions_push (take c.loop-i.i (seen_lines c.args.lines.now)) (seen_line c.index-lines-i.result))
          ∙ ap instructions (sym more);
      none = below_more (λ j. cause_at (seen_lines c.args.lines.now) j ≡ None) c.loop-i.i c.loop-i.invariant.none none;
    }

pub returns-clause-first : goal.returns-clause-first
returns-clause-first c = λ i.
    ⊎_elim (λ below. c.loop-i.invariant.none i below) (λ past. none_past (seen_lines c.args.lines.now) i (omega (arith, length-map c.args.lines.now seen_line))) (cases_lt i c.loop-i.i)
