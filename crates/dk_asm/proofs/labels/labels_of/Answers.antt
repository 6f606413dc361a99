use Rattle.dk_asm.proofs.Imports.{◌∙◌, ◌+◌, ap, sym, take, arith, cond, take_all, length-map, place_in, place_of, seen_line, seen_lines, instructions, has_instruction}
use Rattle.dk_asm.proofs.Places.{few_instructions, take_one, length_taken, instructions_push, places_more}
use Rattle.dk_asm.proofs.labels.labels_of.Goals as goal

pub add_line-requires : goal.add_line-requires
add_line-requires c =
    let few = few_instructions (take c.loop-i.i (seen_lines c.args.lines.now)) in
    let taken = length_taken seen_line c.args.lines.now c.loop-i.i (omega arith) in
    omega (arith, few, taken, c.loop-i.invariant.count)

pub loop-i-preserved : goal.loop-i-preserved
loop-i-preserved c =
    let taken = length_taken seen_line c.args.lines.now c.loop-i.i (omega arith) in
    let more = take_one seen_line c.args.lines.now c.loop-i.i c.index-lines-i.result c.loop-i-test.true c.index-lines-i.is in
    record {
      places = places_more (take (c.loop-i.i + 1) (seen_lines c.args.lines.now)) (take c.loop-i.i (seen_lines c.args.lines.now)) c.loop-i.i c.loop-i.labels.instructions (seen_line c.index-lines-i.result)
          taken
          c.loop-i.invariant.count
          more
          (place_in c.loop-i.labels.places)
          (place_in c.add_line.new.labels.places)
          c.loop-i.invariant.places
          c.in_ok-add_line.ensures.places;
      count = c.in_ok-add_line.ensures.instructions
          ∙ ap (λ n. n + cond (has_instruction (seen_line c.index-lines-i.result)) 1 0) c.loop-i.invariant.count
          ∙ sym (instructions_push (take c.loop-i.i (seen_lines c.args.lines.now)) (seen_line c.index-lines-i.result))
          ∙ ap instructions (sym more);
    }

pub returns-clause-places : goal.returns-clause-places
returns-clause-places c = λ name.
    let all = take_all c.loop-i.i (seen_lines c.args.lines.now) (omega (arith, length-map c.args.lines.now seen_line)) in
    c.loop-i.invariant.places name ∙ ap (λ ls. place_of ls name) all
