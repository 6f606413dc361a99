use Rattle.std.proofs.Common.{◌≡◌, ◌∙◌, ◌%◌, [], ◌∷◌, ◌++◌, arith, ap, slice_index_or}
use Rattle.dk_gen.specs.Draws.{draw, state}
use Rattle.dk_gen.specs.Generated.{costs_of, levels_of, mutex_with, process_count}
use Rattle.dk_gen.proofs.Steps.{made_none, made_more, made_all, long_period, period_is}
use Rattle.dk_gen.proofs.Sizes.{draw_most, few_processes}
use Rattle.dk_gen.proofs.workload.workload.Goals as goal

pub loop-i-init : goal.loop-i-init
loop-i-init c =
    made_none c.args.number c.draw_frame-count.new.draws c.new-processes.result.items c.new-programs.result.items
    (c.draw_frame-count.ensures.next ∙ ap (λ d. state d 9) c.new-draws.ensures) c.new-processes.ensures.items c.new-programs.ensures.items

pub draw_budget-budget-requires-clause-cheap : goal.draw_budget-budget-requires-clause-cheap
draw_budget-budget-requires-clause-cheap c =
    let is : c.draw_frame-count.result.costs ≡ costs_of c.new-draws.result = c.draw_frame-count.ensures.costs in
    let switch : c.draw_frame-count.result.costs.switch ≡ draw c.new-draws.result 6 3 = ap (λ costs. costs.switch) is in
    let most = draw_most c.new-draws.result 6 2 in
    omega (arith, switch, most)

pub draw_budget-budget-requires-clause-few : goal.draw_budget-budget-requires-clause-few
draw_budget-budget-requires-clause-few c =
    let is : c.draw_frame-count.result.processes ≡ process_count c.new-draws.result = c.draw_frame-count.ensures.processes in
    let few = few_processes c.new-draws.result in
    omega (arith, is, few)

pub draw_budget-budget-requires-clause-long : goal.draw_budget-budget-requires-clause-long
draw_budget-budget-requires-clause-long c = long_period c.new-draws.result _ c.draw_frame-count.result.levels _ c.draw_frame-count.ensures.levels (omega arith)

pub loop-i-preserved : goal.loop-i-preserved
loop-i-preserved c =
    let number : c.new-draws.result ≡ c.args.number = c.new-draws.ensures in
    let costs : c.draw_frame-count.result.costs ≡ costs_of c.args.number = c.draw_frame-count.ensures.costs ∙ ap costs_of number in
    let levels : c.draw_frame-count.result.levels ≡ levels_of c.args.number = c.draw_frame-count.ensures.levels ∙ ap levels_of number in
    let count : c.draw_frame-count.result.processes ≡ process_count c.args.number = c.draw_frame-count.ensures.processes ∙ ap process_count number in
    let period = period_is c.args.number (c.loop-i.i % 3) c.draw_frame-count.result.levels (record { period = 0; release = 0 }) levels (omega arith) in
    made_more c.args.number c.loop-i.i c.loop-i.draws c.loop-i.processes.items c.loop-i.programs.items c.loop-i.invariant
    c.draw_frame-count.result.costs.switch (slice_index_or c.draw_frame-count.result.levels (c.loop-i.i % 3) (record { period = 0; release = 0 })).period c.draw_frame-count.result.processes
    c.draw_budget-budget.result c.draw_budget-budget.new.draws c.draw_program.new.draws c.in_ok-process_row.field-0 c.in_ok-draw_program.field-0 c.push.new.self.items c.push-in-loop-i.new.self.items
    (ap (λ k. k.switch) costs) period count c.draw_budget-budget.ensures.budget c.draw_budget-budget.ensures.next
    c.in_ok-process_row.ensures c.in_ok-push.ensures.items c.in_ok-draw_program.ensures.bytes c.in_ok-draw_program.ensures.next c.in_ok-push-2.ensures.items

pub draw_mutex-requires : goal.draw_mutex-requires
draw_mutex-requires c = long_period c.new-draws.result _ c.draw_frame-count.result.levels _ c.draw_frame-count.ensures.levels (omega arith)

pub returns : goal.returns
returns c =
    let number : c.new-draws.result ≡ c.args.number = c.new-draws.ensures in
    let costs : c.draw_frame-count.result.costs ≡ costs_of c.args.number = c.draw_frame-count.ensures.costs ∙ ap costs_of number in
    let levels : c.draw_frame-count.result.levels ≡ levels_of c.args.number = c.draw_frame-count.ensures.levels ∙ ap levels_of number in
    let count : c.draw_frame-count.result.processes ≡ process_count c.args.number = c.draw_frame-count.ensures.processes ∙ ap process_count number in
    let period = period_is c.args.number 0 c.draw_frame-count.result.levels (record { period = 0; release = 0 }) levels (omega arith) in
    let all : c.loop-i.i ≡ c.draw_frame-count.result.processes = omega arith in
    let rows : c.deref.result.now ≡ c.loop-i.processes.items = c.deref.ensures.value in
    made_all c.args.number c.loop-i.i c.loop-i.draws (slice_index_or c.draw_frame-count.result.levels 0 (record { period = 0; release = 0 })).period
    c.in_ok-from_array.field-0.items c.draw_frame-count.result.costs c.loop-i.processes.items c.loop-i.programs.items c.in_ok-draw_mutex.field-0 c.push-2.new.self.items
    c.loop-i.invariant (all ∙ count) (c.in_ok-from_array.ensures.items ∙ levels) costs period
    (c.in_ok-draw_mutex.ensures ∙ ap (mutex_with _) rows) (c.in_ok-push-3.ensures.items ∙ ap (λ xs. xs ++ c.in_ok-draw_mutex.field-0 ∷ []) c.new-mutexes.ensures.items)
