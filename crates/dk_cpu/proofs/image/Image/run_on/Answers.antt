use Rattle.std.proofs.Common.{◌≡◌, ◌<◌, ◌∙◌, length, set, ap, rules}
use Rattle.std.proofs.lemmas.List.{with_items_is, places}
use Rattle.dk_cpu.specs.State.{State}
use Rattle.dk_cpu.proofs.InSlot.{worked}
use Rattle.dk_cpu.proofs.image.Image.run_on.Goals as goal

pub returns-clause-works : goal.returns-clause-works
returns-clause-works c =
    let s : State = c.args.self.now in
    let i = c.self.inside in
    let left = c.run-done.new.memory in
    let y = c.run-done.new.context in
    let there : c.args.slot < length s.contexts = search rules in
    let codes : c.deref.result.now ≡ s.code = search rules in
    let words : c.deref_mut.result.now ≡ s.memory = search rules in
    worked c.args.slot c.args.cost c.run-done.result s _ _ y _ _ left there codes words (search rules)
    (ap (λ m. record { code = i.code.items; memory = m; contexts = set i.contexts c.args.slot y }) (with_items_is i.memory left (search (rules, places)))
    ∙ ap (λ (z : State). record { code = z.code; memory = left; contexts = set z.contexts c.args.slot y }) c.self.view_is)
    c.run-done.ensures.runs
