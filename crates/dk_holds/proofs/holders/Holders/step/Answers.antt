use Rattle.std.proofs.Common.{◌≡◌, ◌∙◌, ◌+◌, ◌-◌, ap, rules}
use Rattle.std.specs.Prelude.{None, option_map, slice_get}
use Rattle.dk_holds.specs.Holds.{behind, last_entry}
use Rattle.dk_holds.proofs.Stepping.{goes, stays}
use Rattle.dk_holds.proofs.holders.Holders.step.Goals as goal

pub returns-then-is_none : goal.returns-then-is_none
returns-then-is_none c = λ es start holders.
    let none : c.args.line.now.event ≡ None = search rules in
    stays c.args.self.now c.args.line.now es c.requires.some start none holders

pub returns : goal.returns
returns c = λ es start holders.
    let line = c.args.line.now in
    goes c.args.self.now c.step_all.new.rows line es c.requires.some start holders
    (λ m less. c.step_all.ensures m less
    ∙ ap (λ rows. option_map (behind m (line.start + (line.count - 1)) (last_entry line)) (slice_get rows m)) c.self.view_is)
