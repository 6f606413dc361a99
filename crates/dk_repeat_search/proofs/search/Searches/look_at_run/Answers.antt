use Rattle.dk_repeat_search.proofs.Names.{◌≡◌, ◌∙◌, ◌+◌, ◌-◌, ◌%◌, ap, sym}
use Rattle.dk_repeat_search.proofs.Looking.{run-done, run-looked-for, run-waits-for}
use Rattle.dk_repeat_search.proofs.search.Searches.look_at_run.Goals as goal

pub returns-then-is_done-clause-looked : goal.returns-then-is_done-clause-looked
returns-then-is_done-clause-looked c =
    let k = c.args.kernel.now in
    λ w some few. run-done k (k.ticks + w) c.args.self.now.run (sym c.is_done.ensures ∙ c.if-is_done.true)

pub returns-then-wait-self-clause-looked : goal.returns-then-wait-self-clause-looked
returns-then-wait-self-clause-looked c =
    let k = c.args.kernel.now in
    let old = c.args.self.now.run in
    let wait-is : c.wait-wait.result ≡ old.longest - k.ticks % old.longest = c.wait-wait.ensures.is ∙ ap (λ n. old.longest - n % old.longest) c.requires.tick in
    run-looked-for k c.found_law.ensures.run_later old.longest c.requires.is.run.longest c.look_now.new.self.run c.wait-wait.result wait-is c.in_ok-look_now.ensures.looked

pub returns-clause-looked : goal.returns-clause-looked
returns-clause-looked c =
    let k = c.args.kernel.now in
    let old = c.args.self.now.run in
    let wait-is : c.wait-wait.result ≡ old.longest - k.ticks % old.longest = c.wait-wait.ensures.is ∙ ap (λ n. old.longest - n % old.longest) c.requires.tick in
    run-waits-for k c.found_law.ensures.run_later old.longest c.requires.is.run.longest old c.wait-wait.result wait-is c.if-wait-self.false c.requires.looked
