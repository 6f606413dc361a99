use Rattle.dk_budget.proofs.Names.{◌≡◌, ◌<◌, ◌+◌, ◌-◌, ◌/◌, ◌∙◌, ap, sym, subst, ℕ, Option, min, if◌then◌else◌, sum_every, is_before}
use Rattle.dk_budget.proofs.Progressions.{rounded_up, sum_every-before}
use Rattle.dk_budget.proofs.starts.Starts.before.Goals as goal

pub returns-in-Some-clause-sums : goal.returns-in-Some-clause-sums
returns-in-Some-clause-sums c = λ f.
    let all = c.args.self.now in
    let positive : 0 < all.period = subst (λ (p : ℕ). 0 < p) c.ticks.ensures.length c.ticks.ensures.some in
    let windows : c.windows_in.result ≡ rounded_up (c.in-Some.tick - all.first) all.period =
    c.windows_in.ensures
    ∙ ap (λ a. (a + (c.ticks.result - 1)) / all.period) c.saturating_sub.ensures
    ∙ ap (λ p. (c.in-Some.tick - all.first + (p - 1)) / all.period) c.ticks.ensures.length in
    let count = c.min.ensures ∙ ap (λ k. min k all.count) windows in
    ap (λ k. sum_every all.period all.first k f) count
    ∙ sym (sum_every-before all.period all.first all.count c.in-Some.tick f positive)
    ∙ sym (ap (λ (t : Option ℕ). sum_every all.period all.first all.count (λ s. if is_before t s then f s else 0)) c.in-Some.is)
