-- In a tick of its body a main has no more left of it than both switches leave of its budget.
use Rattle.dk_warnings.proofs.Names.{ℕ, ◌≡◌, ◌-◌, ◌*◌, ◌≤◌, true, List, length, sym, ap, subst, arith, Some, nat_tests, Configuration, budget, window_start, ThreadId, Phase, Choice, Entry, Thread, is_main, share, Job, body_left, job, phase, thread_body_left, chosen, row_of, ChoosesWithCause, HasCause, Works, body, main_named}
use Rattle.dk_warnings.proofs.Creates.{row-id}
use Rattle.dk_warnings.proofs.GreatestShares.{main-share}
use Rattle.dk_warnings.proofs.Refused.{in-body}

left-in-body : (W most : ℕ) (j : Job) → j.share ≤ most → W ≤ j.used → body_left W j ≤ most - 2 * W
left-in-body W most j share late = grind (arith, nat_tests)

pub short-body : (c : Configuration) (p : ℕ) (past : List Entry) (row : Thread) → ChoosesWithCause c past
    → chosen c past ≡ Choice.Budget (main_named p) Phase.Body → row_of c past (main_named p) ≡ Some row
    → thread_body_left c (length past) past row ≤ body c p
short-body c p past row cause choice found =
    let n = length past in
    let W = c.costs.switch in
    let works : Works c past (main_named p) Phase.Body = subst (HasCause c past) choice cause in
    let is_row : works.row ≡ row = let there = works.found in cc in
    let next : Phase.Body ≡ phase W (job c n past row) = subst (λ (r : Thread). Phase.Body ≡ phase W (job c n past r)) is_row works.phase in
    let id = row-id c past (main_named p) row found in
    let main : is_main row ≡ true = let serial : row.id.serial ≡ 0 = sym (ap (λ (i : ThreadId). i.serial) id) in grind (arith, nat_tests) in
    let most : share c past row (window_start c row.level n) ≤ budget c p = grind (arith, nat_tests, main-share) in
    left-in-body W (budget c p) (job c n past row) most (in-body W (job c n past row) next)
