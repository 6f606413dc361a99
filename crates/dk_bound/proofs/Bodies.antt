-- What an entry leaves of a thread's body, and what the next tick finds.
use Rattle.dk_bound.proofs.Names.{share-same, ℕ, ◌≡◌, ◌+◌, ◌-◌, ◌<◌, ◌≤◌, inl, inr, Bool, false, cond, List, ◌∷◌, length, refl, ap, ◌∙◌, arith, cases_Bool, Configuration, IsChecked, period, window_start, or-none, Entry, is_budget_of, is_out_of, does, is_wait, stops, Thread, family, after_entry, share, Job, job, body_left, thread_body_left, is_closed, rem, Audited, window_start-le, count-charged, the_job, same-job, Has, RowFits, nat_tests}

pub level-positive : (c : Configuration) (y : Thread) → IsChecked c → RowFits c y → 0 < period c y.level
level-positive c y checked fits = checked.positive y.level (let a = fits.high in let b = checked.reaches y.id.process fits.known in omega arith)

-- a row that the entry does not stop stays as it is
pub row-same : (e : Entry) (n : ℕ) (x : Thread) → stops x.id e ≡ false → after_entry e n x ≡ x
row-same e n x runs = rw runs (rw (or-none x.stop) refl)

pub closed-entry : (c : Configuration) (e : Entry) (past : List Entry) (x : Thread) → does is_wait x.id e ≡ false
    → is_closed c (length past) (e ∷ past) x ≡ is_closed c (length past) past x
closed-entry c e past x stays = grind (arith, nat_tests)

-- the numbers of a thread after an entry that does not close it
job-entry : (c : Configuration) (e : Entry) (past : List Entry) (x : Thread) → IsChecked c → RowFits c x → Has (family c x.id.process past) x → Audited c (e ∷ past)
    → stops x.id e ≡ false → does is_wait x.id e ≡ false
    → job c (length past) (e ∷ past) (after_entry e (length past) x)
    ≡ the_job (job c (length past) past x).share (cond (is_budget_of x.id e) 1 0 + (job c (length past) past x).used)
    (cond (is_out_of x.id e) 1 0 + (job c (length past) past x).out_ticks) (job c (length past) past x).closed
job-entry c e past x checked row has audited runs stays =
    let n = length past in
    let w = window_start c x.level n in
    let after = job c n (e ∷ past) (after_entry e n x) in
    same-job after.share (share c past x w)
    after.used (cond (is_budget_of x.id e) 1 0 + (job c n past x).used)
    after.out_ticks (cond (is_out_of x.id e) 1 0 + (job c n past x).out_ticks)
    after.closed (is_closed c n past x)
    (share-same c x.id.process w e past x checked row.known audited has (window_start-le c x.level n))
    (count-charged (is_budget_of x.id) c e past x.level)
    (count-charged (is_out_of x.id) c e past x.level)
    (ap (is_closed c n (e ∷ past)) (row-same e n x runs) ∙ closed-entry c e past x stays)

pub body-spent : (W share used outs outs' spent : ℕ) (closed : Bool)
    → body_left W (the_job share (spent + used) outs' closed) ≡ body_left W (the_job share used outs closed) - spent
body-spent W share used outs outs' spent closed = grind (arith, nat_tests)

-- a tick on the thread's budget lowers what is left of its body by one
pub body-entry : (c : Configuration) (e : Entry) (past : List Entry) (x : Thread) → IsChecked c → RowFits c x → Has (family c x.id.process past) x → Audited c (e ∷ past)
    → stops x.id e ≡ false → does is_wait x.id e ≡ false
    → thread_body_left c (length past) (e ∷ past) (after_entry e (length past) x) ≡ thread_body_left c (length past) past x - cond (is_budget_of x.id e) 1 0
body-entry c e past x checked row has audited runs stays =
    let j = job c (length past) past x in
    ap (body_left c.costs.switch) (job-entry c e past x checked row has audited runs stays)
    ∙ body-spent c.costs.switch j.share j.used j.out_ticks (cond (is_out_of x.id e) 1 0 + j.out_ticks) (cond (is_budget_of x.id e) 1 0) j.closed

-- who has body left has something left, and is not closed
pub body-rem : (W : ℕ) (j : Job) → body_left W j ≤ rem W j
body-rem W j = elim (cases_Bool j.closed) [ inl shut ↦ rw shut (omega arith) | inr stands ↦ rw stands (omega arith) ]

pub body-stands : (W : ℕ) (j : Job) → 0 < body_left W j → j.closed ≡ false
body-stands W j some = grind (arith, nat_tests)
