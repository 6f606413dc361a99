-- A thread that executes was not stopped.
use Rattle.dk_repeat.proofs.Names.{ℕ, ◌≡◌, ◌<◌, ◌≤◌, inl, inr, false, leb, List, length, Option, Some, None, refl, sym, ◌∙◌, subst, arith, cases_lt, cases_Bool, nat_tests, mod-eq-zero_of_dvd, Configuration, period, window_start, window_end, IsChecked, ThreadId, Phase, Choice, Entry, Has, is_same, Thread, family, is_ended_by, job, phase, thread_rem, is_closed, want, Audited, row_of, find-has, same-id, dvd-start, row-of, window_end-above, stopped-test, stopped-share, closed-stopped, want-closed, HasCause, ChoiceHolds, ThreadsPlaced, AskersThere, executes}
use Rattle.dk_repeat.proofs.Since.{end-by}

-- what is known of a thread that executes
pub record Executing (c : Configuration) (past : List Entry) (x : ThreadId) : Type 0 where
  pub process : x.process < length c.processes
  pub row : Thread
  pub found : row_of c past x ≡ Some row
  pub live : Thread
  pub has : Has (family c x.process past) live
  pub name : live.id ≡ x
  pub running : live.stop ≡ None

in-body : (c : Configuration) (n : ℕ) (past : List Entry) (x : Thread) → Phase.Body ≡ phase c.costs.switch (job c n past x) → is_closed c n past x ≡ false
in-body c n past x body =
    elim (cases_Bool (is_closed c n past x)) [
      | inl shut ↦ let out : phase c.costs.switch (job c n past x) ≡ Phase.Out = rw shut refl in absurd (let never : Phase.Body ≡ Phase.Out = body ∙ out in cc)
      | inr stands ↦ stands
    ]

running-works : (c : Configuration) (p : ℕ) (past : List Entry) (x : Thread) → IsChecked c → p < length c.processes → Audited c past → Has (family c p past) x
    → 0 < thread_rem c (length past) past x → Phase.Body ≡ phase c.costs.switch (job c (length past) past x) → x.stop ≡ None
running-works c p past x checked here audited has some body = at x.stop refl
  where
    at : (o : Option ℕ) → x.stop ≡ o → x.stop ≡ None
    at None is = is
    at (Some t) is =
        let n = length past in
        let known = row-of c p past x checked here audited has in
        let stands = in-body c n past x body in
        let old : t < n = known.stopped t is in
        let up = window_end-above c x.level n known.positive in
        elim (cases_lt t (window_start c x.level n)) [
          | inl gone ↦
              let none = stopped-share c past x (window_start c x.level n) (stopped-test t (window_start c x.level n) x is gone) in
              let nothing : thread_rem c n past x ≡ 0 = rw (stands, none) (omega arith) in
              absurd (omega (arith, some, nothing))
          | inr inside ↦
              let shut = closed-stopped c n past x t is inside (omega (arith, old, up)) in
              absurd (cc)
        ]

running-asks : (c : Configuration) (p : ℕ) (past : List Entry) (x : Thread) → IsChecked c → p < length c.processes → Audited c past → Has (family c p past) x
    → 0 < want c (length past) past x → is_ended_by c (length past) x ≡ false → x.stop ≡ None
running-asks c p past x checked here audited has wants lasts = at x.stop refl
  where
    at : (o : Option ℕ) → x.stop ≡ o → x.stop ≡ None
    at None is = is
    at (Some t) is =
        let n = length past in
        let known = row-of c p past x checked here audited has in
        let old : t < n = known.stopped t is in
        let up = window_end-above c x.level n known.positive in
        let test : leb (window_end c x.level t) n ≡ false = rw is at lasts in
        let later : n < window_end c x.level t = grind (arith, nat_tests) in
        elim (cases_lt t (window_start c x.level n)) [
          | inl gone ↦
              let ended = end-by c x.level (window_start c x.level n) t known.positive (mod-eq-zero_of_dvd (period c x.level) (dvd-start (period c x.level) n)) gone in
              let low : window_start c x.level n ≤ n = omega arith in
              absurd (omega (arith, ended, low, later))
          | inr inside ↦
              let shut = closed-stopped c n past x t is inside (omega (arith, old, up)) in
              let none = want-closed c n past x shut in
              absurd (omega (arith, wants, none))
        ]

pub executing : (c : Configuration) (past : List Entry) (choice : Choice) (x : ThreadId) → IsChecked c → Audited c past → ThreadsPlaced c past → AskersThere c past
    → HasCause c past choice → ChoiceHolds c past choice → executes choice ≡ Some x → Executing c past x
executing c past (Choice.Budget y Phase.Body) x checked audited placed there cause holds runs =
    let same : y ≡ x = cc in
    let place = placed holds.thread holds.among in
    let here' : y.process < length c.processes = subst (λ (i : ThreadId). i.process < length c.processes) holds.name place.process in
    let found = find-has (λ z. is_same y z.id) (family c y.process past) cause.row cause.found in
    subst (Executing c past) same (record {
      process = here';
      row = cause.row;
      found = cause.found;
      live = cause.row;
      has = found.0;
      name = sym (same-id y cause.row.id found.1);
      running = running-works c y.process past cause.row checked here' audited found.0 cause.left cause.phase;
    })
executing c past (Choice.Slack y source Phase.Body) x checked audited placed there cause holds runs =
    let same : y ≡ x = cc in
    let place = placed holds.thread holds.among in
    let here' : y.process < length c.processes = subst (λ (i : ThreadId). i.process < length c.processes) holds.name place.process in
    let has : Has (family c y.process past) holds.thread = subst (λ (i : ThreadId). Has (family c i.process past) holds.thread) holds.name place.among in
    subst (Executing c past) same (record {
      process = here';
      row = cause.row;
      found = cause.found;
      live = holds.thread;
      has = has;
      name = holds.name;
      running = running-asks c y.process past holds.thread checked here' audited has holds.wants (there holds.thread holds.among holds.wants).lasts;
    })
executing c past (Choice.Budget y Phase.In) x checked audited placed there cause holds runs = absurd (cc)
executing c past (Choice.Budget y Phase.Out) x checked audited placed there cause holds runs = absurd (cc)
executing c past (Choice.Slack y source Phase.In) x checked audited placed there cause holds runs = absurd (cc)
executing c past (Choice.Slack y source Phase.Out) x checked audited placed there cause holds runs = absurd (cc)
executing c past (Choice.Kernel k) x checked audited placed there cause holds runs = absurd (cc)
executing c past Choice.Idle x checked audited placed there cause holds runs = absurd (cc)
