-- Whoever is in a call stands, and the holds of each thread nest.
use Rattle.dk_bound.proofs.Names.{ℕ, suc, ◌≡◌, ◌-◌, ◌<◌, ◌⊎◌, inl, inr, false, cond, List, [], ◌∷◌, length, refl, sym, ap, ◌∙◌, subst, arith, Some, None, cases_Bool, nat_tests, Configuration, IsChecked, ThreadId, Phase, Source, Work, Label, Choice, Entry, Has, is_same, thread_of, Thread, threads, family, Job, job, rem, phase, is_closed, thread_rem, Hold, held_by, is_holding, hold_left, source, is_entering, want, chosen, label_of, HasChosenLabel, work_of, Audited, Always, AreNested, HoldsNest, CallerStands, CallersStand, find-has, chosen-says, same-thread, Reason, kernel_first, thread_first, slack_first, nothing, chosen-reason, threads-fit, wish-wants, want-closed}
use Rattle.dk_bound.proofs.Holding.{Rising}
use Rattle.dk_bound.proofs.Sound.{row-known}
use Rattle.dk_bound.proofs.Joint.{holders-fit}

rising-nested : (c : Configuration) (low high : ℕ) (held : List Hold) → Rising c low high held → AreNested c low held
rising-nested c low high [] r = tt
rising-nested c low high (h ∷ held) r = (r.0, rising-nested c (suc (hold_left c h)) high held r.2)

pub holds_nest : Always HoldsNest
holds_nest c past checked accepted audited x =
    elim (cases_Bool (is_holding (held_by x past))) [
      | inl holding ↦ rising-nested c 1 _ (held_by x past) ((holders-fit c past checked accepted audited).holder x holding).nested
      | inr free ↦ nothing-held (held_by x past) free
    ]
  where
    nothing-held : (held : List Hold) → is_holding held ≡ false → AreNested c 1 held
    nothing-held [] free = tt
    nothing-held (h ∷ held) free = absurd (cc)

budget-thread : (x : ThreadId) (part : Phase) (work : Work) → thread_of (label_of (Choice.Budget x part) work) ≡ Some x
budget-thread x part work = grind (arith, nat_tests)

slack-thread : (x : ThreadId) (source : Source) (part : Phase) (work : Work) → thread_of (label_of (Choice.Slack x source part) work) ≡ Some x
slack-thread x source part work = grind (arith, nat_tests)

-- a call is in the body
budget-call : (x : ThreadId) (part : Phase) (work : Work) → work_of (label_of (Choice.Budget x part) work) ≡ Work.Call → part ≡ Phase.Body
budget-call x part work h = grind (arith, nat_tests)

-- in its body a job isn't closed and has something left
body-open : (W : ℕ) (j : Job) → phase W j ≡ Phase.Body → (j.closed ≡ false) × (0 < rem W j)
body-open W j body = grind (arith, nat_tests)

stands-by : (c : Configuration) (past : List Entry) (x : ThreadId) (y : Thread) → IsChecked c → Audited c past → Has (threads c past) y → y.id ≡ x
    → is_closed c (length past) past y ≡ false → (0 < thread_rem c (length past) past y) ⊎ (0 < want c (length past) past y) → CallerStands c past x
stands-by c past x y checked audited has same shut active =
    let fit = threads-fit c past checked audited in
    let known = row-known c past x y fit has same in
    let r = find-has (λ z. is_same x z.id) (family c x.process past) known.row known.found in
    let place : x.process < length c.processes = subst (λ (i : ThreadId). i.process < length c.processes) same (fit.rows y has).known in
    let is : y ≡ known.row = same-thread c x.process past known.row y checked place audited r.0 has (known.id ∙ sym same) in
    record {
      row = y;
      found = known.found ∙ ap Some (sym is);
      among = has;
      id = same;
      unclosed = shut;
      active = active;
    }

by-reason : (c : Configuration) (past : List Entry) (choice : Choice) (label : Label) (x : ThreadId) → IsChecked c → Audited c past
    → Reason c past choice → HasChosenLabel choice label → thread_of label ≡ Some x → work_of label ≡ Work.Call → CallerStands c past x
by-reason c past _ label x checked audited (kernel_first k known passed left) has who call =
    let none : None ≡ Some x = sym (chosen-says thread_of (Choice.Kernel k) label None has (λ w. refl)) ∙ who in absurd (cc)
by-reason c past _ label x checked audited (thread_first k y known passed among turn) has who call =
    let j = job c (length past) past y in
    let part = phase c.costs.switch j in
    let some : Some y.id ≡ Some x = sym (chosen-says thread_of (Choice.Budget y.id part) label (Some y.id) has (budget-thread y.id part)) ∙ who in
    let body : part ≡ Phase.Body = elim has [
      | inl run ↦ budget-call y.id part Work.Run (sym (ap work_of run) ∙ call)
      | inr end ↦ budget-call y.id part Work.Call (sym (ap work_of end) ∙ call)
    ] in
    let is = body-open c.costs.switch j body in
    stands-by c past x y checked audited among (cc) is.0 (inl is.1)
by-reason c past _ label x checked audited (slack_first k y known passed among wishes fitting) has who call =
    let from = source c (length past) past in
    let part : Phase = cond (is_entering c (length past) past y) Phase.In Phase.Body in
    let some : Some y.id ≡ Some x = sym (chosen-says thread_of (Choice.Slack y.id from part) label (Some y.id) has (slack-thread y.id from part)) ∙ who in
    let wants = wish-wants c (length past) past k y wishes in
    let stands : is_closed c (length past) past y ≡ false = elim (cases_Bool (is_closed c (length past) past y)) [
      | inl shut ↦ let none = want-closed c (length past) past y shut in absurd (omega (arith, none, wants))
      | inr stands ↦ stands
    ] in
    stands-by c past x y checked audited among (cc) stands (inr wants)
by-reason c past _ label x checked audited (nothing passed) has who call =
    let none : None ≡ Some x = sym (chosen-says thread_of Choice.Idle label None has (λ w. refl)) ∙ who in absurd (cc)

pub callers_stand : Always CallersStand
callers_stand c past checked accepted audited label x has who call =
    by-reason c past (chosen c past) label x checked audited (chosen-reason c past) has who call
