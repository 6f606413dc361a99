-- Who asks for slack at the end of a tick has not been stopped.
use Rattle.dk_bound.proofs.Names.{ℕ, ◌≡◌, ◌<◌, ◌⊎◌, inl, inr, Bool, true, false, List, ◌∷◌, length, refl, sym, ap, ◌∙◌, subst, arith, suc, ◌-◌, take, ◌||◌, Option, Some, None, if◌then◌else◌, option_or, then_some, cases_Bool, cases_lt, Configuration, IsChecked, IsAccepted, period, window_start, window_end, Entry, Has, is_of, stops, window, quiet, Thread, threads, family, new_rows, after_entry, want, no_request, last_request, request, asked, chosen, Audited, Label, is_closed, Job, AtEachEntry, AskersLast, TickSpends, EventCloses, closes, window-charged, new-row, row-of, has-next, window_end-above, threads-fit, acts-of, Quiet, gone-quiet, gone-not-acting, want-gone, want-closed, stopped-test, closed-stopped, request-left, request-window, nat_tests}
use Rattle.dk_bound.proofs.Fits.{steady-fair}
use Rattle.dk_bound.proofs.Joint.{steady}

cases-of : (n t : ℕ) (stop : Option ℕ) (b : Bool) → option_or stop (then_some b n) ≡ Some t → (stop ≡ Some t) ⊎ ((stop ≡ None) × (t ≡ n))
cases-of n t stop b h = grind (arith, nat_tests)

-- a thread that was stopped asks for nothing
stopped-asks : (c : Configuration) (e : Entry) (past : List Entry) (x : Thread) (t : ℕ) → IsChecked c → IsAccepted c → Audited c (e ∷ past)
    → Has (threads c (e ∷ past)) x → x.stop ≡ Some t → want c (length past) (e ∷ past) x ≡ 0
stopped-asks c e past x t checked accepted audited among is =
    let n = length past in
    let p = x.id.process in
    let all = e ∷ past in
    let fit = threads-fit c all checked audited in
    let here = (fit.rows x among).known in
    let fair = steady-fair c all (steady c all checked accepted audited) in
    elim (has-next e n (family c p past) (new_rows c p e past) x (fit.place x among)) [
      | inr new ↦ let running = (new-row c p e past x audited.1 new).running in absurd (cc)
      | inl old ↦
          let y = old.0 in
          let level : y.level ≡ x.level = ap (λ (z : Thread). z.level) old.2 in
          let ids : y.id ≡ x.id = ap (λ (z : Thread). z.id) old.2 in
          let known = row-of c p past y checked here audited.0 old.1 in
          let positive : 0 < period c x.level = subst (λ i. 0 < period c i) level known.positive in
          let above : n < window_end c x.level n = window_end-above c x.level n positive in
          let stop : option_or y.stop (then_some (stops y.id e) n) ≡ Some t = ap (λ (z : Thread). z.stop) old.2 ∙ is in
          elim (cases-of n t y.stop (stops y.id e) stop) [
            | inr fresh ↦
                let same : t ≡ n = fresh.1 in
                want-closed c n all x (closed-stopped c n all x t is (omega arith) (omega (arith, same, above)))
            | inl before ↦
                let earlier : t < n = known.stopped t before in
                elim (cases_lt t (window_start c x.level n)) [
                  | inr within ↦ want-closed c n all x (closed-stopped c n all x t is within (omega (arith, earlier, above)))
                  | inl gone ↦
                      let gone' : t < window_start c y.level n = subst (λ i. t < window_start c i n) (sym level) gone in
                      let quiet : Quiet y.id (window c n past y.level) = gone-quiet c p past y t checked here fair.0 audited.0 old.1 before gone' in
                      let silent : is_of y.id e ≡ false =
                      elim (cases_Bool (is_of y.id e)) [
                        | inr other ↦ other
                        | inl mine ↦
                            let acts = acts-of c p past (chosen c past) e y checked here audited.0 old.1 fair.1 audited.1.choice mine in
                            absurd (gone-not-acting c past e y (stopped-test t (window_start c y.level n) y before gone') quiet acts)
                      ] in
                      let silent' : is_of x.id e ≡ false = subst (λ i. is_of i e ≡ false) ids silent in
                      let quiet' : Quiet x.id (window c n past x.level) =
                      subst (λ i. Quiet i (window c n past x.level)) ids (subst (λ i. Quiet y.id (window c n past i)) level quiet) in
                      want-gone c n all x (subst (Quiet x.id) (sym (window-charged c e past x.level)) (silent', quiet'))
                ]
          ]
    ]

pub askers_last : AtEachEntry AskersLast
askers_last c e past checked accepted audited x among some = go x.stop refl
  where
    go : (o : Option ℕ) → x.stop ≡ o → x.stop ≡ None
    go None is = is
    go (Some t) is = let none = stopped-asks c e past x t checked accepted audited among is in absurd (omega arith)

module _ (c : Configuration) (label : Label) (past : List Entry) where
  closed-before : TickSpends c label past → (x : Thread) → Has (threads c past) x → is_closed c (length past) (quiet label ∷ past) x ≡ is_closed c (length past) past x
  closed-before spends x h = grind (arith, nat_tests)

  pub want-before : TickSpends c label past → (x : Thread) → Has (threads c past) x → 0 < want c (length past) (quiet label ∷ past) x → 0 < want c (length past) past x
  want-before spends x h some = go (is_closed c (length past) past x) refl
    where
      go : (b : Bool) → is_closed c (length past) past x ≡ b → 0 < want c (length past) past x
      go true shut =
          let shut' : is_closed c (length past) (quiet label ∷ past) x ≡ true = closed-before spends x h ∙ shut in
          let none : want c (length past) (quiet label ∷ past) x ≡ 0 =
          ap (λ b. let r = (if b then no_request else last_request x.id (window c (length past) (quiet label ∷ past) x.level)) in r.amount - r.spent) shut' in
          absurd (omega (arith, none, some))
      go false stands =
          let stands' : is_closed c (length past) (quiet label ∷ past) x ≡ false = closed-before spends x h ∙ stands in
          let w = window_start c x.level (length past) in
          let r : 0 < (last_request x.id (take (suc (length past) - w) (quiet label ∷ past))).amount - (last_request x.id (take (suc (length past) - w) (quiet label ∷ past))).spent =
          subst (λ b. 0 < (let r = (if b then no_request else last_request x.id (window c (length past) (quiet label ∷ past) x.level)) in r.amount - r.spent)) stands' some in
          let r' = request-left x.id label past w (suc (length past) - w) refl r in
          subst (λ b. 0 < (let r = (if b then no_request else last_request x.id (window c (length past) past x.level)) in r.amount - r.spent)) (sym stands) r'

module _ (c : Configuration) (e : Entry) (past : List Entry) (moved : EventCloses c e past) (none : asked e.event ≡ None) where
  closed-after : (x : Thread) → Has (threads c past) x
      → is_closed c (length past) (e ∷ past) (after_entry e (length past) x) ≡ (closes e x || is_closed c (length past) (quiet e.label ∷ past) x)
  closed-after x h = ap (λ (j : Job). j.closed) (moved x h)

  pub request-kept : (x : Thread) → Has (threads c past) x → closes e x ≡ false
      → request c (length past) (e ∷ past) (after_entry e (length past) x) ≡ request c (length past) (quiet e.label ∷ past) x
  request-kept x h off = grind (arith, nat_tests, closed-after, request-window)

  pub want-shut : (x : Thread) → Has (threads c past) x → closes e x ≡ true → want c (length past) (e ∷ past) (after_entry e (length past) x) ≡ 0
  want-shut x h shut = grind (arith, nat_tests)
