-- Each window of every run has the entries that a window up to the second of two ticks has in one run.
use Rattle.dk_alone.proofs.Names.{ℕ, ◌≡◌, ◌+◌, ◌-◌, ◌*◌, ◌/◌, ◌%◌, ◌<◌, inl, inr, Bool, true, List, [], sym, ap, ◌∙◌, subst, arith, slice_index_or, take, cases_lt, div-add-mod, mod-lt, mod_self, Configuration, IsChecked, IsAccepted, period, main_level, Entry, WindowsAsAlone, StandsAgainAsAlone, ProcessesRepeat, alone, entries_of, KeepsToItself, WindowBegins, ProcessStandsAgain, own_window}
use Rattle.dk_alone.proofs.Cycles.{begins-sum, begins-rest, begins-cycles}

module _ (c : Configuration) (programs others : List (List ℕ)) (p s k : ℕ) (checked : IsChecked c) (accepted : IsAccepted c)
    (keeps : KeepsToItself c p (slice_index_or programs p [])) (agree : slice_index_or programs p [] ≡ slice_index_or others p [])
    (windows : WindowsAsAlone) (as-alone : StandsAgainAsAlone) (repeats : ProcessesRepeat) (again : ProcessStandsAgain c programs p s k) where
  abbrev P : ℕ
  P = period c (main_level c p)

  period-begins : WindowBegins c p P
  period-begins = mod_self P

  -- a window has the same entries of it in both runs
  beside-others : (tick : ℕ) → WindowBegins c p tick → own_window c others p tick ≡ own_window c programs p tick
  beside-others tick begins =
      let ends = begins-sum c p tick P begins period-begins in
      windows c others p tick P checked accepted (subst (KeepsToItself c p) agree keeps) begins ends
      ∙ ap (λ program. entries_of p (take P (alone c p program (tick + P)).past)) (sym agree)
      ∙ sym (windows c programs p tick P checked accepted keeps begins ends)

  -- from tick s on it has those of the same window of the first cycle
  in-cycles : (cycles m : ℕ) → WindowBegins c p m → own_window c others p (s + cycles * k + m) ≡ own_window c programs p (s + m)
  in-cycles cycles m begins = repeats c programs others p s k cycles m P checked accepted keeps agree (as-alone c programs p s k checked accepted keeps again) begins period-begins

  pub told : (holds : List Entry → Bool) → ((tick : ℕ) → WindowBegins c p tick → tick < s + k → holds (own_window c programs p tick) ≡ true)
      → (tick : ℕ) → WindowBegins c p tick → holds (own_window c others p tick) ≡ true
  told holds first tick begins =
      let later = again.later in
      elim (cases_lt tick s) [
        | inl early ↦ ap holds (beside-others tick begins) ∙ first tick begins (omega (arith, early, later))
        | inr late ↦
            let cycles = (tick - s) / k in
            let m = (tick - s) % k in
            let parts : k * cycles + m ≡ tick - s = div-add-mod (tick - s) k in
            let less : m < k = mod-lt (tick - s) later in
            let turned : k * cycles ≡ cycles * k = grind arith in
            let is : s + cycles * k + m ≡ tick = omega (arith, parts, turned, late) in
            let before : WindowBegins c p (s + cycles * k) = begins-sum c p s (cycles * k) again.begins (begins-cycles c p k cycles (begins-rest c p s k again.begins again.begins_later)) in
            let begins' : WindowBegins c p m = begins-rest c p (s + cycles * k) m before (subst (WindowBegins c p) (sym is) begins) in
            ap (λ t. holds (own_window c others p t)) (sym is) ∙ ap holds (in-cycles cycles m begins')
            ∙ first (s + m) (begins-sum c p s m again.begins begins') (omega (arith, less))
      ]
