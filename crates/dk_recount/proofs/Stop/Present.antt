-- Who has something left or asks for slack at the end of a tick has a row.
use Rattle.dk_recount.proofs.Names.{◌≡◌, ◌<◌, ◌≤◌, ◌∙◌, Bool, true, false, ltb, leb, ℕ, List, ◌∷◌, length, Option, Some, None, refl, ap, sym, subst, arith, nat_lt, option_map_or, or_parts, nat_tests, or-true, Configuration, period, window_end, Label, Entry, Has, stops, quiet, Thread, threads, after_entry, is_main, thread_rem, want, window_end-above, after-stopped, IsThere, AskersThere, TickSpends, TickLowersRem, EventLowersRem, AbsentHaveNothing, row-same, want-before, has_row}

pub there-row : (c : Configuration) (now : ℕ) (x : Thread) → IsThere c now x → has_row c now x ≡ true
there-row c now x is = let a = is.started in let b = is.lasts in rw (a, b) (or-true (is_main x))

-- a thread that has started has a row also if it is stopped now
stopped-row : (c : Configuration) (e : Entry) (now : ℕ) (x : Thread) → 0 < period c x.level → x.start ≤ now → has_row c now x ≡ true → has_row c now (after_entry e now x) ≡ true
stopped-row c e now x positive started there = go x.stop (stops x.id e) refl refl
  where
    go : (o : Option ℕ) (b : Bool) → x.stop ≡ o → stops x.id e ≡ b → has_row c now (after_entry e now x) ≡ true
    go (Some t) b at is = subst (λ y. has_row c now y ≡ true) (sym (after-stopped e now t x at)) there
    go None false at is = subst (λ y. has_row c now y ≡ true) (sym (row-same e now x is)) there
    go None true at is =
        let stop : (after_entry e now x).stop ≡ Some now = rw (at, is) refl in
        let early : ltb now x.start ≡ false = grind (arith, nat_tests) in
        let later = window_end-above c x.level now positive in
        let ended : leb (window_end c x.level now) now ≡ false = grind (arith, nat_tests) in
        there-row c now (after_entry e now x) (record {
          started = ap (λ o. option_map_or (λ s. ltb s x.start) o false) stop ∙ early;
          lasts = ap (λ o. option_map_or (λ tick. leb tick now) (option_map_or (λ s. Some (window_end c x.level s)) o None) false) stop ∙ ended;
        })

pub asker-row : (c : Configuration) (label : Label) (past : List Entry) → TickSpends c label past → AskersThere c past → (x : Thread) → Has (threads c past) x
    → nat_lt 0 (want c (length past) (quiet label ∷ past) x) ≡ true → has_row c (length past) x ≡ true
asker-row c label past spends askers x h some = grind (arith, nat_tests, there-row, want-before)

-- who has something left is neither void nor ended, and has a row
pub worker-has-row : (c : Configuration) (past : List Entry) → AbsentHaveNothing c past → (x : Thread) → Has (threads c past) x → 0 < thread_rem c (length past) past x
    → has_row c (length past) x ≡ true
worker-has-row c past absent x h some = grind (arith, nat_tests, or_parts, there-row)

pub worker-row : (c : Configuration) (e : Entry) (past : List Entry) → TickLowersRem c e.label past → EventLowersRem c e past → AbsentHaveNothing c past
    → (x : Thread) → Has (threads c past) x → 0 < period c x.level → 0 < thread_rem c (length past) (e ∷ past) (after_entry e (length past) x)
    → has_row c (length past) (after_entry e (length past) x) ≡ true
worker-row c e past tick event absent x h positive some =
    let a = event x h in
    let b = tick x h in
    let left : 0 < thread_rem c (length past) past x = omega (arith, a, b, some) in
    let started : x.start ≤ length past = grind (arith, nat_tests) in
    stopped-row c e (length past) x positive started (worker-has-row c past absent x h left)
