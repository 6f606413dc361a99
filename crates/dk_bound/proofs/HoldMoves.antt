-- A tick of a holder, a lock and an unlock: what they do to blocking, level by level.
use Rattle.dk_bound.proofs.Names.{and-false, ℕ, suc, ◌≡◌, ◌+◌, ◌-◌, ◌<◌, ◌≤◌, ◌⊎◌, inl, inr, true, false, cond, not, eqb, leb, ltb, List, [], ◌∷◌, length, refl, sym, ap, ◌∙◌, subst, arith, map, Option, Some, None, option_map_or, cases_Bool, cases_lt, nat_tests, Configuration, IsChecked, IsAccepted, main_level, ceiling, longest_hold, ThreadId, Event, Entry, Has, is_of, is_end, is_delete_of, stops, quiet, Thread, threads, thread_body_left, Hold, aged, given_back, held_after, held_by, is_holding, is_innermost, is_held, hold_left, innermost_left, level_holding, effective_level, greatest_left, thread_blocking, blocking, Audited, Always, AtEachTick, AtEachEntry, EventMovesBlocking, lies_between, holds_part, TickAgesHolds, BlockingIsByHolds, NothingBlocksAtStart, TickBlocksByHolds, TickLowersBlocking, LockRaisesBlocking, UnlockLowersBlocking, of-thread, actor-follows, sum_by-zero, ThreadsFit, threads-fit, quiet-stops, held-other, held-mine, aged-held, both-zero}
use Rattle.dk_bound.proofs.Holding.{Rising, Users, HoldersFit}
use Rattle.dk_bound.proofs.HoldersFit.{row-nested, row-users}
use Rattle.dk_bound.proofs.Nesting.{Rising-lower, Rising-tick, not-last, given_back-free, Users-aged, Users-filter, IsUnder, users-under, level-most, greatest-low, greatest-some, greatest-level}
use Rattle.dk_bound.proofs.Locks.{held-quiet, met, lock-met, unlock-met}
use Rattle.dk_bound.proofs.Joint.{holders-fit}
use Rattle.dk_bound.proofs.TickMoves.{threads-charged, tick_moves_blocking, not-of}
use Rattle.dk_bound.proofs.EventMoves.{event_moves_blocking}

-- what a thread of the level that holds these mutexes keeps level j waiting
abbrev part : Configuration → ℕ → ℕ → List Hold → ℕ
part c j own held = cond (ltb j own) (greatest_left c j held) 0

-- a level before that at which the thread runs doesn't wait for it
nothing-before : (c : Configuration) (j own : ℕ) (held : List Hold) → j < level_holding c own held → greatest_left c j held ≡ 0
nothing-before c j own held before = grind (arith, nat_tests, greatest-level)

tick-part : (c : Configuration) (j own high : ℕ) (held : List Hold) → Rising c 1 high held
    → (part c j own held - 1) + cond (lies_between (level_holding c own held) own j) 1 0 ≡ part c j own held
tick-part c j own high held rising = grind (arith, nat_tests, and-false, nothing-before, greatest-some)

-- a new innermost hold is seen only where no other is
lock-inside : (c : Configuration) (j m own high : ℕ) (held : List Hold) → Rising c 1 high held
    → (is_holding held ≡ false) ⊎ (longest_hold c m < innermost_left c held) → level_holding c own held ≤ j → j < own
    → longest_hold c m ≤ greatest_left c j held
lock-inside c j m own high held rising first up slow = grind (arith, nat_tests, greatest-some, greatest-low)

lock-part : (c : Configuration) (j m own high : ℕ) (held : List Hold) → Rising c 1 high held → IsUnder c own held → is_held m held ≡ false
    → (is_holding held ≡ false) ⊎ (longest_hold c m < innermost_left c held)
    → part c j own (held_after (Some (Event.Lock m)) held)
    ≡ part c j own held + cond (lies_between (ceiling c m) (level_holding c own held) j) (longest_hold c m) 0
lock-part c j m own high held rising under free first = grind (arith, nat_tests, given_back-free, level-most, and-false, nothing-before, lock-inside)

-- no mutex stands twice among the holds
abbrev Once : List Hold → Type 0
Once [] = Unit {0}
Once (h ∷ held) = (is_held h.mutex held ≡ false) × Once held

-- the innermost hold is seen at the levels from its ceiling up to the one at which the thread runs without it
inner-part : (c : Configuration) (j own high : ℕ) (h : Hold) (held : List Hold) → Rising c 0 high (h ∷ held) → IsUnder c own held
    → part c j own held + cond (lies_between (ceiling c h.mutex) (level_holding c own held) j) (hold_left c h) 0 ≡ part c j own (h ∷ held)
inner-part c j own high h held rising under =
    let most = level-most c own held under in
    elim (cases_lt j own) [
      | inr fast ↦
          let a : ltb j own ≡ false = grind (arith, nat_tests) in
          let b : ltb j (level_holding c own held) ≡ false = grind (arith, nat_tests, most) in
          rw (a, b) (rw and-false (omega arith))
      | inl slow ↦
          let a : ltb j own ≡ true = grind (arith, nat_tests) in
          elim (cases_lt j (level_holding c own held)) [
            | inl before ↦
                let none = nothing-before c j own held before in
                let b : ltb j (level_holding c own held) ≡ true = grind (arith, nat_tests) in
                elim (cases_Bool (leb (ceiling c h.mutex) j)) [
                  | inl counts ↦ rw (a, b, counts) (omega (arith, none))
                  | inr other ↦ rw (a, b, other) (omega (arith, none))
                ]
            | inr up ↦
                let some = greatest-some c j own high held (Rising-lower c (suc (hold_left c h)) 1 high held (omega arith) rising.2) up slow in
                let more = greatest-low c j (suc (hold_left c h)) high held rising.2 some in
                let b : ltb j (level_holding c own held) ≡ false = grind (arith, nat_tests) in
                elim (cases_Bool (leb (ceiling c h.mutex) j)) [
                  | inl counts ↦ rw (a, b, counts) (omega (arith, more))
                  | inr other ↦ rw (a, b, other) (omega (arith, more))
                ]
          ]
    ]

unlock-part : (c : Configuration) (j m own high : ℕ) (held : List Hold) → Rising c 0 high held → is_innermost m held ≡ true
    → IsUnder c own (given_back m held) → Once held
    → part c j own (held_after (Some (Event.Unlock m)) held)
    + cond (lies_between (ceiling c m) (level_holding c own (given_back m held)) j) (innermost_left c held) 0
    ≡ part c j own held
unlock-part c j m own high held rising inner under once = grind (arith, nat_tests, given_back-free, inner-part, IsUnder)

-- all holds
by-holds : (c : Configuration) (p j own high : ℕ) (held : List Hold) → IsChecked c → main_level c p ≤ own → Rising c 0 high held → Users c p held
    → part c j own held ≡ holds_part c j own held
by-holds c p j own high [] checked low rising users = both-zero (ltb j own)
by-holds c p j own high (h ∷ held) checked low rising users = grind (arith, nat_tests, both-zero, users-under, inner-part, Rising-lower, by-holds c p j own high held)

once-aged : (held : List Hold) → Once held → Once (map aged held)
once-aged [] o = tt
once-aged (h ∷ held) o = (aged-held h.mutex held ∙ o.0, once-aged held o.1)

held-given : (m k : ℕ) (held : List Hold) → is_held k held ≡ false → is_held k (given_back m held) ≡ false
held-given m k [] h = refl
held-given m k (z ∷ held) h = grind (arith, nat_tests, held-given m k held)

once-given : (m : ℕ) (held : List Hold) → Once held → Once (given_back m held)
once-given m [] o = tt
once-given m (h ∷ held) o =
    elim (cases_Bool (eqb h.mutex m)) [
      | inl gone ↦ rw gone (once-given m held o.1)
      | inr stays ↦ rw stays (held-given m h.mutex held o.0, once-given m held o.1)
    ]

given-free : (m : ℕ) (held : List Hold) → is_held m (given_back m held) ≡ false
given-free m [] = refl
given-free m (h ∷ held) = grind (arith, nat_tests, given-free m held)

once-after : (event : Option Event) (held : List Hold) → Once held → Once (held_after event held)
once-after (Some (Event.Lock m)) held o = (given-free m held, once-given m held o)
once-after (Some (Event.Unlock m)) held o = once-given m held o
once-after None held o = o
once-after (Some event) held o = o

held-once : (x : ThreadId) (past : List Entry) → Once (held_by x past)
held-once x [] = tt
held-once x (e ∷ past) =
    elim (cases_Bool (stops x e)) [
      | inl over ↦ rw over tt
      | inr runs ↦ elim (cases_Bool (is_of x e)) [
        | inl mine ↦ rw runs (rw mine (once-after e.event (map aged (held_by x past)) (once-aged (held_by x past) (held-once x past))))
        | inr other ↦ rw runs (rw other (held-once x past))
      ]
    ]

pub tick_ages_holds : AtEachTick TickAgesHolds
tick_ages_holds c label past checked accepted audited has x =
    elim (cases_Bool (is_of x (quiet label))) [
      | inl mine ↦ held-quiet x (quiet label) past mine ∙ sym (ap (λ b. cond b (map aged (held_by x past)) (held_by x past)) mine)
      | inr other ↦
          held-other x (quiet label) past (quiet-stops x label) other
          ∙ sym (ap (λ b. cond b (map aged (held_by x past)) (held_by x past)) other)
    ]

pub nothing_blocks_at_start : NothingBlocksAtStart
nothing_blocks_at_start c j = sum_by-zero (thread_blocking c [] j) (threads c []) (λ x h. both-zero (ltb j x.level))

pub blocking_is_by_holds : Always BlockingIsByHolds
blocking_is_by_holds c past checked accepted audited x j among =
    let fit = threads-fit c past checked audited in
    let inv = holders-fit c past checked accepted audited in
    let held = held_by x.id past in
    let high = thread_body_left c (length past) past x in
    by-holds c x.id.process j x.level high held checked (fit.rows x among).low
    (Rising-lower c 1 0 high held (omega arith) (row-nested c (length past) past x fit inv among)) (row-users c (length past) past x inv)

-- the tick
pub tick_blocks_by_holds : AtEachTick TickBlocksByHolds
tick_blocks_by_holds c label past checked accepted audited has x j there =
    let fit = threads-fit c past checked audited in
    let inv = holders-fit c past checked accepted audited in
    let among : Has (threads c past) x = subst (λ xs. Has xs x) (threads-charged c label past) there in
    let held = held_by x.id past in
    let high = thread_body_left c (length past) past x in
    let low = (fit.rows x among).low in
    let nested = row-nested c (length past) past x fit inv among in
    let users = row-users c (length past) past x inv in
    let f : List Hold → ℕ = holds_part c j x.level in
    elim (cases_Bool (is_of x.id (quiet label))) [
      | inl mine ↦
          let now : held_by x.id (quiet label ∷ past) ≡ map aged held = held-quiet x.id (quiet label) past mine in
          ap (part c j x.level) now
          ∙ by-holds c x.id.process j x.level (high - 1) (map aged held) checked low (Rising-tick c 0 high held nested) (Users-aged c x.id.process held users)
          ∙ sym (ap f now)
      | inr other ↦
          let now : held_by x.id (quiet label ∷ past) ≡ held = held-other x.id (quiet label) past (quiet-stops x.id label) other in
          ap (part c j x.level) now
          ∙ by-holds c x.id.process j x.level high held checked low (Rising-lower c 1 0 high held (omega arith) nested) users
          ∙ sym (ap f now)
    ]

pub tick_lowers_blocking : AtEachTick TickLowersBlocking
tick_lowers_blocking c label past checked accepted audited has x j among is =
    let fit = threads-fit c past checked audited in
    let inv = holders-fit c past checked accepted audited in
    let moves = tick_moves_blocking c label past checked accepted audited has in
    let follows = moves.follows x among is j in
    let lowers = moves.lowers x j is in
    let held = held_by x.id past in
    let step = tick-part c j x.level (thread_body_left c (length past) past x) held (row-nested c (length past) past x fit inv among) in
    let part_is : thread_blocking c past j x ≡ part c j x.level held = refl in
    omega (arith, follows, lowers, step, part_is)

-- all that a lock and an unlock share
record IsHoldEvent (c : Configuration) (e : Entry) (past : List Entry) (x : Thread) : Type 0 where
  checked : IsChecked c
  audited : Audited c (e ∷ past)
  fit : ThreadsFit c past
  holders : HoldersFit c (length past) past
  among : Has (threads c past) x
  mine : is_of x.id e ≡ true
  runs : (y : ThreadId) → stops y e ≡ false
  moves : EventMovesBlocking c e past

stops-none : (e : Entry) (y : ThreadId) → option_map_or is_end e.event false ≡ false → option_map_or (is_delete_of y.serial) e.event false ≡ false
    → stops y e ≡ false
stops-none e y a b = simp (a, b, and-false)

hold-follows : (c : Configuration) (e : Entry) (past : List Entry) (x : Thread) (j : ℕ) → IsHoldEvent c e past x
    → blocking c (e ∷ past) j + thread_blocking c (quiet e.label ∷ past) j x ≡ blocking c (quiet e.label ∷ past) j + thread_blocking c (e ∷ past) j x
hold-follows c e past x j is =
    is.moves.follows x is.among
    (λ y there other. (let apart : is_of y.id e ≡ false = not-of x.id y.id e.label (of-thread x.id e is.mine) other in
    held-other y.id e past (is.runs y.id) apart ∙ sym (held-other y.id (quiet e.label) past (quiet-stops y.id e.label) apart)))
    j

under-quiet : (c : Configuration) (e : Entry) (past : List Entry) (x : Thread) → IsHoldEvent c e past x → Users c x.id.process (map aged (held_by x.id past))
under-quiet c e past x is = Users-aged c x.id.process (held_by x.id past) (row-users c (length past) past x is.holders)

lock-raises : (c : Configuration) (e : Entry) (past : List Entry) (x : Thread) (m j : ℕ) → IsHoldEvent c e past x → e.event ≡ Some (Event.Lock m)
    → blocking c (e ∷ past) j
    ≡ blocking c (quiet e.label ∷ past) j + cond (lies_between (ceiling c m) (effective_level c (quiet e.label ∷ past) x) j) (longest_hold c m) 0
lock-raises c e past x m j is event =
    let n = length past in
    let held = held_by x.id past in
    let q = map aged held in
    let high = thread_body_left c n past x in
    let nested = row-nested c n past x is.fit is.holders is.among in
    let must = (actor-follows c past e x.id is.audited.1 is.mine).last in
    let r2 = not-last c high held e.event nested must (λ h rest ends. (let wrong = rw event at ends in absurd (cc))) in
    let rising = Rising-tick c 1 high held r2 in
    let fits = (lock-met c e past x m is.checked is.mine (met c past e x (Event.Lock m) is.fit is.among is.audited.1 is.mine event)).in_time in
    let under = users-under c x.id.process x.level q is.checked (is.fit.rows x is.among).low (under-quiet c e past x is) in
    let step = lock-part c j m x.level (high - 1) q rising under fits.free fits.ends_first in
    let sameq : held_by x.id (quiet e.label ∷ past) ≡ q = held-quiet x.id e past is.mine in
    let after : thread_blocking c (e ∷ past) j x ≡ part c j x.level (held_after (Some (Event.Lock m)) q) =
    ap (part c j x.level) (held-mine x.id e past (is.runs x.id) is.mine ∙ ap (λ o. held_after o q) event) in
    let before : thread_blocking c (quiet e.label ∷ past) j x ≡ part c j x.level q = ap (part c j x.level) sameq in
    let right : cond (lies_between (ceiling c m) (effective_level c (quiet e.label ∷ past) x) j) (longest_hold c m) 0
    ≡ cond (lies_between (ceiling c m) (level_holding c x.level q) j) (longest_hold c m) 0 =
    ap (λ hs. cond (lies_between (ceiling c m) (level_holding c x.level hs) j) (longest_hold c m) 0) sameq in
    let follows = hold-follows c e past x j is in
    omega (arith, follows, step, after, before, right)

unlock-lowers : (c : Configuration) (e : Entry) (past : List Entry) (x : Thread) (m j : ℕ) → IsHoldEvent c e past x → e.event ≡ Some (Event.Unlock m)
    → blocking c (e ∷ past) j
    + cond (lies_between (ceiling c m) (effective_level c (e ∷ past) x) j) (innermost_left c (held_by x.id (quiet e.label ∷ past))) 0
    ≡ blocking c (quiet e.label ∷ past) j
unlock-lowers c e past x m j is event =
    let n = length past in
    let held = held_by x.id past in
    let q = map aged held in
    let high = thread_body_left c n past x in
    let rising = Rising-tick c 0 high held (row-nested c n past x is.fit is.holders is.among) in
    let inner = unlock-met c e past x m is.mine (met c past e x (Event.Unlock m) is.fit is.among is.audited.1 is.mine event) in
    let users = Users-filter c x.id.process (λ h. not (eqb h.mutex m)) q (under-quiet c e past x is) in
    let under = users-under c x.id.process x.level (given_back m q) is.checked (is.fit.rows x is.among).low users in
    let step = unlock-part c j m x.level (high - 1) q rising inner under (once-aged held (held-once x.id past)) in
    let sameq : held_by x.id (quiet e.label ∷ past) ≡ q = held-quiet x.id e past is.mine in
    let same : held_by x.id (e ∷ past) ≡ given_back m q = held-mine x.id e past (is.runs x.id) is.mine ∙ ap (λ o. held_after o q) event in
    let after : thread_blocking c (e ∷ past) j x ≡ part c j x.level (given_back m q) = ap (part c j x.level) same in
    let before : thread_blocking c (quiet e.label ∷ past) j x ≡ part c j x.level q = ap (part c j x.level) sameq in
    let left : cond (lies_between (ceiling c m) (effective_level c (e ∷ past) x) j) (innermost_left c (held_by x.id (quiet e.label ∷ past))) 0
    ≡ cond (lies_between (ceiling c m) (level_holding c x.level (given_back m q)) j) (innermost_left c q) 0 =
    ap (λ hs. cond (lies_between (ceiling c m) (level_holding c x.level hs) j) (innermost_left c (held_by x.id (quiet e.label ∷ past))) 0) same
    ∙ ap (λ hs. cond (lies_between (ceiling c m) (level_holding c x.level (given_back m q)) j) (innermost_left c hs) 0) sameq in
    let follows = hold-follows c e past x j is in
    omega (arith, follows, step, after, before, left)

hold-event : (c : Configuration) (e : Entry) (past : List Entry) (x : Thread) → IsChecked c → IsAccepted c → Audited c (e ∷ past)
    → Has (threads c past) x → is_of x.id e ≡ true → ((y : ThreadId) → stops y e ≡ false) → IsHoldEvent c e past x
hold-event c e past x checked accepted audited among mine runs = grind (arith, nat_tests, threads-fit, holders-fit, event_moves_blocking)

pub lock_raises_blocking : AtEachEntry LockRaisesBlocking
lock_raises_blocking c e past checked accepted audited x m j among mine event =
    lock-raises c e past x m j
    (hold-event c e past x checked accepted audited among mine
    (λ y. stops-none e y (ap (λ o. option_map_or is_end o false) event) (ap (λ o. option_map_or (is_delete_of y.serial) o false) event))) event

pub unlock_lowers_blocking : AtEachEntry UnlockLowersBlocking
unlock_lowers_blocking c e past checked accepted audited x m j among mine event =
    unlock-lowers c e past x m j
    (hold-event c e past x checked accepted audited among mine
    (λ y. stops-none e y (ap (λ o. option_map_or is_end o false) event) (ap (λ o. option_map_or (is_delete_of y.serial) o false) event))) event
