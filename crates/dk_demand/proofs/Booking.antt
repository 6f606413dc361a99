-- The demand cells after an event.
use Rattle.dk_demand.proofs.Names.{ℕ, ◌≡◌, ◌+◌, ◌-◌, ◌<◌, inl, inr, Bool, false, cond, eqb, leb, List, [], ◌∷◌, length, refl, sym, ap, ◌∙◌, subst, arith, cases_Bool, Configuration, ceiling, longest_hold, Entry, Has, stops, quiet, Thread, threads, Hold, held_by, hold_left, innermost_left, level_holding, effective_level, thread_blocking, blocking, own_demand, remaining_demand, TickKeepsThreads, given_up, EventKeeps, OneIsClosed, lies_between, holds_part, TickBlocksByHolds, LockRaisesBlocking, UnlockLowersBlocking, may_close, clock_at, Cells, by_level, at_level, from_level, between, less, adjusted, each_level, dropped_cells, freed_cells, CountsAt, EventMovesCells, nat_tests}
use Rattle.dk_demand.proofs.Ticking.{ChangesByLevel, levels-same, lists-of, cells-of, at-less, from-less, between-less, between-more}

-- the laws that this stands on, at one entry
pub record EventLaws (c : Configuration) (e : Entry) (past : List Entry) : Type 0 where
  pub changed : ChangesByLevel
  pub kept : EventKeeps c e past
  pub one : OneIsClosed c e past
  pub lock : LockRaisesBlocking c e past
  pub unlock : UnlockLowersBlocking c e past
  pub holds : TickBlocksByHolds c e.label past
  pub threads_stay : TickKeepsThreads c e.label past

pub freed-lists : (c : Configuration) (own : ℕ) (held : List Hold) (d : Cells)
    → (freed_cells c own held d).own ≡ d.own
freed-lists c own [] d = refl
freed-lists c own (h ∷ held) d = freed-lists c own held d

pub freed-remaining : (c : Configuration) (own : ℕ) (held : List Hold) (d : Cells)
    → (freed_cells c own held d).remaining ≡ d.remaining
freed-remaining c own [] d = refl
freed-remaining c own (h ∷ held) d = freed-remaining c own held d

pub freed-windows : (c : Configuration) (own : ℕ) (held : List Hold) (d : Cells)
    → (freed_cells c own held d).windows ≡ d.windows
freed-windows c own [] d = refl
freed-windows c own (h ∷ held) d = freed-windows c own held d

-- each level's blocking falls by what the holds keep it waiting
pub freed-blocking : (c : Configuration) (own : ℕ) (held : List Hold) (d : Cells) (old : ℕ → ℕ) → ChangesByLevel
    → d.blocking ≡ each_level c old
    → (freed_cells c own held d).blocking ≡ each_level c (λ j. old j - holds_part c j own held)
freed-blocking c own [] d old changed is = is ∙ levels-same c old (λ j. old j - 0) (λ j known. omega arith)
freed-blocking c own (h ∷ held) d old changed is =
    let first = ceiling c h.mutex in
    let level = level_holding c own held in
    let before : ℕ → ℕ = λ j. old j - holds_part c j own held in
    let after : ℕ → ℕ = λ j. old j - holds_part c j own (h ∷ held) in
    ap (by_level (between first level (adjusted (hold_left c h) 0))) (freed-blocking c own held d old changed is)
    ∙ changed c (between first level (adjusted (hold_left c h) 0)) before after (λ j known. step first level (hold_left c h) j (old j) (holds_part c j own held))
  where
    step : (first level amount j old part : ℕ)
        → between first level (adjusted amount 0) j (old - part) ≡ old - (part + cond (lies_between first level j) amount 0)
    step first level amount j old part =
        elim (cases_Bool (lies_between first level j)) [
          | inl inside ↦ rw inside (omega arith)
          | inr outside ↦ rw outside (omega arith)
        ]

-- the holds that a stop gives back
closed-part : (b : Bool) (c : Configuration) (own j part : ℕ) (held : List Hold) → part ≡ holds_part c j own held
    → holds_part c j own (cond b held []) ≡ cond b part 0
closed-part b c own j part held is = grind (arith, nat_tests)

closed-cells : (c : Configuration) (e : Entry) (past : List Entry) (d : Cells) (x : Thread) → EventLaws c e past
    → CountsAt c (length past) (quiet e.label ∷ past) d → Has (threads c past) x
    → ((j : ℕ) → own_demand c (length past) (e ∷ past) j + cond (eqb x.level j) (given_up c e past x) 0 ≡ own_demand c (length past) (quiet e.label ∷ past) j)
    → ((j : ℕ) → j < length c.levels
    → remaining_demand c (length past) (e ∷ past) j + cond (leb x.level j) (given_up c e past x) 0 ≡ remaining_demand c (length past) (quiet e.label ∷ past) j)
    → ((j : ℕ) → blocking c (e ∷ past) j + cond (stops x.id e) (thread_blocking c (quiet e.label ∷ past) j x) 0 ≡ blocking c (quiet e.label ∷ past) j)
    → CountsAt c (length past) (e ∷ past)
    (freed_cells c x.level (cond (stops x.id e) (held_by x.id (quiet e.label ∷ past)) []) (dropped_cells x.level (given_up c e past x) d))
closed-cells c e past d x laws counts among own remaining blocks =
    let n = length past in
    let before = quiet e.label ∷ past in
    let amount = given_up c e past x in
    let held = held_by x.id before in
    let free = cond (stops x.id e) held [] in
    let k = x.level in
    let dropped = dropped_cells k amount d in
    let done = freed_cells c k free dropped in
    let lists = lists-of c n before d counts in
    let there : Has (threads c before) x = subst (λ xs. Has xs x) (sym laws.threads_stay.threads) among in
    let own_list : done.own ≡ each_level c (own_demand c n (e ∷ past)) =
    freed-lists c k free dropped ∙ ap (by_level (at_level k (less amount))) lists.own_is
    ∙ laws.changed c (at_level k (less amount)) (own_demand c n before) (own_demand c n (e ∷ past))
    (λ j known. at-less k j amount (own_demand c n before j) (own_demand c n (e ∷ past) j) (own j)) in
    let remaining_list : done.remaining ≡ each_level c (remaining_demand c n (e ∷ past)) =
    freed-remaining c k free dropped ∙ ap (by_level (from_level k (less amount))) lists.remaining_is
    ∙ laws.changed c (from_level k (less amount)) (remaining_demand c n before) (remaining_demand c n (e ∷ past))
    (λ j known. from-less k j amount (remaining_demand c n before j) (remaining_demand c n (e ∷ past) j) (remaining j known)) in
    let blocking_list : done.blocking ≡ each_level c (blocking c (e ∷ past)) =
    freed-blocking c k free dropped (blocking c before) laws.changed lists.blocks_is
    ∙ levels-same c (λ j. blocking c before j - holds_part c j k free) (blocking c (e ∷ past))
    (λ j known. (let part = closed-part (stops x.id e) c k j (thread_blocking c before j x) held (laws.holds x j there) in
    let law = blocks j in omega (arith, part, law))) in
    let windows : done.windows ≡ d.windows = freed-windows c k free dropped in
    let tick : done.windows.tick ≡ n = ap (λ w. w.tick) windows ∙ counts.1 in (
      record {
        windows = windows ∙ counts.0.windows ∙ ap (λ t. clock_at c t) (ap (λ w. w.tick) (sym windows));
        own = subst (λ t. done.own ≡ each_level c (own_demand c t (e ∷ past))) (sym tick) own_list;
        remaining = subst (λ t. done.remaining ≡ each_level c (remaining_demand c t (e ∷ past))) (sym tick) remaining_list;
        blocking = blocking_list;
      },
      tick,
    )

pub event-cells : (c : Configuration) (e : Entry) (past : List Entry) → EventLaws c e past → EventMovesCells c e past
event-cells c e past laws =
    let n = length past in
    let before = quiet e.label ∷ past in
    record {
      keeps =
          λ d counts close holds. (let lists = lists-of c n before d counts in
          cells-of c n before (e ∷ past) d d.own d.remaining d.blocking counts
          (record {
            own_is = lists.own_is ∙ levels-same c (own_demand c n before) (own_demand c n (e ∷ past)) (λ j known. sym (laws.kept.own j close));
            remaining_is =
                lists.remaining_is ∙ levels-same c (remaining_demand c n before) (remaining_demand c n (e ∷ past)) (λ j known. sym (laws.kept.remaining j known close));
            blocks_is = lists.blocks_is ∙ levels-same c (blocking c before) (blocking c (e ∷ past)) (λ j known. sym (laws.kept.blocking j close holds));
          }));
      lock =
          λ d x m counts among mine event. (let lists = lists-of c n before d counts in
          let close : may_close e.event ≡ false = ap may_close event in
          let first = ceiling c m in
          let level = effective_level c before x in
          let f = between first level (adjusted 0 (longest_hold c m)) in
          cells-of c n before (e ∷ past) d d.own d.remaining (by_level f d.blocking) counts
          (record {
            own_is = lists.own_is ∙ levels-same c (own_demand c n before) (own_demand c n (e ∷ past)) (λ j known. sym (laws.kept.own j close));
            remaining_is =
                lists.remaining_is ∙ levels-same c (remaining_demand c n before) (remaining_demand c n (e ∷ past)) (λ j known. sym (laws.kept.remaining j known close));
            blocks_is =
                ap (by_level f) lists.blocks_is
                ∙ laws.changed c f (blocking c before) (blocking c (e ∷ past))
                (λ j known. between-more first level j (longest_hold c m) (blocking c before j) (blocking c (e ∷ past) j) (laws.lock x m j among mine event));
          }));
      unlock =
          λ d x m counts among mine event. (let lists = lists-of c n before d counts in
          let close : may_close e.event ≡ false = ap may_close event in
          let first = ceiling c m in
          let level = effective_level c (e ∷ past) x in
          let amount = innermost_left c (held_by x.id before) in
          let f = between first level (adjusted amount 0) in
          cells-of c n before (e ∷ past) d d.own d.remaining (by_level f d.blocking) counts
          (record {
            own_is = lists.own_is ∙ levels-same c (own_demand c n before) (own_demand c n (e ∷ past)) (λ j known. sym (laws.kept.own j close));
            remaining_is =
                lists.remaining_is ∙ levels-same c (remaining_demand c n before) (remaining_demand c n (e ∷ past)) (λ j known. sym (laws.kept.remaining j known close));
            blocks_is =
                ap (by_level f) lists.blocks_is
                ∙ laws.changed c f (blocking c before) (blocking c (e ∷ past))
                (λ j known. between-less first level j amount (blocking c before j) (blocking c (e ∷ past) j) (laws.unlock x m j among mine event));
          }));
      closed =
          λ d x counts among alone. closed-cells c e past d x laws counts among (λ j. laws.one.own x j among alone)
          (λ j known. laws.one.remaining x j known among alone) (λ j. laws.one.blocking x j among alone);
    }
