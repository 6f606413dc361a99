-- The demand cells after a tick.
use Rattle.dk_demand.proofs.Names.{ℕ, zero, suc, ◌≡◌, ◌+◌, ◌<◌, ◌≤◌, inl, inr, true, false, cond, eqb, leb, ltb, List, ◌∷◌, length, refl, sym, ap, ◌∙◌, subst, arith, Some, None, option_or, option_map_or, cases_lt, nat_tests, Configuration, numbers, ThreadId, Label, Entry, Has, payer, borrower, thread_of, kernel_level, quiet, Thread, threads, Hold, held_by, is_holding, level_holding, effective_level, blocking, is_holder, own_demand, remaining_demand, level_of, label-payer, working_level, TickLowersOwn, TickLowersRemaining, TickMovesBlocking, lies_between, TickLowersBlocking, IdsTellLevels, Cells, by_level, at_level, from_level, between, less, adjusted, each_level, CountsAt, TickMovesCells}
use Rattle.std.specs.Prelude.{map}

abbrev pub ChangesByLevel : Type 0
ChangesByLevel =
    (c : Configuration) (f : ℕ → ℕ → ℕ) (old new : ℕ → ℕ) → ((j : ℕ) → j < length c.levels → f j (old j) ≡ new j)
    → by_level f (each_level c old) ≡ each_level c new

numbers-same : (low n : ℕ) (f g : ℕ → ℕ) → ((j : ℕ) → low ≤ j → j < low + n → f j ≡ g j) → map f (numbers low n) ≡ map g (numbers low n)
numbers-same low zero f g same = refl
numbers-same low (suc n) f g same = grind (arith, nat_tests, numbers-same (suc low) n)

-- what is the same at each level is the same list
pub levels-same : (c : Configuration) (f g : ℕ → ℕ) → ((j : ℕ) → j < length c.levels → f j ≡ g j) → each_level c f ≡ each_level c g
levels-same c f g same = numbers-same 0 (length c.levels) f g (λ j a b. same j (omega arith))

-- the three lists of the cells
pub record AreCells (c : Configuration) (now : ℕ) (past : List Entry) (own remaining blocks : List ℕ) : Type 0 where
  pub own_is : own ≡ each_level c (own_demand c now past)
  pub remaining_is : remaining ≡ each_level c (remaining_demand c now past)
  pub blocks_is : blocks ≡ each_level c (blocking c past)

pub lists-of : (c : Configuration) (now : ℕ) (past : List Entry) (d : Cells) → CountsAt c now past d → AreCells c now past d.own d.remaining d.blocking
lists-of c now past d is = grind (arith, nat_tests)

-- cells with the windows of others that count
pub cells-of : (c : Configuration) (now : ℕ) (past after : List Entry) (d : Cells) (own remaining blocks : List ℕ) → CountsAt c now past d
    → AreCells c now after own remaining blocks → CountsAt c now after (record d { own = own; remaining = remaining; blocking = blocks })
cells-of c now past after d own remaining blocks (is, at) lists = (
  record {
    windows = is.windows;
    own = subst (λ t. own ≡ each_level c (own_demand c t after)) (sym at) lists.own_is;
    remaining = subst (λ t. remaining ≡ each_level c (remaining_demand c t after)) (sym at) lists.remaining_is;
    blocking = lists.blocks_is;
  },
  at,
)

-- one level's number, and those from a level on, fall by an amount
pub at-less : (k j amount old new : ℕ) → new + cond (eqb k j) amount 0 ≡ old → at_level k (less amount) j old ≡ new
at-less k j amount old new h = grind (arith, nat_tests)

pub from-less : (k j amount old new : ℕ) → new + cond (leb k j) amount 0 ≡ old → from_level k (less amount) j old ≡ new
from-less k j amount old new h = grind (arith, nat_tests)

pub between-less : (first level j amount old new : ℕ) → new + cond (lies_between first level j) amount 0 ≡ old
    → between first level (adjusted amount 0) j old ≡ new
between-less first level j amount old new h = grind (arith, nat_tests)

pub between-more : (first level j amount old new : ℕ) → new ≡ old + cond (lies_between first level j) amount 0
    → between first level (adjusted 0 amount) j old ≡ new
between-more first level j amount old new h = grind (arith, nat_tests)

borrower-parts : (label : Label) (x : ThreadId) → borrower label ≡ Some x → (thread_of label ≡ Some x) × (payer label ≡ None) × (kernel_level label ≡ None)
borrower-parts label x h = grind (arith, nat_tests)

nobody-pays : (label : Label) → thread_of label ≡ None → payer label ≡ None
nobody-pays label h = grind (arith, nat_tests)

kernel-nobody : (label : Label) (k : ℕ) → kernel_level label ≡ Some k → thread_of label ≡ None
kernel-nobody label k h = grind (arith, nat_tests)

-- the laws that this stands on, at one tick
pub record TickLaws (c : Configuration) (label : Label) (past : List Entry) : Type 0 where
  pub changed : ChangesByLevel
  pub own : TickLowersOwn c label past
  pub remaining : TickLowersRemaining c label past
  pub moves : TickMovesBlocking c label past
  pub lowers : TickLowersBlocking c label past
  pub levels : IdsTellLevels c past

-- demand after a tick of the work of level k
worked-lists : (c : Configuration) (label : Label) (past : List Entry) (k : ℕ) (own remaining : List ℕ) → TickLaws c label past
    → working_level (threads c past) label ≡ Some k
    → own ≡ each_level c (own_demand c (length past) past) → remaining ≡ each_level c (remaining_demand c (length past) past)
    → (by_level (at_level k (less 1)) own ≡ each_level c (own_demand c (length past) (quiet label ∷ past)))
    × (by_level (from_level k (less 1)) remaining ≡ each_level c (remaining_demand c (length past) (quiet label ∷ past)))
worked-lists c label past k own remaining laws is a b =
    let n = length past in (
      ap (by_level (at_level k (less 1))) a
          ∙ laws.changed c (at_level k (less 1)) (own_demand c n past) (own_demand c n (quiet label ∷ past))
          (λ j known. at-less k j 1 (own_demand c n past j) (own_demand c n (quiet label ∷ past) j)
          (sym (ap (λ o. own_demand c n (quiet label ∷ past) j + cond (option_map_or (λ i. eqb i j) o false) 1 0) is) ∙ laws.own j)),
      ap (by_level (from_level k (less 1))) b
          ∙ laws.changed c (from_level k (less 1)) (remaining_demand c n past) (remaining_demand c n (quiet label ∷ past))
          (λ j known. from-less k j 1 (remaining_demand c n past j) (remaining_demand c n (quiet label ∷ past) j)
          (sym (ap (λ o. remaining_demand c n (quiet label ∷ past) j + cond (option_map_or (λ i. leb i j) o false) 1 0) is) ∙ laws.remaining j)),
    )

-- demand after a tick of nobody's work
unworked-lists : (c : Configuration) (label : Label) (past : List Entry) (own remaining : List ℕ) → TickLaws c label past
    → working_level (threads c past) label ≡ None
    → own ≡ each_level c (own_demand c (length past) past) → remaining ≡ each_level c (remaining_demand c (length past) past)
    → (own ≡ each_level c (own_demand c (length past) (quiet label ∷ past)))
    × (remaining ≡ each_level c (remaining_demand c (length past) (quiet label ∷ past)))
unworked-lists c label past own remaining laws is a b = grind (arith, nat_tests)

payer-level : (c : Configuration) (label : Label) (past : List Entry) (x : Thread) → TickLaws c label past → Has (threads c past) x → payer label ≡ Some x.id
    → working_level (threads c past) label ≡ Some x.level
payer-level c label past x laws among pays = grind (arith, nat_tests)

nobody-level : (c : Configuration) (label : Label) (past : List Entry) → payer label ≡ None → kernel_level label ≡ None
    → working_level (threads c past) label ≡ None
nobody-level c label past pays kernel = grind (arith, nat_tests)

-- blocking after the tick of a thread, where it holds something and where it holds nothing
held-list : (c : Configuration) (label : Label) (past : List Entry) (x : Thread) (blocks : List ℕ) → TickLaws c label past → Has (threads c past) x
    → thread_of label ≡ Some x.id → blocks ≡ each_level c (blocking c past)
    → by_level (between (effective_level c past x) x.level (adjusted 1 0)) blocks ≡ each_level c (blocking c (quiet label ∷ past))
held-list c label past x blocks laws among is a = grind (arith, nat_tests)

free-level : (c : Configuration) (own : ℕ) (held : List Hold) → is_holding held ≡ false → level_holding c own held ≡ own
free-level c own held h = grind (arith, nat_tests)

free-list : (c : Configuration) (label : Label) (past : List Entry) (x : Thread) (blocks : List ℕ) → TickLaws c label past → Has (threads c past) x
    → thread_of label ≡ Some x.id → is_holder past x ≡ false → blocks ≡ each_level c (blocking c past)
    → blocks ≡ each_level c (blocking c (quiet label ∷ past))
free-list c label past x blocks laws among is free a =
    a ∙ levels-same c (blocking c past) (blocking c (quiet label ∷ past))
    (λ j known. (let law = laws.lowers x j among is in
    let own : effective_level c past x ≡ x.level = free-level c x.level (held_by x.id past) free in
    let none : cond {A = ℕ} (lies_between (effective_level c past x) x.level j) 1 0 ≡ 0 = ap (λ i. cond {A = ℕ} (lies_between i x.level j) 1 0) own ∙ empty x.level j in
    omega (arith, law, none)))
  where
    empty : (i j : ℕ) → cond {A = ℕ} (lies_between i i j) 1 0 ≡ 0
    empty i j =
        elim (cases_lt j i) [
          | inl before ↦ (let a : leb i j ≡ false = grind (arith, nat_tests) in rw a refl)
          | inr from ↦ (let a : leb i j ≡ true = grind (arith, nat_tests) in let b : ltb j i ≡ false = grind (arith, nat_tests) in rw (a, b) refl)
        ]

idle-list : (c : Configuration) (label : Label) (past : List Entry) (blocks : List ℕ) → TickLaws c label past
    → thread_of label ≡ None → blocks ≡ each_level c (blocking c past) → blocks ≡ each_level c (blocking c (quiet label ∷ past))
idle-list c label past blocks laws none a = grind (arith, nat_tests)

pub tick-cells : (c : Configuration) (label : Label) (past : List Entry) → TickLaws c label past → TickMovesCells c label past
tick-cells c label past laws =
    let n = length past in
    record {
      kernel =
          λ d k counts is. (let lists = lists-of c n past d counts in
          let level : working_level (threads c past) label ≡ Some k = ap (λ o. option_or o (option_map_or (level_of (threads c past)) (payer label) None)) is in
          let both = worked-lists c label past k d.own d.remaining laws level lists.own_is lists.remaining_is in
          cells-of c n past (quiet label ∷ past) d (by_level (at_level k (less 1)) d.own) (by_level (from_level k (less 1)) d.remaining) d.blocking counts
          (record { own_is = both.0; remaining_is = both.1; blocks_is = idle-list c label past d.blocking laws (kernel-nobody label k is) lists.blocks_is }));
      holder =
          λ d x counts among pays. (let lists = lists-of c n past d counts in
          let both = worked-lists c label past x.level d.own d.remaining laws (payer-level c label past x laws among pays) lists.own_is lists.remaining_is in
          cells-of c n past (quiet label ∷ past) d (by_level (at_level x.level (less 1)) d.own) (by_level (from_level x.level (less 1)) d.remaining)
          (by_level (between (effective_level c past x) x.level (adjusted 1 0)) d.blocking) counts
          (record { own_is = both.0; remaining_is = both.1; blocks_is = held-list c label past x d.blocking laws among (label-payer label x.id pays) lists.blocks_is }));
      free =
          λ d x counts among pays free. (let lists = lists-of c n past d counts in
          let both = worked-lists c label past x.level d.own d.remaining laws (payer-level c label past x laws among pays) lists.own_is lists.remaining_is in
          cells-of c n past (quiet label ∷ past) d (by_level (at_level x.level (less 1)) d.own) (by_level (from_level x.level (less 1)) d.remaining) d.blocking counts
          (record { own_is = both.0; remaining_is = both.1; blocks_is = free-list c label past x d.blocking laws among (label-payer label x.id pays) free lists.blocks_is }));
      slack =
          λ d x counts among borrows free. (let lists = lists-of c n past d counts in
          let parts = borrower-parts label x.id borrows in
          let both = unworked-lists c label past d.own d.remaining laws (nobody-level c label past parts.1 parts.2) lists.own_is lists.remaining_is in
          cells-of c n past (quiet label ∷ past) d d.own d.remaining d.blocking counts
          (record { own_is = both.0; remaining_is = both.1; blocks_is = free-list c label past x d.blocking laws among parts.0 free lists.blocks_is }));
      idle =
          λ d counts none kernel. (let lists = lists-of c n past d counts in
          let both = unworked-lists c label past d.own d.remaining laws (nobody-level c label past (nobody-pays label none) kernel) lists.own_is lists.remaining_is in
          cells-of c n past (quiet label ∷ past) d d.own d.remaining d.blocking counts
          (record { own_is = both.0; remaining_is = both.1; blocks_is = idle-list c label past d.blocking laws none lists.blocks_is }));
    }
