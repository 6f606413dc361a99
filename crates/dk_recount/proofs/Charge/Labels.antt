-- What the laws below say of a tick that is charged, and what a label says of its choice.
use Rattle.dk_recount.proofs.Names.{◌≡◌, ◌<◌, ◌-◌, ◌∙◌, true, ℕ, List, length, map, get_or, Option, Some, None, option_map, refl, ap, sym, subst, slice_get, All, slice_get-map, Configuration, raised-all, ThreadId, Entry, Has, is_same, threads, Always, AtEachTick, TickSpends, TickLowersRem, TickLowersOwn, TickLowersRemaining, TickLowersBlocking, BudgetTickSpends, JobsKeepSeats, KernelTickSpends, OthersKeepParts, QueuesWorkers, IdsTellLevels, ChosenHolds, TickKeepsRows, Holder, Lockable, spent_row, HasLevels, TickSpendsHolds, OthersKeepHolds, TellsLevels, TellsWithin, TickMovesCells, raised, OthersKeepWishes, TellsAmounts, TickCountsUnclaimed, SlackSpendsWish, HoldsNest, nat_tests, arith}
use Rattle.dk_mutex.specs.Rows.{lowered}

pub record TickLaws : Type 0 where
  pub chosen : Always ChosenHolds
  pub levels : Always IdsTellLevels
  pub spends : AtEachTick TickSpends
  pub own : AtEachTick TickLowersOwn
  pub remaining : AtEachTick TickLowersRemaining
  pub blocks : AtEachTick TickLowersBlocking
  pub lowers : AtEachTick TickLowersRem
  pub budget : BudgetTickSpends
  pub jobs : JobsKeepSeats
  pub kernel : KernelTickSpends
  pub parts : OthersKeepParts
  pub queued : QueuesWorkers
  pub rows : TickKeepsRows
  pub held : TickSpendsHolds
  pub unheld : OthersKeepHolds
  pub runs : TellsLevels
  pub within : TellsWithin
  pub nest : Always HoldsNest
  pub cells : AtEachTick TickMovesCells
  pub wishes : OthersKeepWishes
  pub wished : SlackSpendsWish
  pub wants : TellsAmounts
  pub unclaimed : TickCountsUnclaimed

-- a holder after a tick was one before it, of the same level
lowered-back : (id : ThreadId) (o : Option Holder) (h : Holder) → lowered id o ≡ Some h → (k : Holder) × (o ≡ Some k) × (h.thread ≡ k.thread) × (h.level ≡ k.level)
lowered-back id None h is = absurd (cc)
lowered-back id (Some k) h is = grind (arith, nat_tests)

pub levels-spent : (c : Configuration) (past after : List Entry) (rows : List Lockable) (id : ThreadId) → HasLevels c past rows → threads c after ≡ threads c past
    → HasLevels c after (map (spent_row id) rows)
levels-spent c past after rows id levels same m row h x at held among is = go (slice_get rows m) refl
  where
    go : (o : Option Lockable) → slice_get rows m ≡ o → h.level ≡ x.level
    go None none =
        let no' : None ≡ Some row = sym (slice_get-map (spent_row id) rows m ∙ ap (option_map (spent_row id)) none) ∙ at in absurd (cc)
    go (Some r) some =
        let e : Some (spent_row id r) ≡ Some row = sym (slice_get-map (spent_row id) rows m ∙ ap (option_map (spent_row id)) some) ∙ at in
        let row' : spent_row id r ≡ row = cc in
        let back = lowered-back id r.holder h (ap (λ (z : Lockable). z.holder) row' ∙ held) in
        let there : Has (threads c past) x = subst (λ xs. Has xs x) same among in
        let mine : is_same x.id back.0.thread ≡ true = subst (λ i. is_same x.id i ≡ true) back.2 is in
        back.3 ∙ levels m r back.0 x some back.1 there mine

pub levels-kept : (c : Configuration) (past after : List Entry) (rows : List Lockable) → HasLevels c past rows → threads c after ≡ threads c past → HasLevels c after rows
levels-kept c past after rows levels same m row h x at held among is = levels m row h x at held (subst (λ xs. Has xs x) same among) is

pub raised-few : (wl : Option ℕ) (us : List ℕ) (P : ℕ → Type 0) → ((j d : ℕ) → j < length us → P (get_or us j d)) → All P (raised wl us)
raised-few None us P each = λ k d h. each k d h
raised-few (Some level) us P each = λ k d h. raised-all P us each level k d h
