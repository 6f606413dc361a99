-- A lock never finds its mutex held.
use Rattle.dk_bound.proofs.Names.{thread-of, find-has, ℕ, ◌≡◌, ◌-◌, ◌<◌, ◌≤◌, inl, inr, true, false, cond, List, ◌∷◌, length, sym, ap, ◌∙◌, subst, arith, map, Some, cases_Bool, Configuration, IsChecked, ceiling, longest_hold, is_user, ThreadId, Entry, is_of, is_budget_of, thread_of, is_same, Thread, threads, family, job, thread_body_left, Hold, aged, held_by, is_holding, is_held, effective_level, chosen, lock_refusal, Audited, HasChosenLabel, without_event, row_of, Has, Passed, Turn, kind-label, ThreadsFit, threads-fit, among-threads, same-id, aged-held}
use Rattle.std.proofs.Common.{None}
use Rattle.dk_bound.proofs.Holding.{HoldersFit}
use Rattle.dk_bound.proofs.Nesting.{level-held}
use Rattle.dk_bound.proofs.Bodies.{body-rem}
use Rattle.dk_bound.proofs.Locks.{lock-met, LockMet, Mine, by_budget, by_slack, mine-kind}
use Rattle.dk_bound.proofs.HoldersFit.{holds-nothing, before-holders, actor-row}
use Rattle.dk_bound.proofs.Certified.{same-or}

is_held-none : (m : ℕ) (held : List Hold) → is_holding held ≡ false → is_held m held ≡ false
is_held-none m held free = ap (is_held m) (holds-nothing held free)

-- a mutex of the chosen thread's process is held by no other thread
pub other-free : (c : Configuration) (past : List Entry) (k m : ℕ) (x : Thread) (y : ThreadId) → IsChecked c → ThreadsFit c past → HoldersFit c (length past) past
    → Passed c past k → Turn c past k x → Has (threads c past) x → is_user c m x.id.process ≡ true → (x.id ≡ y → ⊥) → is_held m (held_by y past) ≡ false
other-free c past k m x y checked fit inv passed turn among user apart =
    elim (cases_Bool (is_held m (held_by y past))) [
      | inr free ↦ free
      | inl held ↦
          elim (cases_Bool (is_holding (held_by y past))) [
            | inr nothing ↦ is_held-none m (held_by y past) nothing
            | inl holding ↦
                let h = inv.holder y holding in
                let before : x.level < effective_level c past h.row =
                before-holders c past k x h.row fit inv passed turn among h.among (λ same. apart (same ∙ h.same))
                (subst (λ i. is_holding (held_by i past) ≡ true) (sym h.same) holding) in
                let low : effective_level c past h.row ≤ ceiling c m = level-held c h.row.level m (held_by h.row.id past) (subst (λ i. is_held m (held_by i past) ≡ true) (sym h.same) held) in
                let own = checked.ceilings m x.id.process user in
                let row = (fit.rows x among).low in
                absurd (omega arith)
          ]
    ]

lock-turn : (c : Configuration) (past : List Entry) (e : Entry) (m : ℕ) (x : Thread)
    → LockMet c (thread_body_left c (length past) past x - cond (is_budget_of x.id e) 1 0) m x (map aged (held_by x.id past)) → Mine c past e x
    → (k : ℕ) × Passed c past k × Turn c past k x
lock-turn c past e m x fits (by_budget k known passed turn pays) = (k, passed, turn)
lock-turn c past e m x fits (by_slack none pays) =
    let positive = fits.in_time.positive in
    let in_time : longest_hold c m ≤ thread_body_left c (length past) past x - 0 =
    subst (λ b. longest_hold c m ≤ thread_body_left c (length past) past x - cond b 1 0) pays fits.in_time.ends_in_time in
    let le = body-rem c.costs.switch (job c (length past) past x) in
    absurd (omega arith)

held-before : (m : ℕ) (held : List Hold) → is_held m (map aged held) ≡ false → is_held m held ≡ false
held-before m held free = sym (aged-held m held) ∙ free

-- Where the thread that has the tick may lock, nobody holds the mutex, itself included.
pub lock-free : (c : Configuration) (past : List Entry) (e : Entry) (m : ℕ) (x : ThreadId) (row : Thread) (y : ThreadId) → IsChecked c → Audited c past → HoldersFit c (length past) past
    → HasChosenLabel (chosen c past) e.label → thread_of e.label ≡ Some x → row_of c past x ≡ Some row
    → lock_refusal c (length past) (without_event e ∷ past) row m ≡ None → is_held m (held_by y past) ≡ false
lock-free c past e m x row y checked audited inv labelled is found none =
    let fit = threads-fit c past checked audited in
    let f = find-has (λ z. is_same x z.id) (family c x.process past) row found in
    let id : x ≡ row.id = same-id x row.id f.1 in
    let mine : is_of row.id e ≡ true = subst (λ i. is_of i e ≡ true) id (thread-of x e is) in
    let kind_of = kind-label c past e.label labelled in
    let actor = actor-row c past e row.id mine kind_of in
    let known : row.id.process < length c.processes = subst (λ i. i.process < length c.processes) actor.2 (fit.rows actor.0 actor.1).known in
    let place : Has (family c row.id.process past) row = subst (λ i. Has (family c i.process past) row) id f.0 in
    let among : Has (threads c past) row = among-threads c past row known place in
    let fits = lock-met c e past row m checked mine none in
    let r = lock-turn c past e m row fits (mine-kind c past e row fit among mine kind_of) in
    elim (same-or row.id y) [
      | inl same ↦ subst (λ i. is_held m (held_by i past) ≡ false) same (held-before m (held_by row.id past) fits.in_time.free)
      | inr apart ↦ other-free c past r.0 m row y checked fit inv r.1 r.2 among fits.user apart
    ]
