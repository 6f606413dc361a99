-- What the invariant says of a single holder: it runs, it isn't closed, and it has time for each mutex that it holds.
use Rattle.dk_bound.proofs.Names.{ℕ, suc, ◌≡◌, ◌<◌, ◌≤◌, inl, inr, true, List, [], ◌∷◌, length, refl, arith, cases_lt, Configuration, IsChecked, window_start, Entry, Has, Thread, threads, job, thread_body_left, Hold, held_by, hold_left, is_holder, Audited, HolderStands, row-of, window_end-above, closed-stopped, threads-fit, nat_tests}
use Rattle.std.proofs.Common.{Option, Some, None}
use Rattle.dk_bound.proofs.Holding.{Rising, HoldersFit}
use Rattle.dk_bound.proofs.HoldersFit.{row-nested, holder-rem, holder-stands, Rising-some}

Rising-each : (c : Configuration) (low high : ℕ) (held : List Hold) (h : Hold) → Rising c low high held → Has held h → (low ≤ hold_left c h) × (hold_left c h ≤ high)
Rising-each c low high [] h r has = absurd has
Rising-each c low high (k ∷ held) h r (inl same) = grind (arith, nat_tests)
Rising-each c low high (k ∷ held) h r (inr later) = grind (arith, nat_tests, Rising-each c (suc (hold_left c k)) high held h r.2 later)

-- a thread that was stopped before its window has no body left
stopped-body : (c : Configuration) (past : List Entry) (x : Thread) (t : ℕ) → x.stop ≡ Some t → t < window_start c x.level (length past)
    → thread_body_left c (length past) past x ≡ 0
stopped-body c past x t is gone = grind (arith, nat_tests)

-- no event has stopped a holder
holder-runs : (c : Configuration) (past : List Entry) (x : Thread) → IsChecked c → Audited c past → HoldersFit c (length past) past → Has (threads c past) x
    → is_holder past x ≡ true → x.stop ≡ None
holder-runs c past x checked audited inv among holding = go x.stop refl
  where
    go : (o : Option ℕ) → x.stop ≡ o → x.stop ≡ None
    go None is = is
    go (Some t) is =
        let fit = threads-fit c past checked audited in
        let n = length past in
        let row = row-of c x.id.process past x checked (fit.rows x among).known audited (fit.place x among) in
        let old : t < n = row.stopped t is in
        let up = window_end-above c x.level n row.positive in
        elim (cases_lt t (window_start c x.level n)) [
          | inl gone ↦
              let none = stopped-body c past x t is gone in
              let some = Rising-some c (thread_body_left c n past x) (held_by x.id past) (row-nested c n past x fit inv among) holding in
              absurd (omega arith)
          | inr inside ↦
              let shut : (job c n past x).closed ≡ true = closed-stopped c n past x t is inside (omega arith) in
              let stands = holder-stands c n past x fit inv among holding in
              absurd (cc)
        ]

pub holder-facts : (c : Configuration) (past : List Entry) (x : Thread) → IsChecked c → Audited c past → HoldersFit c (length past) past → Has (threads c past) x
    → is_holder past x ≡ true → HolderStands c past x
holder-facts c past x checked audited inv among holding =
    let fit = threads-fit c past checked audited in
    let n = length past in
    record {
      running = holder-runs c past x checked audited inv among holding;
      unclosed = holder-stands c n past x fit inv among holding;
      rem = holder-rem c n past x fit inv among holding;
      left = λ h has. Rising-each c 1 (thread_body_left c n past x) (held_by x.id past) h (row-nested c n past x fit inv among) has;
    }
