-- What is kept of a main stands for the entries so far, whether it has the next one or not.
use Rattle.std.proofs.Common.{ℕ, zero, suc, ◌≡◌, ◌+◌, ◌-◌, ◌<◌, inl, inr, ◌∙◌, refl, sym, ap, subst, arith, true, false, List, ◌∷◌, ◌++◌, length}
use Rattle.std.specs.Prelude.{◌&&◌, if◌then◌else◌, replicate}
use Rattle.std.proofs.lemmas.Bool.{cases_lt, lt-ltb, le-ltb}
use Rattle.std.proofs.lemmas.List.{length_push, length-append, length-replicate}
use Rattle.dk_trace.specs.declared.ThreadId.{ThreadId}
use Rattle.dk_trace.specs.declared.Entry.{Entry}
use Rattle.dk_trace.specs.Entries.{has_event, is_budget_of, is_end, is_of, quiet}
use Rattle.dk_trace.proofs.Whose.{budget-not}
use Rattle.dk_ledger.specs.declared.line.LedgerLine.{LedgerLine}
use Rattle.dk_ledger.specs.Heading.{Heading}
use Rattle.dk_window_report.specs.declared.row.Row.{Row}
use Rattle.dk_window_report.specs.Firsts.{budget_at}
use Rattle.dk_window_report.specs.Late.{after, nobody, passed, windows_before}
use Rattle.dk_window_report.specs.Owners.{Owner, main_owner}
use Rattle.dk_window_report.specs.Rows.{raised_if, row_of, stepped}
use Rattle.dk_window_report.proofs.Idle.{IsOther, as-nobody, not-own, passed-to}
use Rattle.dk_window_report.proofs.Steps.{row-next}
use Rattle.dk_window_report.proofs.Stepping.{not-stopped}
use Rattle.show_ledger.specs.declared.told.Told.{Told}
use Rattle.show_ledger.specs.Tenths.{lived, tenth_counts, tenths_of}
use Rattle.show_ledger.specs.Told.{IsTold, counted, told_at, told_line, told_many, told_with}
use Rattle.show_ledger.proofs.TenthCounts.{IsUsed, counted-same, grown}
use Rattle.show_ledger.proofs.Idling.{Idles, idles}
use Rattle.show_ledger.proofs.Living.{Ends, few-lived, lived-next, windows-are}

-- another thread has the entry, or none
pub main-other : (p : ℕ) (e : Entry) → is_of (record { process = p; serial = 0 }) e ≡ false → IsOther (record { process = p; serial = 0 }) e
main-other p e other =
    let x : ThreadId = record { process = p; serial = 0 } in
    let ends = ap (λ b. b && has_event is_end e) other in
    not-own x e other (not-stopped x e ends ends refl)

module _ (h : Heading) (p : ℕ) where
  abbrev o : Owner
  o = main_owner h p

  abbrev b : ℕ
  b = budget_at h p

  abbrev row : List Entry → Row
  row past = row_of past o

  -- this is kept up to the newest entry
  pub record IsNow (past : List Entry) (t : Told) : Type 0 where
    pub budget : t.budget ≡ b
    pub tick : t.tick ≡ length past
    pub row : t.row ≡ row_of past o
    pub tenths : t.tenths ≡ tenths_of h past p

  windows-now : (past : List Entry) → (row past).counts.windows ≡ length (lived o past)
  windows-now past = windows-are o past

  windows-same : (e : Entry) (past : List Entry) → lived o (e ∷ past) ≡ lived o past → (row (e ∷ past)).counts.windows ≡ (row past).counts.windows
  windows-same e past same = windows-now (e ∷ past) ∙ ap length same ∙ sym (windows-now past)

  windows-more : (e : Entry) (past : List Entry) (ends : Ends o refl e past) → (row (e ∷ past)).counts.windows ≡ suc (row past).counts.windows
  windows-more e past ends =
      let push = length_push (lived o past) ends.did in
      let new = windows-now (e ∷ past) ∙ ap length ends.lived in
      let old = windows-now past in
      omega (arith, push, new, old)

  few-windows : (past : List Entry) → length past < 4294967295 → length (lived o past) < 4294967295
  few-windows past few = let most = few-lived o refl past in omega (arith, most, few)

  -- ---- up to the newest entry

  pub of-now : (past : List Entry) (t : Told) → IsNow past t → IsTold h past p t
  of-now past t is =
      let tick = is.tick in
      let none : length past - t.tick ≡ 0 = omega (arith, tick) in
      record {
        budget = is.budget;
        tick = omega (arith, tick);
        row = ap (λ n. passed t.tick n t.row) none ∙ is.row;
        tenths = counted-same t.budget t.row.did.used t.row.counts.windows (row past).counts.windows t.tenths (ap (λ (r : Row). r.counts.windows) (sym is.row)) ∙ is.tenths;
      }

  pub to-now : (past : List Entry) (t : Told) → IsTold h past p t → IsNow past (told_at (length past) t)
  to-now past t is =
      let now = length past in
      let r = passed t.tick (now - t.tick) t.row in
      let all : Told = record {
        budget = t.budget;
        row = r;
        tick = now;
        tenths = counted t.budget t.row.did.used t.row.counts.windows r.counts.windows t.tenths;
      } in
      elim (cases_lt t.tick now) [
        | inl early ↦
            let same : told_at now t ≡ all = ap (λ c. if c then all else t) (lt-ltb t.tick now early) in
            subst (IsNow past) (sym same) (record {
              budget = is.budget;
              tick = refl;
              row = is.row;
              tenths = ap (λ (s : Row). counted t.budget t.row.did.used t.row.counts.windows s.counts.windows t.tenths) is.row ∙ is.tenths;
            })
        | inr late ↦
            let most = is.tick in
            let none : now - t.tick ≡ 0 = omega (arith, late) in
            let same : told_at now t ≡ t = ap (λ c. if c then all else t) (le-ltb t.tick now late) in
            let here : t.row ≡ row past = ap (λ n. passed t.tick n t.row) (sym none) ∙ is.row in
            subst (IsNow past) (sym same) (record {
              budget = is.budget;
              tick = omega (arith, most, late);
              row = here;
              tenths = sym (counted-same t.budget t.row.did.used t.row.counts.windows (row past).counts.windows t.tenths (ap (λ (s : Row). s.counts.windows) (sym here))) ∙ is.tenths;
            })
      ]

  -- ---- an entry that it has

  now-tenths : (past : List Entry) (t : Told) (e : Entry) → IsNow past t → length past < 4294967295
      → counted b (raised_if (is_budget_of o.id e) (row past).did.used) (row past).counts.windows (row (e ∷ past)).counts.windows (tenths_of h past p) ≡ tenths_of h (e ∷ past) p
  now-tenths past t e is few =
      let used = raised_if (is_budget_of o.id e) (row past).did.used in
      let w = (row past).counts.windows in
      let v = (row (e ∷ past)).counts.windows in
      let ts = tenths_of h past p in
      elim (lived-next o refl e past few) [
        | inl same ↦ counted-same b used w v ts (windows-same e past same) ∙ ap (tenth_counts b) (sym same)
        | inr ends ↦
            ap (λ n. counted b used w n ts) (windows-more e past ends)
            ∙ grown b used w w ts (lived o past) ends.did (few-windows past few) (counted-same b used w w ts refl) (inl (refl, ends.used))
            ∙ ap (tenth_counts b) (sym ends.lived)
      ]

  pub now-next : (past : List Entry) (t : Told) (e : Entry) → IsNow past t → length past < 4294967295 → IsNow (e ∷ past) (told_with e t)
  now-next past t e is few =
      let next : stepped t.tick e t.row ≡ row (e ∷ past) =
      ap (λ n. stepped n e t.row) is.tick ∙ ap (stepped (length past) e) is.row ∙ sym (row-next o e past few) in
      let tick = is.tick in
      record {
        budget = is.budget;
        tick = omega (arith, tick);
        row = next;
        tenths = ap (λ n. counted n (raised_if (is_budget_of t.row.thread e) t.row.did.used) t.row.counts.windows (stepped t.tick e t.row).counts.windows t.tenths) is.budget
            ∙ ap (λ (s : Row). counted b (raised_if (is_budget_of t.row.thread e) t.row.did.used) t.row.counts.windows s.counts.windows t.tenths) next
            ∙ ap (λ (r : Row). counted b (raised_if (is_budget_of r.thread e) r.did.used) r.counts.windows (row (e ∷ past)).counts.windows t.tenths) is.row
            ∙ ap (λ ts. counted b (raised_if (is_budget_of o.id e) (row past).did.used) (row past).counts.windows (row (e ∷ past)).counts.windows ts) is.tenths
            ∙ now-tenths past t e is few;
      }

  pub now-many : (past : List Entry) (t : Told) (e : Entry) (n : ℕ) → IsNow past t → length past + n < 4294967295 → IsNow (replicate n e ++ past) (told_many e n t)
  now-many past t e zero is few = is
  now-many past t e (suc n) is few =
      let size = length-append (replicate n e) past in
      let many = length-replicate n e in
      let small : length (replicate n e ++ past) < 4294967295 = omega (arith, size, many, few) in
      now-next (replicate n e ++ past) (told_many e n t) e (now-many past t e n is (omega (arith, few))) small

  pub line-told : (past : List Entry) (t : Told) (line : LedgerLine) → IsTold h past p t → line.start ≡ length past → 0 < line.count → length past + line.count < 4294967295
      → IsTold h (record { label = line.label; event = line.event } ∷ (replicate (line.count - 1) (quiet line.label) ++ past)) p (told_line line t)
  line-told past t line is start some few =
      let e = quiet line.label in
      let last : Entry = record { label = line.label; event = line.event } in
      let n = line.count - 1 in
      let first : IsNow past (told_at line.start t) = subst (λ k. IsNow past (told_at k t)) (sym start) (to-now past t is) in
      let more = now-many past (told_at line.start t) e n first (omega (arith, some, few)) in
      let size = length-append (replicate n e) past in
      let many = length-replicate n e in
      let small : length (replicate n e ++ past) < 4294967295 = omega (arith, size, many, some, few) in
      of-now (last ∷ (replicate n e ++ past)) (told_line line t) (now-next (replicate n e ++ past) (told_many e n (told_at line.start t)) last more small)

  -- ---- an entry that another thread has, or none

  used-next : (past : List Entry) (t : Told) → IsTold h past p t → length past < 4294967295 → Idles t.row (row past)
  used-next past t is few =
      let w = windows_before t.row (length past) - windows_before t.row t.tick in
      let same : after w t.row ≡ row past = passed-to t.row t.tick (length past) is.tick ∙ is.row in
      let most = few-windows past few in
      let windows = windows-now past in
      let of = ap (λ (r : Row). r.counts.windows) same in
      subst (Idles t.row) same (idles w t.row (omega (arith, most, windows, of)))

  other-tenths : (past : List Entry) (t : Told) (e : Entry) → IsTold h past p t → is_of o.id e ≡ false → length past < 4294967295
      → counted t.budget t.row.did.used t.row.counts.windows (row (e ∷ past)).counts.windows t.tenths ≡ tenths_of h (e ∷ past) p
  other-tenths past t e is other few =
      let used = t.row.did.used in
      let w = t.row.counts.windows in
      let v = (row past).counts.windows in
      let own : counted b used w v t.tenths ≡ tenth_counts b (lived o past) = ap (λ n. counted n used w v t.tenths) (sym is.budget) ∙ is.tenths in
      ap (λ n. counted n used w (row (e ∷ past)).counts.windows t.tenths) is.budget
      ∙ (elim (lived-next o refl e past few) [
        | inl same ↦ ap (λ n. counted b used w n t.tenths) (windows-same e past same) ∙ own ∙ ap (tenth_counts b) (sym same)
        | inr ends ↦
            let unpaid : ends.did.used ≡ (row past).did.used = ends.used ∙ ap (λ c. raised_if c (row past).did.used) (budget-not o.id e other) in
            elim (used-next past t is few) [
              | inl gone ↦ absurd (let both : true ≡ false = sym gone ∙ ends.lives in cc)
              | inr idle ↦
                  ap (λ n. counted b used w n t.tenths) (windows-more e past ends)
                  ∙ grown b used w v t.tenths (lived o past) ends.did (few-windows past few) own (subst (IsUsed used w v) (sym unpaid) idle)
                  ∙ ap (tenth_counts b) (sym ends.lived)
            ]
      ])

  pub other-next : (past : List Entry) (t : Told) (e : Entry) → IsTold h past p t → is_of o.id e ≡ false → length past < 4294967295 → IsTold h (e ∷ past) p t
  other-next past t e is other few =
      let n = length past - t.tick in
      let tick = is.tick in
      let one : suc (length past) - t.tick ≡ suc n = omega (arith, tick) in
      let at : t.tick + n ≡ length past = omega (arith, tick) in
      record {
        budget = is.budget;
        tick = omega (arith, tick);
        row = ap (λ k. passed t.tick k t.row) one
            ∙ ap (λ k. stepped k nobody (passed t.tick n t.row)) at
            ∙ ap (stepped (length past) nobody) is.row
            ∙ as-nobody (length past) e (row past) (main-other p e other)
            ∙ sym (row-next o e past few);
        tenths = other-tenths past t e is other few;
      }

  other-many : (past : List Entry) (t : Told) (e : Entry) (n : ℕ) → IsTold h past p t → is_of o.id e ≡ false → length past + n < 4294967295
      → IsTold h (replicate n e ++ past) p t
  other-many past t e zero is other few = is
  other-many past t e (suc n) is other few =
      let size = length-append (replicate n e) past in
      let many = length-replicate n e in
      let small : length (replicate n e ++ past) < 4294967295 = omega (arith, size, many, few) in
      other-next (replicate n e ++ past) t e (other-many past t e n is other (omega (arith, few))) other small

  pub line-left : (past : List Entry) (t : Told) (line : LedgerLine) → IsTold h past p t → is_of o.id (quiet line.label) ≡ false → 0 < line.count → length past + line.count < 4294967295
      → IsTold h (record { label = line.label; event = line.event } ∷ (replicate (line.count - 1) (quiet line.label) ++ past)) p t
  line-left past t line is other some few =
      let e = quiet line.label in
      let last : Entry = record { label = line.label; event = line.event } in
      let n = line.count - 1 in
      let size = length-append (replicate n e) past in
      let many = length-replicate n e in
      let small : length (replicate n e ++ past) < 4294967295 = omega (arith, size, many, some, few) in
      other-next (replicate n e ++ past) t last (other-many past t e n is other (omega (arith, some, few))) other small
