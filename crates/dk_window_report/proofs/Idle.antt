-- What entries that don't touch a thread make of its row, one after another and all at once.
use Rattle.std.proofs.Common.{ℕ, zero, suc, ◌≡◌, ◌≢◌, ◌+◌, ◌-◌, ◌/◌, ◌%◌, ◌≤◌, ◌⊎◌, inl, inr, ◌∙◌, refl, sym, ap, subst, arith, Bool, true, false}
use Rattle.std.specs.Prelude.{◌==◌, ◌||◌, ◌&&◌, not, nat_lt, if◌then◌else◌, min}
use Rattle.std.proofs.Math.Bool.{and-false, or-false}
use Rattle.std.proofs.Math.Nat.{mod-zero, mod-lt}
use Rattle.std.proofs.lemmas.Bool.{cases_lt, ne_eqb, eq-eqb, lt-ltb, le-ltb}
use Rattle.dk_trace.specs.declared.ThreadId.{ThreadId}
use Rattle.dk_trace.specs.declared.Entry.{Entry}
use Rattle.dk_trace.specs.Entries.{is_of, is_budget_of, has_event, does, is_wait, stops}
use Rattle.dk_trace.proofs.Whose.{budget-not}
use Rattle.dk_trace.proofs.Windows.{mod-next}
use Rattle.dk_window_report.specs.declared.row.Did.{Did}
use Rattle.dk_window_report.specs.declared.row.WindowCounts.{WindowCounts}
use Rattle.dk_window_report.specs.declared.row.Row.{Row}
use Rattle.dk_window_report.specs.Rows.{raised, raised_if, did_with, lesser, first_with, counts_with, nothing_done, ended, filled, stepped}
use Rattle.dk_window_report.specs.Late.{nobody, passed, windows_before, idled, after}
use Rattle.dk_window_report.proofs.Steps.{did-equal, counts-equal, row-equal, div-same, div-more}

-- ---- an entry that doesn't touch the thread

-- the thread doesn't pay for the entry, nor wait in it, and isn't stopped
pub record IsOther (x : ThreadId) (e : Entry) : Type 0 where
  pub paid : is_budget_of x e ≡ false
  pub wait : does is_wait x e ≡ false
  pub stop : stops x e ≡ false

-- where it isn't the thread's
pub not-own : (x : ThreadId) (e : Entry) → is_of x e ≡ false → stops x e ≡ false → IsOther x e
not-own x e own stop = record { paid = budget-not x e own; wait = ap (λ b. b && has_event is_wait e) own; stop = stop }

pub nobody-other : (x : ThreadId) → IsOther x nobody
nobody-other x = record { paid = refl; wait = refl; stop = and-false (not (x.serial == 0)) }

-- the row where nothing is added to what the thread did
abbrev passed_one : ℕ → Row → Row
passed_one now r = if nat_lt now r.since then r else filled ((now - r.since) % r.period) r r.did

same-did : (gone : Bool) (x : ThreadId) (e : Entry) (k : ℕ) (d : Did) → IsOther x e → did_with gone x e k d ≡ d
same-did gone x e k d other =
    did-equal (did_with gone x e k d) d
    (ap (λ b. raised_if b d.used) other.paid)
    (ap (λ b. if b then raised k else d.done) other.paid)
    (ap (λ b. b || d.waited) other.wait)
    (ap (λ b. (not gone && b) || d.stopped) other.stop ∙ ap (λ b. b || d.stopped) (and-false (not gone)))

pub other-is : (now : ℕ) (e : Entry) (r : Row) → IsOther r.thread e → stepped now e r ≡ passed_one now r
other-is now e r other =
    let k = (now - r.since) % r.period in
    ap (λ d. if nat_lt now r.since then r else filled k r d) (same-did r.gone r.thread e k r.did other)

-- it is as one of nobody
pub as-nobody : (now : ℕ) (e : Entry) (r : Row) → IsOther r.thread e → stepped now nobody r ≡ stepped now e r
as-nobody now e r other = other-is now nobody r (nobody-other r.thread) ∙ sym (other-is now e r other)

-- ---- the windows that end meanwhile

-- a window of the row ends with the tick, or none does
record Ends (r : Row) (tick : ℕ) : Type 0 where
  more : windows_before r (suc tick) ≡ suc (windows_before r tick)
  row : passed_one tick r ≡ ended r r.did

record GoesOn (r : Row) (tick : ℕ) : Type 0 where
  same : windows_before r (suc tick) ≡ windows_before r tick
  row : passed_one tick r ≡ r

below-period : (n p : ℕ) → suc n % p ≡ suc (n % p) → n % p + 1 ≢ p
below-period n zero within is = omega (arith, is)
below-period n (suc q) within is = let low = mod-lt (suc n) {m = suc q} (omega arith) in omega (arith, is, within, low)

-- of a tick in a window
from-window : (r : Row) (tick : ℕ) → r.since ≤ tick → passed_one tick r ≡ filled ((tick - r.since) % r.period) r r.did
from-window r tick since = ap (λ b. if b then r else filled ((tick - r.since) % r.period) r r.did) (le-ltb tick r.since since)

goes-on : (r : Row) (tick : ℕ) → r.since ≤ tick → suc (tick - r.since) % r.period ≡ suc ((tick - r.since) % r.period) → GoesOn r tick
goes-on r tick since within =
    let n = tick - r.since in
    let next : suc tick - r.since ≡ suc n = omega (arith, since) in
    record {
      same = ap (λ k. k / r.period) next ∙ div-same n r.period within;
      row = from-window r tick since
          ∙ ap (λ b. if b then ended r r.did else record r { did = r.did }) (ne_eqb (n % r.period + 1) r.period (below-period n r.period within));
    }

ends : (r : Row) (tick : ℕ) → r.since ≤ tick → suc ((tick - r.since) % r.period) ≡ r.period → Ends r tick
ends r tick since full =
    let n = tick - r.since in
    let next : suc tick - r.since ≡ suc n = omega (arith, since) in
    let last : n % r.period + 1 ≡ r.period = omega (arith, full) in
    record {
      more = ap (λ k. k / r.period) next ∙ div-more n r.period full;
      row = from-window r tick since ∙ ap (λ b. if b then ended r r.did else record r { did = r.did }) (eq-eqb (n % r.period + 1) r.period last);
    }

-- by the period
in-window : (r : Row) (tick : ℕ) → r.since ≤ tick → (p : ℕ) → p ≡ r.period → Ends r tick ⊎ GoesOn r tick
in-window r tick since zero none =
    let n = tick - r.since in
    inr (goes-on r tick since (subst (λ q. suc n % q ≡ suc (n % q)) none (mod-zero (suc n) ∙ ap suc (sym (mod-zero n)))))
in-window r tick since (suc q) some =
    elim (mod-next (tick - r.since) r.period (omega (arith, some))) [
      | inl parts ↦ inl (ends r tick since parts.1)
      | inr within ↦ inr (goes-on r tick since within)
    ]

next-window : (r : Row) (tick : ℕ) → Ends r tick ⊎ GoesOn r tick
next-window r tick =
    elim (cases_lt tick r.since) [
      | inl early ↦
          let new : suc tick - r.since ≡ 0 = omega (arith, early) in
          let old : tick - r.since ≡ 0 = omega (arith, early) in
          inr (record {
            same = ap (λ k. k / r.period) (new ∙ sym old);
            row = ap (λ b. if b then r else filled ((tick - r.since) % r.period) r r.did) (lt-ltb tick r.since early);
          })
      | inr since ↦ in-window r tick since r.period refl
    ]

-- ---- all at once

lesser-none : (w n : ℕ) → lesser w n 0 ≡ 0
lesser-none w n = go (w == 0)
  where
    go : (b : Bool) → (if b then 0 else min n 0) ≡ 0
    go true = refl
    go false = omega arith

-- a window in which it did nothing isn't one that it overran
first-none : (c : WindowCounts) → first_with c nothing_done ≡ c.first_overran
first-none c = ap (λ b. if b then raised c.windows else c.first_overran) (and-false (c.first_overran == 0))

-- one window more in which it did nothing
idle-more : (gone : Bool) (n : ℕ) (c : WindowCounts) → counts_with gone (idled gone n c) nothing_done ≡ idled gone (suc n) c
idle-more true zero c = refl
idle-more true (suc n) c = refl
idle-more false zero c =
    counts-equal (counts_with false c nothing_done) (idled false 1 c) (omega arith) refl refl refl (first-none c)
    (lesser-none c.windows c.least_used) (omega arith) (lesser-none c.windows c.first_done) (omega arith)
idle-more false (suc n) c =
    let k = idled false (suc n) c in
    counts-equal (counts_with false k nothing_done) (idled false (suc (suc n)) c) (omega arith) refl refl refl (first-none k)
    (lesser-none k.windows 0) (omega arith) (lesser-none k.windows 0) (omega arith)

after-more : (n : ℕ) (r : Row) → ended (after n r) (after n r).did ≡ after (suc n) r
after-more zero r = refl
after-more (suc n) r =
    let e = ended r r.did in
    row-equal (ended (after (suc n) r) nothing_done) (after (suc (suc n)) r) refl refl refl refl
    (idle-more e.gone n e.counts) (or-false e.gone)

-- the windows of the row are those of what becomes of it
after-windows : (n : ℕ) (r : Row) (tick : ℕ) → windows_before (after n r) tick ≡ windows_before r tick
after-windows zero r tick = refl
after-windows (suc n) r tick = refl

record Passed (r : Row) (tick n : ℕ) : Type 0 where
  order : windows_before r tick ≤ windows_before r (tick + n)
  row : passed tick n r ≡ after (windows_before r (tick + n) - windows_before r tick) r

none-between : (a b : ℕ) → a ≡ b → a - b ≡ 0
none-between a b same = omega (arith, same)

one-between : (a b c : ℕ) → b ≤ a → c ≡ suc a → suc (a - b) ≡ c - b
one-between a b c order more = omega (arith, order, more)

order-same : (a b c : ℕ) → b ≤ a → c ≡ a → b ≤ c
order-same a b c order same = omega (arith, order, same)

order-more : (a b c : ℕ) → b ≤ a → c ≡ suc a → b ≤ c
order-more a b c order more = omega (arith, order, more)

passed-after : (r : Row) (tick n : ℕ) → Passed r tick n
passed-after r tick zero =
    let same : tick + 0 ≡ tick = omega arith in
    let again = ap (windows_before r) same in
    let least : windows_before r tick ≤ windows_before r tick = omega arith in
    record {
      order = order-same (windows_before r tick) (windows_before r tick) (windows_before r (tick + 0)) least again;
      row = sym (ap (λ k. after k r) (none-between (windows_before r (tick + 0)) (windows_before r tick) again));
    }
passed-after r tick (suc n) =
    let before = passed-after r tick n in
    let t = tick + n in
    let first = windows_before r tick in
    let now = windows_before r t in
    let next = windows_before r (tick + suc n) in
    let w = now - first in
    let s = after w r in
    let step : tick + suc n ≡ suc t = omega arith in
    let last : next ≡ windows_before s (suc t) = ap (windows_before r) step ∙ sym (after-windows w r (suc t)) in
    let one : passed tick (suc n) r ≡ passed_one t s = ap (stepped t nobody) before.row ∙ other-is t nobody s (nobody-other s.thread) in
    elim (next-window s t) [
      | inl over ↦
          let more : next ≡ suc now = last ∙ over.more ∙ ap suc (after-windows w r t) in
          record {
            order = order-more now first next before.order more;
            row = one ∙ over.row ∙ after-more w r ∙ ap (λ k. after k r) (one-between now first next before.order more);
          }
      | inr went_on ↦
          let same : next ≡ now = last ∙ went_on.same ∙ after-windows w r t in
          record {
            order = order-same now first next before.order same;
            row = one ∙ went_on.row ∙ ap (λ k. after (k - first) r) (sym same);
          }
    ]

-- from a tick to a later one
pub passed-to : (r : Row) (tick now : ℕ) → tick ≤ now → after (windows_before r now - windows_before r tick) r ≡ passed tick (now - tick) r
passed-to r tick now early =
    let sum : tick + (now - tick) ≡ now = omega (arith, early) in
    let all = passed-after r tick (now - tick) in
    ap (λ k. after (windows_before r k - windows_before r tick) r) (sym sum) ∙ sym all.row
