-- What entries without an event make of a row, many at once.
use Rattle.std.proofs.Common.{ℕ, zero, suc, ◌≡◌, ◌≢◌, ◌+◌, ◌-◌, ◌*◌, ◌/◌, ◌%◌, ◌<◌, ◌≤◌, ◌∙◌, refl, sym, ap, subst, arith, Bool, true, false, List, ◌++◌, length}
use Rattle.std.specs.Prelude.{◌==◌, ◌||◌, ◌&&◌, not, nat_lt, if◌then◌else◌, min, replicate}
use Rattle.std.proofs.Math.Bool.{and-false}
use Rattle.std.proofs.Math.Nat.{div-add-mod}
use Rattle.std.proofs.lemmas.Nat.{div-mul-add, mod-mul-add}
use Rattle.std.proofs.lemmas.List.{length-append, length-replicate}
use Rattle.std.proofs.lemmas.Bool.{ne_eqb, le-ltb}
use Rattle.dk_trace.specs.declared.ThreadId.{ThreadId}
use Rattle.dk_trace.specs.declared.Label.{Label}
use Rattle.dk_trace.specs.declared.Entry.{Entry}
use Rattle.dk_trace.specs.Entries.{is_of, is_budget_of, does, is_wait, main_of, quiet, stops}
use Rattle.dk_window_report.specs.declared.row.Did.{Did}
use Rattle.dk_window_report.specs.declared.row.Row.{Row}
use Rattle.dk_window_report.specs.Rows.{raised, raised_if, did_with, ended, filled, row_of, stepped}
use Rattle.dk_window_report.specs.Late.{nobody, passed}
use Rattle.dk_window_report.specs.Passing.{gone_by, worked, RowsGoBy}
use Rattle.dk_window_report.proofs.Steps.{did-equal, row-next}
use Rattle.dk_window_report.proofs.Idle.{IsOther, as-nobody}
use Rattle.dk_window_report.proofs.Stepping.{not-stopped, passed-thread}

no-stop : (x : ThreadId) (label : Label) → stops x (quiet label) ≡ false
no-stop x label =
    not-stopped x (quiet label) (and-false (is_of x (quiet label))) (and-false (is_of (main_of x) (quiet label)))
    (ap (λ b. not (x.serial == 0) && b) (and-false (is_of (main_of x) (quiet label))) ∙ and-false (not (x.serial == 0)))

-- ---- the thread doesn't pay for them

-- they are as those of nobody
pub unpaid : (label : Label) (tick n : ℕ) (r : Row) → is_budget_of r.thread (quiet label) ≡ false → gone_by (quiet label) tick n r ≡ passed tick n r
unpaid label tick zero r paid = refl
unpaid label tick (suc n) r paid =
    let other : IsOther r.thread (quiet label) = record { paid = paid; wait = and-false (is_of r.thread (quiet label)); stop = no-stop r.thread label } in
    ap (stepped (tick + n) (quiet label)) (unpaid label tick n r paid)
    ∙ sym (as-nobody (tick + n) (quiet label) (passed tick n r) (subst (λ x. IsOther x (quiet label)) (sym (passed-thread tick n r)) other))

-- ---- it pays for them, and they lie in its present window

used-more : (m n : ℕ) → raised (min (m + suc n) 4294967295) ≡ min (m + suc (suc n)) 4294967295
used-more m n = omega arith

worked-more : (gone : Bool) (x : ThreadId) (label : Label) (k n : ℕ) (d : Did) → is_budget_of x (quiet label) ≡ true
    → did_with gone x (quiet label) (k + n) (worked k n d) ≡ worked k (suc n) d
worked-more gone x label k zero d paid =
    did-equal (did_with gone x (quiet label) (k + 0) d) (worked k 1 d)
    (ap (λ b. raised_if b d.used) paid)
    (ap (λ b. if b then raised (k + 0) else d.done) paid ∙ (omega arith))
    (ap (λ b. b || d.waited) (and-false (is_of x (quiet label))))
    (ap (λ b. (not gone && b) || d.stopped) (no-stop x label) ∙ ap (λ b. b || d.stopped) (and-false (not gone)))
worked-more gone x label k (suc n) d paid =
    let w = worked k (suc n) d in
    did-equal (did_with gone x (quiet label) (k + suc n) w) (worked k (suc (suc n)) d)
    (ap (λ b. raised_if b w.used) paid ∙ used-more d.used n)
    (ap (λ b. if b then raised (k + suc n) else w.done) paid ∙ (omega arith))
    (ap (λ b. b || d.waited) (and-false (is_of x (quiet label))))
    (ap (λ b. (not gone && b) || d.stopped) (no-stop x label) ∙ ap (λ b. b || d.stopped) (and-false (not gone)))

-- ticks of one window
mod-within : (m n p : ℕ) → m % p + n < p → (m + n) % p ≡ m % p + n
mod-within m n p low =
    let parts = div-add-mod m p in
    let sum : m + n ≡ m / p * p + (m % p + n) = omega (arith, parts) in
    ap (λ k. k % p) sum ∙ mod-mul-add (m / p) p (m % p + n) low

within : (label : Label) (now n : ℕ) (r : Row) → is_budget_of r.thread (quiet label) ≡ true → r.since ≤ now → (now - r.since) % r.period + n < r.period
    → gone_by (quiet label) now n r ≡ record r { did = worked ((now - r.since) % r.period) n r.did }
within label now zero r paid since low = refl
within label now (suc n) r paid since low =
    let k = (now - r.since) % r.period in
    let s : Row = record r { did = worked k n r.did } in
    let d = did_with r.gone r.thread (quiet label) (k + n) s.did in
    let later : now + n - r.since ≡ now - r.since + n = omega (arith, since) in
    let at : (now + n - r.since) % r.period ≡ k + n = ap (λ m. m % r.period) later ∙ mod-within (now - r.since) n r.period (omega (arith, low)) in
    ap (stepped (now + n) (quiet label)) (within label now n r paid since (omega (arith, low)))
    ∙ ap (λ b. if b then s else filled ((now + n - r.since) % r.period) s (did_with r.gone r.thread (quiet label) ((now + n - r.since) % r.period) s.did))
    (le-ltb (now + n) r.since (omega (arith, since)))
    ∙ ap (λ m. filled m s (did_with r.gone r.thread (quiet label) m s.did)) at
    ∙ ap (λ b. if b then ended s d else record s { did = d }) (ne_eqb (k + n + 1) r.period (λ is. omega (arith, is, low)))
    ∙ ap (λ e. record r { did = e }) (worked-more r.gone r.thread label k n r.did paid)

-- so many of them as lie in it, which may be none
pub at-once : (label : Label) (now few : ℕ) (r : Row) → is_budget_of r.thread (quiet label) ≡ true → (0 < few → r.since ≤ now)
    → (0 < few → (now - r.since) % r.period + few < r.period)
    → gone_by (quiet label) now few r ≡ record r { did = worked ((now - r.since) % r.period) few r.did }
at-once label now zero r paid since low = refl
at-once label now (suc n) r paid since low = within label now (suc n) r paid (since (omega arith)) (low (omega arith))

-- ---- behind a past

pub rows-go-by : RowsGoBy
rows-go-by o label zero past few = refl
rows-go-by o label (suc n) past few =
    let more = replicate n (quiet label) ++ past in
    let size : length more ≡ length past + n = length-append (replicate n (quiet label)) past ∙ ap (λ k. k + length past) (length-replicate n (quiet label)) ∙ (omega arith) in
    row-next o (quiet label) more (omega (arith, size, few))
    ∙ ap (λ r. stepped (length more) (quiet label) r) (rows-go-by o label n past (omega (arith, few)))
    ∙ ap (λ k. stepped k (quiet label) (gone_by (quiet label) (length past) n (row_of past o))) size
