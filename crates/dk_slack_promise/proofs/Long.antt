-- In a window of the slowest level each tick is for work that certification counts, or lent, or idle.
use Rattle.dk_slack_promise.proofs.Names.{ℕ, suc, ◌≡◌, ◌+◌, ◌-◌, ◌%◌, ◌<◌, ◌≤◌, inl, inr, true, cond, List, [], ◌∷◌, length, refl, sym, ap, ◌∙◌, subst, arith, None, count_by, nat_tests, zero-mod, Configuration, IsChecked, IsAccepted, period, window_start, level_demand, Entry, Label, payer, borrower, kernel_level, window, remaining_demand, Audited, Always, steady, steady-fair, ready-of, remaining-begins, remaining-entry, remaining-moves, paid_by_kernel, paid_by_threads, thread-counts, kernel-counts, threads-fit, Kind, paid, lent, kernel, idle, kind, count-charged, mod-next, window-charged, window-goes-on, window_start-within, window_start-le, past_at}
use Rattle.dk_slack_promise.specs.Lent.{is_lent, ticks_lent}
use Rattle.dk_slack_promise.specs.Long.{slowest, is_idle, is_idle_label, is_lent_to, LeavesSpare, IsOpen, LendsSpare}
use Rattle.dk_slack_promise.proofs.Pressed.{lent_one}
use Rattle.dk_slack_promise.proofs.Ended.{ended, counted-ended, past-twice}
use Rattle.dk_slack_promise.proofs.First.{all-mine, none-idle}

pub idle-label : (label : Label) → payer label ≡ None → borrower label ≡ None → kernel_level label ≡ None → is_idle_label label ≡ true
idle-label label pays borrows level = grind (arith, nat_tests)

-- each tick is one for the work of some level, or lent, or idle
goes-somewhere : (c : Configuration) (e : Entry) (past : List Entry) → IsChecked c → Audited c (e ∷ past) → (0 < length c.levels) → Kind c past e.label
    → 1 ≤ paid_by_kernel (slowest c) e + paid_by_threads c (slowest c) e past + lent_one e + cond (is_idle e) 1 0
goes-somewhere c e past checked audited some (paid k x low passed has turn pays borrows level) =
    let row = (threads-fit c past checked audited.0).rows x has in
    let high = row.high in
    let reaches = checked.reaches x.id.process row.known in
    let one = thread-counts c e past (slowest c) x has (omega arith) pays in
    omega (arith, one)
goes-somewhere c e past checked audited some (lent k x low passed has none fitting pays borrows level) =
    let one : is_lent e ≡ true = rw borrows refl in rw one (omega arith)
goes-somewhere c e past checked audited some (kernel k low passed left pays borrows level) =
    let one = kernel-counts (slowest c) k e (omega arith) level in omega (arith, one)
goes-somewhere c e past checked audited some (idle passed pays borrows level) =
    let one : is_idle e ≡ true = idle-label e.label pays borrows level in rw one (omega arith)

abbrev ticks_idle : Configuration → ℕ → List Entry → ℕ → ℕ
ticks_idle c now past j = count_by is_idle (window c now past j)

-- what the levels still need, and how much of the window is over, is at most what certification counts and what was lent or idle
abbrev Counts : Configuration → List Entry → Type 0
Counts c past =
    remaining_demand c (length past) past (slowest c) + (length past - window_start c (slowest c) (length past))
    ≤ level_demand c (slowest c) + ticks_lent c (length past) past (slowest c) + ticks_idle c (length past) past (slowest c)

abbrev Charged : Configuration → Entry → List Entry → Type 0
Charged c e past =
    remaining_demand c (length past) (e ∷ past) (slowest c) + (suc (length past) - window_start c (slowest c) (length past))
    ≤ level_demand c (slowest c) + ticks_lent c (length past) (e ∷ past) (slowest c) + ticks_idle c (length past) (e ∷ past) (slowest c)

counts-begin : (c : Configuration) (past : List Entry) → IsChecked c → IsAccepted c → Audited c past → 0 < length c.levels
    → length past % period c (slowest c) ≡ 0 → Counts c past
counts-begin c past checked accepted audited some begins =
    let all = remaining-begins c (slowest c) past checked (omega arith) (steady-fair c past (steady c past checked accepted audited)) audited begins in
    omega (arith, all, begins)

counts-charge : (c : Configuration) (e : Entry) (past : List Entry) → IsChecked c → IsAccepted c → Audited c (e ∷ past) → 0 < length c.levels → Counts c past → Charged c e past
counts-charge c e past checked accepted audited some before =
    let n = length past in
    let fair = steady-fair c (e ∷ past) (steady c (e ∷ past) checked accepted audited) in
    let step = remaining-entry c (slowest c) e past checked (omega arith) fair audited (ready-of c e past fair audited) in
    let one = goes-somewhere c e past checked audited some (kind c past e audited.1) in
    let more : ticks_lent c n (e ∷ past) (slowest c) ≡ lent_one e + ticks_lent c n past (slowest c) = count-charged is_lent c e past (slowest c) in
    let idles : ticks_idle c n (e ∷ past) (slowest c) ≡ cond (is_idle e) 1 0 + ticks_idle c n past (slowest c) = count-charged is_idle c e past (slowest c) in
    let begun = window_start-le c (slowest c) n in
    omega (arith, step, one, more, idles, begun, before)

counts-move : (c : Configuration) (e : Entry) (past : List Entry) → IsChecked c → Audited c (e ∷ past) → 0 < length c.levels
    → suc (length past) % period c (slowest c) ≡ suc (length past % period c (slowest c)) → Charged c e past → Counts c (e ∷ past)
counts-move c e past checked audited some long charged =
    let n = length past in
    let moves = remaining-moves c (slowest c) e past checked (omega arith) audited long in
    let start = window_start-within c (slowest c) n long in
    let same = window-goes-on c e past (slowest c) long ∙ sym (window-charged c e past (slowest c)) in
    let lents : ticks_lent c (suc n) (e ∷ past) (slowest c) ≡ ticks_lent c n (e ∷ past) (slowest c) = ap (count_by is_lent) same in
    let idles : ticks_idle c (suc n) (e ∷ past) (slowest c) ≡ ticks_idle c n (e ∷ past) (slowest c) = ap (count_by is_idle) same in
    omega (arith, moves, start, lents, idles, charged)

counts : (c : Configuration) (past : List Entry) → IsChecked c → IsAccepted c → Audited c past → 0 < length c.levels → Counts c past
counts c [] checked accepted audited some = counts-begin c [] checked accepted audited some (zero-mod (period c (slowest c)))
counts c (e ∷ past) checked accepted audited some =
    elim (mod-next (length past) (period c (slowest c)) (checked.positive (slowest c) (omega arith))) [
      | inl begins ↦ counts-begin c (e ∷ past) checked accepted audited some begins.0
      | inr long ↦ counts-move c e past checked audited some long (counts-charge c e past checked accepted audited some (counts c past checked accepted audited.0 some))
    ]

pub leaves_spare : Always LeavesSpare
leaves_spare c past checked accepted audited s some begins le =
    let j = slowest c in
    let positive = checked.positive j (omega arith) in
    let w = ended c past j s positive audited begins le in
    let charged = counts-charge c w.last w.before checked accepted w.audited some (counts c w.before checked accepted w.audited.0 some) in
    let lents = counted-ended is_lent c past j s begins w in
    let idles = counted-ended is_idle c past j s begins w in
    let start = w.start in
    let size = w.size in
    omega (arith, charged, lents, idles, start, size)

-- A process that none stands before, and that goes on asking, gets the spare of the slowest level.
pub lends_spare : Always LendsSpare
lends_spare c past checked accepted audited p s here first begins le opens =
    let j = slowest c in
    let some : 0 < length c.levels = (let known = checked.levels p here in omega arith) in
    let positive = checked.positive j (omega arith) in
    let all = leaves_spare c past checked accepted audited s some begins le in
    let w = ended c past j s positive audited begins le in
    let size = w.size in
    let start = w.start in
    let entries = w.last ∷ w.before in
    let k : ℕ = suc (length w.before) - window_start c j (length w.before) in
    let open_at : (u : ℕ) → suc (length w.before) ≤ u + k → u < suc (length w.before) → IsOpen c (past_at entries u) p =
    λ u low high.
    let same : past_at entries u ≡ past_at past u = ap (λ q. past_at q u) (sym w.is) ∙ past-twice past (s + period c j) u (omega (arith, high, size)) in
    subst (λ q. IsOpen c q p) (sym same) (opens u (omega (arith, low, size, start)) (omega (arith, high, size))) in
    let idle_none = none-idle c p k entries checked accepted w.audited open_at in
    let mine = all-mine c p k entries checked w.audited here first open_at in
    let lents = counted-ended is_lent c past j s begins w in
    let idles = counted-ended is_idle c past j s begins w in
    let own = counted-ended (is_lent_to p) c past j s begins w in
    omega (arith, all, idle_none, mine, lents, idles, own)
