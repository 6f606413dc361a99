-- Where each window lies at the first tick and at the next one.
use Rattle.std.proofs.Common.{◌≡◌, ◌<◌, ◌≤◌, ◌+◌, ◌%◌, ◌-◌, ◌∙◌, ◌++◌, drop, ℕ, zero, suc, add-zero, Bool, true, false, List, [], ◌∷◌, length, map, get_or, take, arith, refl, sym, subst, ap, inl, inr}
use Rattle.std.specs.Prelude.{All, slice_get, Some, None, Option, option_map, if◌then◌else◌, ◌==◌}
use Rattle.std.specs.Option.{option_map_or}
use Rattle.std.specs.List.{refill}
use Rattle.std.proofs.lemmas.Bool.Decides.{nat_tests}
use Rattle.std.proofs.lemmas.Option.{slice_get-map, slice_get-get_or, slice_get_within}
use Rattle.std.proofs.lemmas.List.{append-nil, length-map, take_all, drop_all}
use Rattle.std.proofs.Math.Nat.{suc-mod, mod-eq_of_lt, mod_self, mod-lt, mod-le}
use Rattle.std.proofs.lemmas.Nat.Gcd.{dvd_trans, dvd_of_mod-eq-zero, mod-eq-zero_of_dvd}
use Rattle.std.proofs.lemmas.Bool.{cases_lt}
use Rattle.std.specs.Int.{◌∣◌}
use Rattle.dk_config.specs.declared.TheConstants.{MAX_SPAN, MAX_TICKS}
use Rattle.dk_config.specs.declared.rows.LevelRow.{LevelRow}
use Rattle.dk_config.specs.Configuration.{Configuration}
use Rattle.dk_config.specs.Checked.{IsChecked, IsWithinLimits}
use Rattle.dk_config.specs.Windows.{period}
use Rattle.dk_config.proofs.FirstOf.{option_map-some}
use Rattle.dk_windows.specs.declared.row.Window.{Window}
use Rattle.dk_windows.specs.Clock.{Clock, period_at, end_at}
use Rattle.dk_windows.specs.Rows.{IsWindowAt, AreNested, AreWindowsAt, first_ends_at, moved, periods_in}

last : (n p start : ℕ) → (start + p == n + 1) ≡ true → start + p ≡ n + 1
last n p start same = grind (arith, nat_tests)

not-last : (n p r start : ℕ) → r < p → r ≤ n → start ≡ n - r → (start + p == n + 1) ≡ false → suc r < p
not-last n p r start low within at other = grind (arith, nat_tests)

-- the start of the window at the next tick, of a period p with r ticks of the window gone
start-next : (n p r start : ℕ) (is_new : Bool) → 0 < p → r ≡ n % p → start ≡ n - r → (start + p == n + 1) ≡ is_new
    → (if is_new then n + 1 else start) ≡ (n + 1) - (n + 1) % p
start-next n p r start true positive is at new =
    let low : r < p = omega arith in
    let within : r ≤ n = omega arith in
    let full : start + p ≡ n + 1 = last n p start new in
    let more : n + 1 ≡ suc n = omega arith in
    let next : (n + 1) % p ≡ suc r % p = rw (is, more) (suc-mod n p) in
    let whole : suc r ≡ p = omega arith in
    let none : suc r % p ≡ 0 = rw whole (mod_self p) in
    omega arith
start-next n p r start false positive is at new =
    let low : r < p = omega arith in
    let within : r ≤ n = omega arith in
    let more : n + 1 ≡ suc n = omega arith in
    let next : (n + 1) % p ≡ suc r % p = rw (is, more) (suc-mod n p) in
    let inside : suc r < p = not-last n p r start low within at new in
    let same : suc r % p ≡ suc r = mod-eq_of_lt inside in
    omega arith

pub IsWindowAt-moved : (n : ℕ) (w : Window) → IsWindowAt n w → IsWindowAt (n + 1) (moved (n + 1) w)
IsWindowAt-moved n w h = record {
  positive = h.positive;
  short = h.short;
  start = start-next n w.period (n % w.period) w.start (w.start + w.period == n + 1) h.positive refl h.start refl;
}

pub AreWindowsAt-moved : (n : ℕ) (ws : List Window) → AreWindowsAt n ws → AreWindowsAt (n + 1) (map (moved (n + 1)) ws)
AreWindowsAt-moved n ws h k w at =
    let (x, is, same) = option_map-some (moved (n + 1)) (slice_get ws k) w (sym (slice_get-map (moved (n + 1)) ws k) ∙ at) in
    subst (IsWindowAt (n + 1)) same (IsWindowAt-moved n x (h k x is))

-- a window that doesn't end at n + 1 stays
kept : (next : ℕ) (w : Window) → (w.start + w.period == next) ≡ false → moved next w ≡ w
kept next w other = ap (λ b. record { period = w.period; start = if b then next else w.start }) other

-- where a window of the period p ends at n + 1, one of each period that divides p does
ends-together : (n first p : ℕ) → 0 < first → 0 < p → first ∣ p → (n - n % p) + p ≡ n + 1 → (n - n % first) + first ≡ n + 1
ends-together n first p some positive divides ends =
    let rest : n % p < p = mod-lt n positive in
    let within : n % p ≤ n = mod-le n p in
    let whole : suc (n % p) ≡ p = omega arith in
    let none : suc n % p ≡ 0 = suc-mod n p ∙ ap (λ k. k % p) whole ∙ mod_self p in
    let all : suc n % first ≡ 0 = mod-eq-zero_of_dvd first (dvd_trans first divides (dvd_of_mod-eq-zero p none)) in
    let low : n % first < first = mod-lt n some in
    let inside : n % first ≤ n = mod-le n first in
    elim (cases_lt (suc (n % first)) first) [
      | inl less ↦
          let same : suc n % first ≡ suc (n % first) = suc-mod n first ∙ mod-eq_of_lt less in
          absurd (omega (arith, same, all))
      | inr full ↦ omega arith
    ]

eqb-false : (a b : ℕ) → (a ≡ b → ⊥) → (a == b) ≡ false
eqb-false a b other = grind (arith, nat_tests, other)

eqb-not : (a b : ℕ) → (a == b) ≡ false → a ≡ b → ⊥
eqb-not a b other same = grind (arith, nat_tests)

ends-not : (n first p : ℕ) (start begun : ℕ) → 0 < first → 0 < p → first ∣ p → start ≡ n - n % p → begun ≡ n - n % first
    → (begun + first == n + 1) ≡ false → (start + p == n + 1) ≡ false
ends-not n first p start begun some positive divides is was other =
    eqb-false (start + p) (n + 1)
    (λ same.
    eqb-not (begun + first) (n + 1) other
    (ap (λ k. k + first) was ∙ ends-together n first p some positive divides (ap (λ k. k + p) (sym is) ∙ same)))

-- where the first window doesn't end at n + 1, none does
none-ends : (n : ℕ) (first : Window) (ws : List Window) (k : ℕ) (w : Window) → AreWindowsAt n (first ∷ ws) → AreNested (first ∷ ws)
    → (first.start + first.period == n + 1) ≡ false → slice_get (first ∷ ws) k ≡ Some w → (w.start + w.period == n + 1) ≡ false
none-ends n first ws k w h nested other at =
    let fast = h 0 first refl in
    let slow = h k w at in
    ends-not n first.period w.period w.start first.start fast.positive slow.positive (nested k first w refl at) slow.start fast.start other

map-kept : (f : Window → Window) (ws : List Window) → ((k : ℕ) (w : Window) → slice_get ws k ≡ Some w → f w ≡ w) → map f ws ≡ ws
map-kept f [] h = refl
map-kept f (w ∷ ws) h = ap (λ x. x ∷ map f ws) (h 0 w refl) ∙ ap (λ xs. w ∷ xs) (map-kept f ws (λ k x at. h (suc k) x at))

pub moved-kept : (n : ℕ) (ws : List Window) → AreWindowsAt n ws → AreNested ws → first_ends_at (n + 1) ws ≡ false → map (moved (n + 1)) ws ≡ ws
moved-kept n [] h nested other = refl
moved-kept n (first ∷ ws) h nested other =
    map-kept (moved (n + 1)) (first ∷ ws) (λ k w at. kept (n + 1) w (none-ends n first ws k w h nested other at))

-- windows that are all moved fill up the rows
pub rows-moved : (next : ℕ) (ws moved_rows : List Window) → moved_rows ≡ map (moved next) ws → refill (length ws) ws moved_rows ≡ map (moved next) ws
rows-moved next ws rows same =
    let long : length rows ≡ length ws = ap length same ∙ length-map ws (moved next) in
    let none : drop (length rows) ws ≡ [] = drop_all (length rows) ws (omega arith) in
    ap (take (length ws)) (ap (λ xs. rows ++ xs) none ∙ append-nil rows) ∙ take_all (length ws) rows (omega arith) ∙ same

-- a moved window has the period that it had
pub AreNested-moved : (next : ℕ) (ws : List Window) → AreNested ws → AreNested (map (moved next) ws)
AreNested-moved next ws nested k first w begin at =
    let (x, is, same) = option_map-some (moved next) (slice_get ws 0) first (sym (slice_get-map (moved next) ws 0) ∙ begin) in
    let (y, has, equal) = option_map-some (moved next) (slice_get ws k) w (sym (slice_get-map (moved next) ws k) ∙ at) in
    subst (λ (p : ℕ). p ∣ w.period) (ap (λ (z : Window). z.period) same)
    (subst (λ (p : ℕ). x.period ∣ p) (ap (λ (z : Window). z.period) equal) (nested k x y is has))

-- the periods stay
pub periods_in-moved : (next : ℕ) (ws : List Window) → periods_in (map (moved next) ws) ≡ periods_in ws
periods_in-moved next [] = refl
periods_in-moved next (w ∷ ws) = ap (λ ps. w.period ∷ ps) (periods_in-moved next ws)

-- no window ends past what 32 bits hold
pub ends_fit : (n : ℕ) (ws : List Window) → n ≤ MAX_TICKS → AreWindowsAt n ws → All (λ w. w.start + w.period < 4294967296) ws
ends_fit n ws few h k d below =
    let w = get_or ws k d in
    let at = h k (get_or ws k d) (slice_get-get_or ws k d below) in
    let short : w.period ≤ MAX_SPAN = at.short in
    let start : w.start ≡ n - n % w.period = at.start in
    omega arith

-- what the clock that contracts see says of a row
abbrev pub clock_of : ℕ → List Window → Clock
clock_of n ws = record { tick = n; periods = periods_in ws }

period-row : (n : ℕ) (ws : List Window) (k : ℕ) (d : Window) → k < length ws → period_at (clock_of n ws) k ≡ (get_or ws k d).period
period-row n ws k d below =
    ap (λ o. option_map_or (λ (p : ℕ). p) o 0)
    (slice_get-map (λ (w : Window). w.period) ws k ∙ ap (option_map (λ (w : Window). w.period)) (slice_get-get_or ws k d below))

-- where the window of a row ends
pub end-row : (n : ℕ) (ws : List Window) (k : ℕ) (d : Window) → AreWindowsAt n ws → k < length ws
    → (get_or ws k d).start + (get_or ws k d).period ≡ end_at (clock_of n ws) k
end-row n ws k d h below =
    let at = h k (get_or ws k d) (slice_get-get_or ws k d below) in
    let start : (get_or ws k d).start ≡ n - n % (get_or ws k d).period = at.start in
    rw (period-row n ws k d below, start) refl

pub few-rows : (ws : List Window) (k : ℕ) → k < length (periods_in ws) → k < length ws
few-rows ws k below = rw length-map at below

abbrev pub first_window : LevelRow → Window
first_window row = record { period = row.period; start = 0 }

pub AreWindowsAt-first : (c : Configuration) → IsChecked c → IsWithinLimits c → AreWindowsAt 0 (map first_window c.levels)
AreWindowsAt-first c checked limits k w at =
    let (row, is, same) = option_map-some first_window (slice_get c.levels k) w (sym (slice_get-map first_window c.levels k) ∙ at) in
    let known : period c k ≡ row.period = ap (λ o. option_map_or (λ (r : LevelRow). r.period) o 0) is in
    let below : k < length c.levels = slice_get_within c.levels k row is in
    let some : 0 < period c k = checked.positive k below in
    let few : period c k ≤ MAX_SPAN = limits.periods k in
    subst (IsWindowAt 0) same (record { positive = omega arith; short = omega arith; start = omega arith })

pub AreNested-first : (c : Configuration) → IsChecked c → AreNested (map first_window c.levels)
AreNested-first c checked k first w begin at =
    let (x, is, same) = option_map-some first_window (slice_get c.levels 0) first (sym (slice_get-map first_window c.levels 0) ∙ begin) in
    let (y, has, equal) = option_map-some first_window (slice_get c.levels k) w (sym (slice_get-map first_window c.levels k) ∙ at) in
    let fast : period c 0 ≡ x.period = ap (λ o. option_map_or (λ (r : LevelRow). r.period) o 0) is in
    let slow : period c k ≡ y.period = ap (λ o. option_map_or (λ (r : LevelRow). r.period) o 0) has in
    let below : k < length c.levels = slice_get_within c.levels k y has in
    let divides : period c 0 ∣ period c k = checked.divides 0 k (omega arith) below in
    subst (λ (p : ℕ). p ∣ w.period) (fast ∙ ap (λ (z : Window). z.period) same)
    (subst (λ (p : ℕ). period c 0 ∣ p) (slow ∙ ap (λ (z : Window). z.period) equal) divides)

pub periods_in-first : (rows : List LevelRow) → periods_in (map first_window rows) ≡ map (λ row. row.period) rows
periods_in-first [] = refl
periods_in-first (row ∷ rows) = ap (λ ps. row.period ∷ ps) (periods_in-first rows)

-- the rows that were made once all levels are passed
pub all-first : (levels : List LevelRow) (rows : List Window) (i : ℕ) → rows ≡ map first_window (take i levels) → length levels ≤ i
    → rows ≡ map first_window levels
all-first levels rows i made past = made ∙ ap (map first_window) (take_all i levels past)

under-or : (o : Option LevelRow)
    → option_map_or (λ (p : ℕ). p) (option_map (λ (row : LevelRow). row.period) o) 0 ≡ option_map_or (λ (row : LevelRow). row.period) o 0
under-or None = refl
under-or (Some row) = refl

-- the period that the clock has of a level is the configuration's
pub period-same : (rows : List LevelRow) (i : ℕ)
    → option_map_or (λ (p : ℕ). p) (slice_get (map (λ row. row.period) rows) i) 0 ≡ option_map_or (λ (row : LevelRow). row.period) (slice_get rows i) 0
period-same rows i = ap (λ o. option_map_or (λ (p : ℕ). p) o 0) (slice_get-map (λ (row : LevelRow). row.period) rows i) ∙ under-or (slice_get rows i)

-- so many ticks later, up to before the end of the first level's window, the rows are those of that tick too
pub rows-stay : (count n : ℕ) (ws : List Window) → AreWindowsAt n ws → AreNested ws → ((w : Window) → slice_get ws 0 ≡ Some w → n + count < w.start + w.period)
    → AreWindowsAt (n + count) ws
rows-stay zero n ws h nested within = subst (λ k. AreWindowsAt k ws) (sym (add-zero n)) h
rows-stay (suc count) n ws h nested within =
    let before : AreWindowsAt (n + count) ws = rows-stay count n ws h nested (λ w at. (let far = within w at in omega (arith, far))) in
    let still : first_ends_at (n + count + 1) ws ≡ false = none-first (n + count) ws (λ w at. (let far = within w at in omega (arith, far))) in
    let moved_rows = AreWindowsAt-moved (n + count) ws before in
    let same : n + count + 1 ≡ n + suc count = omega arith in
    subst (λ k. AreWindowsAt k ws) same (subst (AreWindowsAt (n + count + 1)) (moved-kept (n + count) ws before nested still) moved_rows)
  where
    none-first : (m : ℕ) (rows : List Window) → ((w : Window) → slice_get rows 0 ≡ Some w → m + 1 < w.start + w.period) → first_ends_at (m + 1) rows ≡ false
    none-first m [] far = refl
    none-first m (w ∷ rows) far = eqb-false (w.start + w.period) (m + 1) (λ same. (let later = far w refl in absurd (omega (arith, same, later))))
