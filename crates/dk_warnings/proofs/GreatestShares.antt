-- No share of a thread is greater than the greatest of its process.
use Rattle.dk_warnings.proofs.Names.{ℕ, ◌≡◌, ◌+◌, ◌-◌, ◌*◌, ◌/◌, ◌<◌, ◌≤◌, ◌⊎◌, inl, inr, Bool, true, false, cond, eqb, List, [], ◌∷◌, length, arith, ◌&&◌, not, nat_le, nat_tests, mul-le-mul, div-mul-le_self, le_of_dvd, Configuration, IsChecked, period, main_level, max_level, slots, budget, Entry, Has, Thread, family, is_main, is_void, is_stopped_before, share, child_share, least_share, Audited, has-append, has-map, IsNew, new-row, RowFits, greatest_share, greatest_child_share}
use Rattle.std.proofs.lemmas.Nat.{le-div}

-- a main, or a child that its main has lent at most what it need not keep
abbrev pub IsLentRoom : Configuration → Thread → Type 0
IsLentRoom c x = (is_main x ≡ true) ⊎ ((x.quota + least_share c ≤ budget c x.id.process) × (0 < slots c x.id.process))

new-room : (c : Configuration) (p : ℕ) (past : List Entry) (y : Thread) → IsNew c p past y → IsLentRoom c y
new-room c p past y new = grind (arith, nat_tests)

-- so it is with each row of a past
pub lent-room : (c : Configuration) (p : ℕ) (past : List Entry) → Audited c past → (x : Thread) → Has (family c p past) x → IsLentRoom c x
lent-room c p [] audited x (inl same) = grind (arith, nat_tests, has-append, has-map, new-room, new-row)
lent-room c p [] audited x (inr none) = absurd none
lent-room c p (e ∷ past) (older, follows) x h = grind (arith, nat_tests, has-append, has-map, new-room, new-row, lent-room c p past older)

pub div-rises : (a b k : ℕ) → 0 < k → a ≤ b → a / k ≤ b / k
div-rises a b k positive le = let low = div-mul-le_self a k in le-div (a / k) b k positive (omega arith)

at-most : (b : Bool) (n : ℕ) → cond b n 0 ≤ n
at-most b n = grind (arith, nat_tests)

none-or-less : (b : Bool) (n k : ℕ) → k ≤ n → cond b 0 k ≤ n
none-or-less b n k le = grind (arith, nat_tests)

-- a child of so much quota, of a level up to the slowest
child-below : (c : Configuration) (x : Thread) (s : ℕ) → IsChecked c → RowFits c x → x.quota + least_share c ≤ budget c x.id.process → 0 < slots c x.id.process
    → child_share c x s ≤ greatest_child_share c x.id.process
child-below c x s checked fits room some =
    let p = x.id.process in
    let reach = checked.reaches p fits.known in
    let high = fits.high in
    let below : x.level < length c.levels = omega arith in
    let positive = checked.positive (max_level c p) reach in
    let own = checked.positive (main_level c p) (checked.levels p fits.known) in
    let longer : period c x.level ≤ period c (max_level c p) = le_of_dvd positive (checked.divides x.level (max_level c p) high reach) in
    let quota : x.quota ≤ budget c p - least_share c = omega arith in
    let more : x.quota * period c x.level ≤ (budget c p - least_share c) * period c (max_level c p) = mul-le-mul quota longer in
    let whole = (x.quota * period c x.level) / period c (main_level c p) in
    let shares : whole ≤ ((budget c p - least_share c) * period c (max_level c p)) / period c (main_level c p) = grind (arith, nat_tests, div-rises) in
    let any : eqb (slots c p) 0 ≡ false = grind (arith, nat_tests) in
    let first : child_share c x s ≤ whole = at-most (not (is_void x) && nat_le x.start s && not (is_stopped_before s x)) whole in
    rw any (omega arith)

pub main-share : (c : Configuration) (past : List Entry) (x : Thread) (s : ℕ) → is_main x ≡ true → share c past x s ≤ budget c x.id.process
main-share c past x s main = grind (arith, nat_tests, none-or-less)

main-below : (c : Configuration) (past : List Entry) (x : Thread) (s : ℕ) → is_main x ≡ true → share c past x s ≤ greatest_share c x.id.process
main-below c past x s main = grind (arith, nat_tests, main-share)

-- no thread has a greater share of a window than the greatest of its process
pub share-below : (c : Configuration) (past : List Entry) (x : Thread) (s : ℕ) → IsChecked c → RowFits c x → IsLentRoom c x
    → share c past x s ≤ greatest_share c x.id.process
share-below c past x s checked fits is = grind (arith, nat_tests, main-below, child-below)
