-- At most one holder keeps a level waiting, and no longer than certification allows.
use Rattle.dk_bound.proofs.Names.{ℕ, ◌≡◌, ◌<◌, ◌≤◌, ◌⊎◌, inl, inr, Bool, true, false, ◌&&◌, ◌||◌, leb, ltb, List, [], ◌∷◌, refl, ap, arith, map, filter, list_any, option_map_or, cases_Bool, cases_lt, and_from, nat_tests, Configuration, IsChecked, greatest, main_level, max_level, slots, ceiling, longest_hold, uses, is_user, can_block, level_blocking, use_of, ThreadId, Entry, Thread, threads, Hold, held_by, greatest_left, effective_level, thread_blocking, blocking, is_holder, Has, sum-one, RowFits, ThreadsFit, get-has, list_any-has}
use Rattle.dk_bound.proofs.Holding.{Users, HoldersFit}
use Rattle.dk_bound.proofs.Nesting.{level-most, greatest-level}
use Rattle.dk_bound.proofs.HoldersFit.{row-users, row-under, holds-nothing}

pub greatest-has : {X : Type 0} (f : X → ℕ) (test : X → Bool) (xs : List X) (x : X) → Has xs x → test x ≡ true → f x ≤ greatest (map f (filter test xs))
greatest-has f test [] x h holds = absurd h
greatest-has f test (y ∷ ys) x (inl h) holds = grind (arith, nat_tests)
greatest-has f test (y ∷ ys) x (inr h) holds = grind (arith, nat_tests, greatest-has f test ys x h)

-- a thread slower than level j, of a user of a mutex of a ceiling up to j, was counted by certification
pub hold-certified : (c : Configuration) (j m : ℕ) (x : Thread) → RowFits c x → j < x.level → is_user c m x.id.process ≡ true → ceiling c m ≤ j
    → longest_hold c m ≤ level_blocking c j
hold-certified c j m x fits slow user low =
    let p = x.id.process in
    let u = use_of c m p user in
    let row = u.row in
    let least : ceiling c m ≡ u.mutex.ceiling = ap (λ o. option_map_or (λ r. r.ceiling) o 0) u.mutex_at in
    let hold : longest_hold c m ≡ u.mutex.hold = ap (λ o. option_map_or (λ r. r.hold) o 0) u.mutex_at in
    let own : main_level c p ≡ row.level = ap (λ o. option_map_or (λ r. r.level) o 0) u.row_at in
    let most : max_level c p ≡ row.max_level = ap (λ o. option_map_or (λ r. r.max_level) o 0) u.row_at in
    let some : slots c p ≡ row.threads = ap (λ o. option_map_or (λ r. r.threads) o 0) u.row_at in
    let high = fits.high in
    let allowed : (ltb j row.level || (ltb 0 row.threads && ltb j row.max_level)) ≡ true =
    elim fits.child [
      | inl main ↦ (let a : ltb j row.level ≡ true = grind (arith, nat_tests) in rw a refl)
      | inr child ↦
          let a : ltb 0 row.threads ≡ true = grind (arith, nat_tests) in
          let b : ltb j row.max_level ≡ true = grind (arith, nat_tests) in
          elim (cases_Bool (ltb j row.level)) [ inl t ↦ rw t refl | inr f ↦ rw (f, a, b) refl ]
    ] in
    let here : (uses u.mutex row && (ltb j row.level || (ltb 0 row.threads && ltb j row.max_level))) ≡ true = rw (u.used, allowed) refl in
    let someone : list_any (λ r. uses u.mutex r && (ltb j r.level || (ltb 0 r.threads && ltb j r.max_level))) c.processes ≡ true =
    list_any-has (λ r. uses u.mutex r && (ltb j r.level || (ltb 0 r.threads && ltb j r.max_level))) c.processes row (get-has c.processes p row u.row_at) here in
    let counts : leb u.mutex.ceiling j ≡ true = grind (arith, nat_tests) in
    let can : can_block c j u.mutex ≡ true = and_from (leb u.mutex.ceiling j) _ counts someone in
    let le = greatest-has (λ r. r.hold) (can_block c j) c.mutexes u.mutex (get-has c.mutexes m u.mutex u.mutex_at) can in
    omega arith

pub holds-certified : (c : Configuration) (j : ℕ) (x : Thread) (held : List Hold) → RowFits c x → j < x.level → Users c x.id.process held
    → greatest_left c j held ≤ level_blocking c j
holds-certified c j x [] fits slow users = omega arith
holds-certified c j x (h ∷ held) fits slow users =
    let rest = holds-certified c j x held fits slow users.1 in
    elim (cases_lt j (ceiling c h.mutex)) [
      | inl above ↦ (let a : leb (ceiling c h.mutex) j ≡ false = grind (arith, nat_tests) in rw a (omega arith))
      | inr low ↦
          let a : leb (ceiling c h.mutex) j ≡ true = grind (arith, nat_tests) in
          let most = hold-certified c j h.mutex x fits slow users.0 low in
          rw a (omega arith)
    ]

-- who keeps level j waiting is slower than it, and runs at a level up to it
pub record Blocks (c : Configuration) (past : List Entry) (j : ℕ) (x : Thread) : Type 0 where
  pub slower : j < x.level
  pub runs : effective_level c past x ≤ j
  pub holds : is_holder past x ≡ true
  pub left : 0 < greatest_left c j (held_by x.id past)

pub blocks : (c : Configuration) (past : List Entry) (j : ℕ) (x : Thread) → 0 < thread_blocking c past j x → Blocks c past j x
blocks c past j x some =
    elim (cases_lt j x.level) [
      | inr fast ↦
          let a : ltb j x.level ≡ false = grind (arith, nat_tests) in
          let none : 0 < 0 = rw a at some in
          absurd (omega arith)
      | inl slow ↦
          let a : ltb j x.level ≡ true = grind (arith, nat_tests) in
          let left : 0 < greatest_left c j (held_by x.id past) = rw a at some in
          record {
            slower = slow;
            runs = greatest-level c j x.level (held_by x.id past) left;
            holds =
                elim (cases_Bool (is_holder past x)) [
                  | inl holding ↦ holding
                  | inr free ↦
                      let none : greatest_left c j (held_by x.id past) ≡ 0 = ap (greatest_left c j) (holds-nothing (held_by x.id past) free) in
                      absurd (omega arith)
                ];
            left = left;
          }
    ]

pub same-or : (x y : ThreadId) → (x ≡ y) ⊎ (x ≡ y → ⊥)
same-or x y = grind (arith, nat_tests)

-- At most one thread keeps level j waiting.
pub one-blocks : (c : Configuration) (now : ℕ) (past : List Entry) (j : ℕ) (x y : Thread) → HoldersFit c now past → Has (threads c past) x → Has (threads c past) y
    → 0 < thread_blocking c past j x → 0 < thread_blocking c past j y → x.id ≡ y.id
one-blocks c now past j x y inv here there one two =
    let a = blocks c past j x one in
    let b = blocks c past j y two in
    elim (same-or x.id y.id) [
      | inl same ↦ same
      | inr apart ↦
          let slow = a.slower in
          let slow' = b.slower in
          let low = a.runs in
          let low' = b.runs in
          elim (inv.order x y here there apart a.holds b.holds) [
            | inl less ↦ absurd (omega arith)
            | inr less ↦ absurd (omega arith)
          ]
    ]

-- effective levels of different holders differ
pub levels-differ : (c : Configuration) (now : ℕ) (past : List Entry) (x y : Thread) → IsChecked c → ThreadsFit c past → HoldersFit c now past → Has (threads c past) x → Has (threads c past) y
    → (x.id ≡ y.id → ⊥) → is_holder past x ≡ true → is_holder past y ≡ true → effective_level c past x ≡ effective_level c past y → ⊥
levels-differ c now past x y checked fit inv here there apart holds too same = grind (arith, nat_tests, level-most, row-under)

-- No level waits for longer than certification counted.
pub blocking-certified : (c : Configuration) (now : ℕ) (past : List Entry) (j : ℕ) → ThreadsFit c past → HoldersFit c now past → blocking c past j ≤ level_blocking c j
blocking-certified c now past j fit inv = grind (arith, nat_tests, sum-one, holds-certified, row-users, one-blocks)
