-- What may come before a main only rises with the ticks, so a search from below finds the least number that is enough.
use Rattle.std.proofs.Common.{ℕ, zero, suc, ◌≡◌, ◌+◌, ◌-◌, ◌*◌, ◌/◌, ◌<◌, ◌≤◌, inl, inr, Bool, true, false, ◌&&◌, eqb, ltb, List, [], ◌∷◌, length, refl, arith}
use Rattle.std.specs.Prelude.{Option, Some, None, slice_get, min}
use Rattle.std.specs.List.{list_any}
use Rattle.std.specs.Option.{option_map_or}
use Rattle.std.proofs.lemmas.Bool.{cases_Bool, cases_lt, and_parts}
use Rattle.std.proofs.lemmas.Bool.Decides.{nat_tests}
use Rattle.std.proofs.lemmas.Nat.{le-div}
use Rattle.std.proofs.Math.Nat.{div-mul-le_self}
use Rattle.dk_config.specs.Configuration.{Configuration}
use Rattle.dk_config.specs.Checked.{IsChecked}
use Rattle.dk_config.specs.declared.rows.ProcessRow.{ProcessRow}
use Rattle.dk_config.specs.Windows.{period, release, main_level, max_level, slots, budget}
use Rattle.dk_config.specs.Ahead.{windows_begun, stands_after, slowest_before, may_come_before, budgets_begun, process_ahead, ahead, slowest_up_to, level_ahead, NoFasterSlack, IsEnough, IsEnoughForAll}
use Rattle.dk_config.proofs.Sums.{sum_from-le}

pub div-rises : (a b P : ℕ) → 0 < P → a ≤ b → a / P ≤ b / P
div-rises a b P positive le =
    let part = div-mul-le_self a P in
    le-div (a / P) b P positive (omega (arith, part, le))

pub begun-rises : (c : Configuration) (i f g : ℕ) → 0 < period c i → f ≤ g → windows_begun c i f ≤ windows_begun c i g
begun-rises c i f g positive le = div-rises (f + (period c i - 1)) (g + (period c i - 1)) (period c i) positive (omega arith)

pub times-rises : (k a b : ℕ) → a ≤ b → k * a ≤ k * b
times-rises k a b le = grind (arith, le)

-- a level that may come before is there
pub before-known : (c : Configuration) (p q b : ℕ) → IsChecked c → p < length c.processes → q < length c.processes → may_come_before c p q ≡ Some b → b < length c.levels
before-known c p q b checked here there is =
    let top = checked.reaches q there in
    let low = checked.slowest q there in
    elim (cases_Bool (stands_after c p q)) [
      | inl after ↦ let none : None ≡ Some b = rw after at is in absurd (cc)
      | inr first ↦
          elim (cases_Bool (eqb (slots c q) 0)) [
            | inl alone ↦ let some : Some (main_level c q) ≡ Some b = rw (first, alone) at is in let same : main_level c q ≡ b = cc in omega arith
            | inr more ↦
                let some : Some (min (max_level c q) (slowest_before c p q)) ≡ Some b = rw (first, more) at is in
                let same : min (max_level c q) (slowest_before c p q) ≡ b = cc in
                omega arith
          ]
    ]

process-rises : (c : Configuration) (p q f g : ℕ) → IsChecked c → p < length c.processes → q < length c.processes → f ≤ g
    → process_ahead c p f q ≤ process_ahead c p g q
process-rises c p q f g checked here there le = go (may_come_before c p q) (λ b is. before-known c p q b checked here there is)
  where
    go : (o : Option ℕ) → ((b : ℕ) → o ≡ Some b → b < length c.levels) → option_map_or (budgets_begun c q f) o 0 ≤ option_map_or (budgets_begun c q g) o 0
    go None known = omega arith
    go (Some b) known =
        times-rises (budget c q * (period c b / period c (main_level c q))) (windows_begun c b f) (windows_begun c b g)
        (begun-rises c b f g (checked.positive b (known b refl)) le)

pub ahead-rises : (c : Configuration) (p f g : ℕ) → IsChecked c → p < length c.processes → f ≤ g → ahead c p f ≤ ahead c p g
ahead-rises c p f g checked here le =
    let known = checked.levels p here in
    let kernel = sum_from-le 0 (suc (main_level c p)) (λ i. release c i * windows_begun c i f) (λ i. release c i * windows_begun c i g)
    (λ i a b. times-rises (release c i) (windows_begun c i f) (windows_begun c i g) (begun-rises c i f g (checked.positive i (omega arith)) le)) in
    let all = sum_from-le 0 (length c.processes) (process_ahead c p f) (process_ahead c p g)
    (λ q a b. process-rises c p q f g checked here (omega arith) le) in
    omega (arith, kernel, all)

-- no number of ticks below this one leaves room
pub record Searching (c : Configuration) (p k window least : ℕ) : Type 0 where
  pub within : least ≤ window
  pub short : (f : ℕ) → f < least → f < ahead c p f + k

module _ (c : Configuration) (p k window least : ℕ) where
  pub search-step : IsChecked c → p < length c.processes → Searching c p k window least → (needs next : ℕ) → needs ≡ ahead c p least + k → next ≡ min needs window
      → Searching c p k window next
  search-step checked here before needs next is smaller = record {
    within = omega arith;
    short =
        λ f low. elim (cases_lt f least) [
          | inl old ↦ before.short f old
          | inr new ↦ let rises = ahead-rises c p least f checked here (omega arith) in omega (arith, rises, is, smaller, low)
        ];
  }

  pub found-enough : Searching c p k window least → window ≡ period c (main_level c p) → NoFasterSlack c (main_level c p) → ahead c p least + k ≤ least
      → IsEnough c p k least
  found-enough before is slack room = let within = before.within in record { within = omega arith; room = inr (slack, room) }

-- where somebody faster has slack, only the whole window is enough
pub whole-least : (c : Configuration) (p k f g : ℕ) → f ≡ period c (main_level c p) → (NoFasterSlack c (main_level c p) → ⊥) → IsEnough c p k g → f ≤ g
whole-least c p k f g is some enough = elim enough.room [ inl whole ↦ omega arith | inr room ↦ absurd (some room.0) ]

-- the rows of a faster level that have the right to slack
abbrev pub lends_faster : ℕ → ProcessRow → Bool
lends_faster m row = ltb row.level m && row.slack

none-slack : (m q : ℕ) (rows : List ProcessRow) → list_any (lends_faster m) rows ≡ false → q < length rows
    → option_map_or (λ row. row.level) (slice_get rows q) 0 < m → option_map_or (λ row. row.slack) (slice_get rows q) false ≡ false
none-slack m q [] none inside fast = absurd (omega arith)
none-slack m zero (row ∷ rows) none inside fast =
    let a : ltb row.level m ≡ true = grind (arith, nat_tests) in
    elim (cases_Bool row.slack) [
      | inr not_asks ↦ not_asks
      | inl asks ↦ let wrong : true ≡ false = rw (a, asks) at none in absurd (cc)
    ]
none-slack m (suc q) (row ∷ rows) none inside fast =
    elim (cases_Bool (lends_faster m row)) [
      | inl asks ↦ let wrong : true ≡ false = rw asks at none in absurd (cc)
      | inr not_asks ↦ let rest : list_any (lends_faster m) rows ≡ false = rw not_asks at none in none-slack m q rows rest (omega arith) fast
    ]

some-slack : (m : ℕ) (rows : List ProcessRow) → list_any (lends_faster m) rows ≡ true
    → (q : ℕ) × (q < length rows) × (option_map_or (λ row. row.level) (slice_get rows q) 0 < m) × (option_map_or (λ row. row.slack) (slice_get rows q) false ≡ true)
some-slack m [] some = absurd (cc)
some-slack m (row ∷ rows) some =
    elim (cases_Bool (lends_faster m row)) [
      | inl asks ↦
          let parts = and_parts (ltb row.level m) row.slack asks in
          let fast : ltb row.level m ≡ true = parts.0 in
          (0, omega arith, grind (arith, nat_tests), parts.1)
      | inr not_asks ↦
          let rest : list_any (lends_faster m) rows ≡ true = rw not_asks at some in
          let r = some-slack m rows rest in
          let inside = r.1 in
          (suc r.0, omega arith, r.2, r.3)
    ]

pub no-faster-slack : (c : Configuration) (m : ℕ) → list_any (lends_faster m) c.processes ≡ false → NoFasterSlack c m
no-faster-slack c m none q here fast = none-slack m q c.processes none here fast

pub faster-slack : (c : Configuration) (m : ℕ) → list_any (lends_faster m) c.processes ≡ true → NoFasterSlack c m → ⊥
faster-slack c m some none =
    let r = some-slack m c.processes some in
    let no = none r.0 r.1 r.2 in
    let asks = r.3 in
    absurd (cc)

-- the same for all threads of a level
level-process-rises : (c : Configuration) (m q f g : ℕ) → IsChecked c → m < length c.levels → q < length c.processes → f ≤ g
    → option_map_or (budgets_begun c q f) (slowest_up_to c m q) 0 ≤ option_map_or (budgets_begun c q g) (slowest_up_to c m q) 0
level-process-rises c m q f g checked here there le = go (slowest_up_to c m q) refl
  where
    known : (b : ℕ) → slowest_up_to c m q ≡ Some b → b < length c.levels
    known b is =
        elim (cases_Bool (ltb m (main_level c q))) [
          | inl slow ↦ let none : None ≡ Some b = rw slow at is in absurd (cc)
          | inr reaches ↦
              let own = checked.levels q there in
              elim (cases_Bool (eqb (slots c q) 0)) [
                | inl alone ↦ let some : Some (main_level c q) ≡ Some b = rw (reaches, alone) at is in let same : main_level c q ≡ b = cc in omega arith
                | inr more ↦ let some : Some (min (max_level c q) m) ≡ Some b = rw (reaches, more) at is in let same : min (max_level c q) m ≡ b = cc in omega arith
              ]
        ]

    go : (o : Option ℕ) → slowest_up_to c m q ≡ o → option_map_or (budgets_begun c q f) o 0 ≤ option_map_or (budgets_begun c q g) o 0
    go None is = omega arith
    go (Some b) is =
        times-rises (budget c q * (period c b / period c (main_level c q))) (windows_begun c b f) (windows_begun c b g)
        (begun-rises c b f g (checked.positive b (known b is)) le)

pub level-rises : (c : Configuration) (m f g : ℕ) → IsChecked c → m < length c.levels → f ≤ g → level_ahead c m f ≤ level_ahead c m g
level-rises c m f g checked here le =
    let kernel = sum_from-le 0 (suc m) (λ i. release c i * windows_begun c i f) (λ i. release c i * windows_begun c i g)
    (λ i a b. times-rises (release c i) (windows_begun c i f) (windows_begun c i g) (begun-rises c i f g (checked.positive i (omega arith)) le)) in
    let all = sum_from-le 0 (length c.processes) (λ q. option_map_or (budgets_begun c q f) (slowest_up_to c m q) 0)
    (λ q. option_map_or (budgets_begun c q g) (slowest_up_to c m q) 0)
    (λ q a b. level-process-rises c m q f g checked here (omega arith) le) in
    omega (arith, kernel, all)

-- no number of ticks below this one is enough for the level, and it is no 0
pub record SearchingAll (c : Configuration) (m window least : ℕ) : Type 0 where
  pub some : 0 < least
  pub within : least ≤ window
  pub short : (f : ℕ) → 0 < f → f < least → f < level_ahead c m f

module _ (c : Configuration) (m window least : ℕ) where
  pub search-all-step : IsChecked c → m < length c.levels → SearchingAll c m window least → (needs next : ℕ) → needs ≡ level_ahead c m least → least < needs
      → next ≡ min needs window → SearchingAll c m window next
  search-all-step checked here before needs next is more smaller =
      let some = before.some in
      let within = before.within in
      record {
        some = omega arith;
        within = omega arith;
        short =
            λ f positive low. elim (cases_lt f least) [
              | inl old ↦ before.short f positive old
              | inr new ↦ let rises = level-rises c m least f checked here (omega arith) in omega (arith, rises, is, smaller, low)
            ];
      }

  pub all-found : SearchingAll c m window least → window ≡ period c m → NoFasterSlack c m → level_ahead c m least ≤ least → IsEnoughForAll c m least
  all-found before is slack room = let within = before.within in record { some = before.some; within = omega arith; room = inr (slack, room) }

pub whole-all-least : (c : Configuration) (m f g : ℕ) → f ≡ period c m → (NoFasterSlack c m → ⊥) → IsEnoughForAll c m g → f ≤ g
whole-all-least c m f g is some enough = elim enough.room [ inl whole ↦ omega arith | inr room ↦ absurd (some room.0) ]
