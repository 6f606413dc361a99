-- A search that keeps one state, and replaces it at ever longer distances, finds what repeats.
use Rattle.dk_cycle.proofs.Names.{ℕ, ◌≡◌, ◌+◌, ◌-◌, ◌*◌, ◌<◌, ◌≤◌, inl, inr, sym, subst, arith, cases_eq, cases_lt, Seeks}

module _ (Begins : ℕ → Type 0) (Again : ℕ → ℕ → Type 0) (later : (s k : ℕ) → Again s k → 0 < k) (starts : (s k : ℕ) → Again s k → Begins s)
    (lasts : (s k : ℕ) → Again s k → Begins k) (both : (m n : ℕ) → Begins m → Begins n → Begins (m + n))
    (goes : (s k n : ℕ) → Again s k → Begins (s + n) → Again (s + n) k) where
  goes-to : (s k q : ℕ) → Again s k → s ≤ q → Begins q → Again q k
  goes-to s k q again low begins =
      let there : s + (q - s) ≡ q = omega (arith, low) in
      subst (λ n. Again n k) there (goes s k (q - s) again (subst Begins (sym there) begins))

  -- it stands again nowhere that was to be found before tick n
  pub never : (n q s k : ℕ) → Seeks Begins Again n q → Begins q → Again s k → 2 * s + k < n → 3 * k < n → ⊥
  never n q s k is begins again start long =
      elim (cases_lt q (2 * s)) [
        | inl less ↦
            let twice : s + s + k ≡ 2 * s + k = omega arith in
            let there : Begins (2 * s + k) = subst Begins twice (both (s + s) k (both s s (starts s k again) (starts s k again)) (lasts s k again)) in
            let young = is.young (2 * s + k) there (omega (arith, less)) start in
            is.since k (goes-to s k q again (omega (arith, young, less)) begins) (omega (arith, less, start))
        | inr low ↦
            elim (cases_lt q (2 * k)) [
              | inl less ↦
                  is.since k (goes-to s k q again (omega (arith, low)) begins) (omega (arith, less, long))
              | inr low' ↦ is.early s k again (omega (arith, low)) (omega (arith, low'))
            ]
      ]

  -- before the first look there is nothing, and after it what was at tick 0
  pub begun : Seeks Begins Again 1 0
  begun = record {
    before = omega arith;
    young = λ t begins some less. absurd (omega (arith, some, less));
    since = λ k again less. let some = later 0 k again in absurd (omega (arith, some, less));
    early = λ s k again low low'. let some = later s k again in absurd (omega (arith, some, low'));
  }

  not-since : (n q k : ℕ) → Seeks Begins Again n q → (Again q (n - q) → ⊥) → Again q k → q + k ≤ n → ⊥
  not-since n q k is now again low =
      elim (cases_eq n (q + k)) [
        | inl same ↦
            let long : k ≡ n - q = omega (arith, same) in
            now (subst (Again q) long again)
        | inr other ↦ is.since k again (omega (arith, low, other))
      ]

  -- one that is still young stays
  pub stays : (n q : ℕ) → Seeks Begins Again n q → n < 2 * q → (Again q (n - q) → ⊥) → Seeks Begins Again (n + 1) q
  stays n q is less now = record {
    before = let before = is.before in omega (arith, before);
    young = λ t begins some low.
        elim (cases_eq n t) [
          | inl same ↦ omega (arith, same, less)
          | inr other ↦ is.young t begins some (omega (arith, low, other))
        ];
    since = λ k again low. not-since n q k is now again (omega (arith, low));
    early = is.early;
  }

  -- where it doesn't stand again as at the tick that was kept, in half of what the run is long, the present one is kept
  pub renewed : (n q : ℕ) → Seeks Begins Again n q → Begins q → ((k : ℕ) → Again q k → 2 * k ≤ n → ⊥) → Seeks Begins Again (n + 1) n
  renewed n q is begins none = record {
    before = omega arith;
    young = λ t at some less. absurd (omega (arith, some, less));
    since = λ k again less. let some = later n k again in absurd (omega (arith, some, less));
    early = λ s k again low low'.
        elim (cases_lt (2 * q) n) [
          | inl less ↦
              elim (cases_lt 0 q) [
                | inl some ↦
                    let twice : q + q ≡ 2 * q = omega arith in
                    let young = is.young (2 * q) (subst Begins twice (both q q begins begins)) (omega (arith, some)) less in
                    absurd (omega (arith, young))
                | inr none' ↦
                    let some = later s k again in
                    let young = is.young k (lasts s k again) (omega (arith, some, none')) (omega (arith, some, low')) in
                    absurd (omega (arith, young, none'))
              ]
          | inr high ↦ none k (goes-to s k q again (omega (arith, low, high)) begins) low'
        ];
  }

  -- where it is old
  pub renewed-old : (n q : ℕ) → Seeks Begins Again n q → Begins q → 2 * q ≤ n → (Again q (n - q) → ⊥) → Seeks Begins Again (n + 1) n
  renewed-old n q is begins old now = renewed n q is begins (λ k again low. not-since n q k is now again (omega (arith, old, low)))

  -- ticks at which no windows begin
  pub waited : (m n q : ℕ) → Seeks Begins Again m q → m ≤ n → ((t : ℕ) → Begins t → m ≤ t → t < n → ⊥) → Seeks Begins Again n q
  waited m n q is more none = record {
    before = let before = is.before in omega (arith, before, more);
    young = λ t begins some less.
        elim (cases_lt t m) [
          | inl low ↦ is.young t begins some low
          | inr high ↦ absurd (none t begins high less)
        ];
    since = λ k again less.
        elim (cases_lt (q + k) m) [
          | inl low ↦ is.since k again low
          | inr high ↦ none (q + k) (both q k (starts q k again) (lasts q k again)) high less
        ];
    early = is.early;
  }
