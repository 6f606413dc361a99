-- The shares that are added up level by level, and those of all levels up to one.
use Rattle.dk_dispatch.proofs.Names.{◌≡◌, ◌≢◌, ◌<◌, ◌≤◌, ◌+◌, ◌∙◌, Bool, true, false, cond, ℕ, List, [], ◌∷◌, length, get_or, set, refl, ap, sym, arith, inl, inr, nat_lt, length-set, cases_lt, cases_Bool, nat_tests, get_or-set_same, get_or-set_other, sum_by-cons, Clock, ThreadRow, Book, Cells, cells_set, is_between, share_in, shares_in, IsAdded}
use Rattle.std.proofs.Common.{◌==◌}

-- whether the level is a faster one
abbrev pub is_faster : ℕ → ℕ → Bool
is_faster k i = nat_lt i k

one-up : (k i n : ℕ) → cond (is_faster (k + 1) i) n 0 ≡ cond (is_faster k i) n 0 + cond (is_between k k i) n 0
one-up k i n =
    elim (cases_lt i k) [
      | inl less ↦
          let all : is_faster (k + 1) i ≡ true = grind (arith, nat_tests) in
          let one : is_faster k i ≡ true = grind (arith, nat_tests) in
          let out : is_between k k i ≡ false = grind (arith, nat_tests) in
          rw (all, one, out) (omega arith)
      | inr more ↦
          elim (cases_lt k i) [
            | inl past ↦
                let all : is_faster (k + 1) i ≡ false = grind (arith, nat_tests) in
                let one : is_faster k i ≡ false = grind (arith, nat_tests) in
                let out : is_between k k i ≡ false = grind (arith, nat_tests) in
                rw (all, one, out) (omega arith)
            | inr most ↦
                let all : is_faster (k + 1) i ≡ true = grind (arith, nat_tests) in
                let one : is_faster k i ≡ false = grind (arith, nat_tests) in
                let out : is_between k k i ≡ true = grind (arith, nat_tests) in
                rw (all, one, out) (omega arith)
          ]
    ]

up-to : (k i : ℕ) → is_between 0 k i ≡ is_faster (k + 1) i
up-to k i =
    elim (cases_lt k i) [
      | inl past ↦
          let all : is_faster (k + 1) i ≡ false = grind (arith, nat_tests) in
          let out : is_between 0 k i ≡ false = grind (arith, nat_tests) in
          out ∙ sym all
      | inr most ↦
          let all : is_faster (k + 1) i ≡ true = grind (arith, nat_tests) in
          let out : is_between 0 k i ≡ true = grind (arith, nat_tests) in
          out ∙ sym all
    ]

module _ (b : Book) (w : Clock) where
  -- the shares of the levels up to k are those of the faster ones, and its own
  pub shares-up : (k : ℕ) (rows : List ThreadRow) → shares_in b w (is_faster (k + 1)) rows ≡ shares_in b w (is_faster k) rows + shares_in b w (is_between k k) rows
  shares-up k [] = refl
  shares-up k (row ∷ rows) =
      let f : (ℕ → Bool) → ThreadRow → ℕ = λ test x. cond (test x.level) (share_in b w x) 0 in
      let rest = shares-up k rows in
      let here = one-up k row.level (share_in b w row) in
      let all = sum_by-cons (f (is_faster (k + 1))) row rows in
      let one = sum_by-cons (f (is_faster k)) row rows in
      let own = sum_by-cons (f (is_between k k)) row rows in
      omega (arith, rest, here, all, one, own)

  pub shares-to : (k : ℕ) (rows : List ThreadRow) → shares_in b w (is_between 0 k) rows ≡ shares_in b w (is_faster (k + 1)) rows
  shares-to k [] = refl
  shares-to k (row ∷ rows) =
      let f : (ℕ → Bool) → ThreadRow → ℕ = λ test x. cond (test x.level) (share_in b w x) 0 in
      let rest = shares-to k rows in
      let here = ap (λ (t : Bool). cond t (share_in b w row) 0) (up-to k row.level) in
      let all = sum_by-cons (f (is_faster (k + 1))) row rows in
      let one = sum_by-cons (f (is_between 0 k)) row rows in
      omega (arith, rest, here, all, one)

  pub shares-none : (rows : List ThreadRow) → shares_in b w (is_faster 0) rows ≡ 0
  shares-none [] = refl
  shares-none (row ∷ rows) =
      let f : ThreadRow → ℕ = λ x. cond (is_faster 0 x.level) (share_in b w x) 0 in
      let never : is_faster 0 row.level ≡ false = grind (arith, nat_tests) in
      let here : f row ≡ 0 = rw never refl in
      let rest = shares-none rows in
      let all = sum_by-cons f row rows in
      omega (arith, rest, here, all)

  shares-one : (test : ℕ → Bool) (row : ThreadRow) → shares_in b w test (row ∷ []) ≡ cond (test row.level) (share_in b w row) 0
  shares-one test row =
      let f : ThreadRow → ℕ = λ x. cond (test x.level) (share_in b w x) 0 in
      let all = sum_by-cons f row [] in
      omega (arith, all)

  -- a row's share goes to the sum of its level
  pub added-row : (last : ℕ) (row : ThreadRow) (most share : ℕ) (sums : List ℕ) → row.level < length sums → share ≡ share_in b w row → share ≤ most
      → IsAdded b w last (row ∷ []) most sums (set sums row.level (get_or sums row.level 0 + share))
  added-row last row most share sums known is few =
      let level = row.level in
      let more : ℕ = get_or sums level 0 + share in
      let same : get_or (set sums level more) level 0 ≡ more = get_or-set_same sums level more 0 known in
      record {
        size = length-set sums level more;
        sums = λ k within.
            elim (cases_Bool (k == level)) [
              | inl here ↦
                  let e : k ≡ level = grind (arith, nat_tests) in
                  let on : is_between k k level ≡ true = grind (arith, nat_tests) in
                  let one = shares-one (is_between k k) row in
                  let at : get_or (set sums level more) k 0 ≡ more = ap (λ (j : ℕ). get_or (set sums level more) j 0) e ∙ same in
                  let was : get_or sums k 0 ≡ get_or sums level 0 = ap (λ (j : ℕ). get_or sums j 0) e in
                  let counted : cond (is_between k k level) (share_in b w row) 0 ≡ share_in b w row = rw on refl in
                  omega (arith, one, at, was, counted, is)
              | inr apart ↦
                  let e : k ≢ level = grind (arith, nat_tests) in
                  let off : is_between k k level ≡ false = grind (arith, nat_tests) in
                  let one = shares-one (is_between k k) row in
                  let at = get_or-set_other sums level k more 0 e in
                  let counted : cond (is_between k k level) (share_in b w row) 0 ≡ 0 = rw off refl in
                  omega (arith, one, at, counted)
            ];
        few = λ k.
            elim (cases_Bool (k == level)) [
              | inl here ↦
                  let e : k ≡ level = grind (arith, nat_tests) in
                  let at : get_or (set sums level more) k 0 ≡ more = ap (λ (j : ℕ). get_or (set sums level more) j 0) e ∙ same in
                  let was : get_or sums k 0 ≡ get_or sums level 0 = ap (λ (j : ℕ). get_or sums j 0) e in
                  omega (arith, at, was, few)
              | inr apart ↦
                  let e : k ≢ level = grind (arith, nat_tests) in
                  let at = get_or-set_other sums level k more 0 e in
                  omega (arith, at)
            ];
      }

  -- that of a slower level is not counted
  pub slower-row : (last : ℕ) (row : ThreadRow) (most : ℕ) (sums : List ℕ) → last < row.level → IsAdded b w last (row ∷ []) most sums sums
  slower-row last row most sums slower = record {
    size = refl;
    sums = λ k within.
        let off : is_between k k row.level ≡ false = grind (arith, nat_tests) in
        let one = shares-one (is_between k k) row in
        let counted : cond (is_between k k row.level) (share_in b w row) 0 ≡ 0 = rw off refl in
        omega (arith, one, counted);
    few = λ k. omega arith;
  }

-- the cells that are set are the same where the amounts are, which matters where a window begins
pub same-cells : (begins : Bool) (k own own' remaining remaining' : ℕ) (d : Cells) → (begins ≡ true → own ≡ own') → (begins ≡ true → remaining ≡ remaining')
    → cond begins (cells_set k own remaining d) d ≡ cond begins (cells_set k own' remaining' d) d
same-cells true k own own' remaining remaining' d one two =
    ap (λ (n : ℕ). cells_set k n remaining d) (one refl) ∙ ap (λ (n : ℕ). cells_set k own' n d) (two refl)
same-cells false k own own' remaining remaining' d one two = refl
