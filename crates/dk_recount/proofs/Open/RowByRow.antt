-- The rows one by one: what is left to do of them.
use Rattle.dk_recount.proofs.Names.{◌≡◌, ◌<◌, ◌+◌, ◌-◌, Bool, cond, ℕ, List, [], ◌∷◌, ◌++◌, refl, arith, sum_by-cons, Clock, ThreadRow, Table, Book, Wish, Roster, AreKnown, CanAllSit, given, given_one, given_steps, quieted, quieted_one, rows_from, rows_in, share_in, shares_in, nat_tests}

pub rows-next : (table : Table) (p n : ℕ) → p < n → rows_from table p (n - p) ≡ rows_in table p ++ rows_from table (p + 1) (n - (p + 1))
rows-next table p n less = grind (arith, nat_tests)

module _ (b : Book) (w : Clock) where
  pub given-append : (xs ys : List ThreadRow) (r : Roster) → given b w (xs ++ ys) r ≡ given b w ys (given b w xs r)
  given-append [] ys r = refl
  given-append (x ∷ xs) ys r = given-append xs ys (given_one b w x r)

  pub quieted-append : (xs ys : List ThreadRow) (wishes : List (List Wish)) → quieted w (xs ++ ys) wishes ≡ quieted w ys (quieted w xs wishes)
  quieted-append [] ys wishes = refl
  quieted-append (x ∷ xs) ys wishes = quieted-append xs ys (quieted_one w x wishes)

  pub steps-append : (xs ys : List ThreadRow) (wishes : List (List Wish))
      → given_steps b w (xs ++ ys) wishes ≡ given_steps b w xs wishes + given_steps b w ys (quieted w xs wishes)
  steps-append [] ys wishes = omega arith
  steps-append (x ∷ xs) ys wishes = let rest = steps-append xs ys (quieted_one w x wishes) in omega (arith, rest)

  pub known-split : (xs ys : List ThreadRow) → AreKnown b w (xs ++ ys) → AreKnown b w xs × AreKnown b w ys
  known-split [] ys known = (tt, known)
  known-split (x ∷ xs) ys known = let r = known-split xs ys known.1 in ((known.0, r.0), r.1)

  pub sit-split : (xs ys : List ThreadRow) (r : Roster) → CanAllSit b w (xs ++ ys) r → CanAllSit b w xs r × CanAllSit b w ys (given b w xs r)
  sit-split [] ys r can = (tt, can)
  sit-split (x ∷ xs) ys r can = let s = sit-split xs ys (given_one b w x r) can.1 in ((can.0, s.0), s.1)

  pub shares-append : (test : ℕ → Bool) (xs ys : List ThreadRow) → shares_in b w test (xs ++ ys) ≡ shares_in b w test xs + shares_in b w test ys
  shares-append test [] ys = omega arith
  shares-append test (x ∷ xs) ys =
      let f : ThreadRow → ℕ = λ row. cond (test row.level) (share_in b w row) 0 in
      let rest = shares-append test xs ys in
      let one = sum_by-cons f x (xs ++ ys) in
      let two = sum_by-cons f x xs in
      omega (arith, rest, one, two)
