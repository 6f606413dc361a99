-- All tenths together are the windows.
use Rattle.std.proofs.Common.{ℕ, zero, suc, ◌≡◌, ◌≢◌, ◌+◌, ◌<◌, ◌≤◌, inl, inr, ◌∙◌, refl, sym, ap, arith, Bool, cond, List, [], ◌∷◌, length, map}
use Rattle.std.specs.Prelude.{◌==◌, count_by, sum_by}
use Rattle.std.proofs.lemmas.List.Sums.{sum_by-cons}
use Rattle.std.proofs.lemmas.Bool.{cases_lt, eq-eqb, ne_eqb}
use Rattle.dk_config.specs.Sums.{below, numbers}
use Rattle.dk_trace.specs.declared.Entry.{Entry}
use Rattle.dk_ledger.specs.Heading.{Heading}
use Rattle.dk_window_report.specs.declared.row.Did.{Did}
use Rattle.dk_window_report.specs.Owners.{main_owner, numbers_of}
use Rattle.dk_window_report.specs.Firsts.{budget_at}
use Rattle.show_ledger.specs.Tenths.{is_tenth, lived, tenth, tenths_of}
use Rattle.show_ledger.proofs.Living.{windows-are}

abbrev pub one_if : Bool → ℕ
one_if b = cond b 1 0

-- a number is one of those from low on at most once
abbrev ones : ℕ → List ℕ → ℕ
ones t ks = sum_by (λ k. one_if (t == k)) ks

above : (t low n : ℕ) → t < low → ones t (numbers low n) ≡ 0
above t low zero less = refl
above t low (suc n) less =
    let apart : t ≢ low = λ is. omega (arith, is, less) in
    let other : one_if (t == low) ≡ 0 = ap one_if (ne_eqb t low apart) in
    let rest : ones t (numbers (suc low) n) ≡ 0 = above t (suc low) n (omega (arith, less)) in
    let all = sum_by-cons (λ k. one_if (t == k)) low (numbers (suc low) n) in
    omega (arith, all, other, rest)

once : (t low n : ℕ) → low ≤ t → t < low + n → ones t (numbers low n) ≡ 1
once t low zero from to = absurd (omega (arith, from, to))
once t low (suc n) from to =
    let all = sum_by-cons (λ k. one_if (t == k)) low (numbers (suc low) n) in
    elim (cases_lt low t) [
      | inl later ↦
          let apart : t ≢ low = λ is. omega (arith, is, later) in
          let other : one_if (t == low) ≡ 0 = ap one_if (ne_eqb t low apart) in
          let rest : ones t (numbers (suc low) n) ≡ 1 = once t (suc low) n (omega (arith, later)) (omega (arith, to)) in
          omega (arith, all, other, rest)
      | inr here ↦
          let here_it_is : t ≡ low = omega (arith, from, here) in
          let same : one_if (t == low) ≡ 1 = ap one_if (eq-eqb t low here_it_is) in
          let rest : ones t (numbers (suc low) n) ≡ 0 = above t (suc low) n (omega (arith, from, here)) in
          omega (arith, all, same, rest)
    ]

-- one window more
counts-cons : (b : ℕ) (d : Did) (ds : List Did) (ks : List ℕ)
    → sum_by (λ k. count_by (is_tenth b k) (d ∷ ds)) ks ≡ ones (tenth b d.used) ks + sum_by (λ k. count_by (is_tenth b k) ds) ks
counts-cons b d ds [] = refl
counts-cons b d ds (k ∷ ks) =
    let one = sum_by-cons (λ (x : Did). one_if (is_tenth b k x)) d ds in
    let rest = counts-cons b d ds ks in
    let whole = sum_by-cons (λ j. count_by (is_tenth b j) (d ∷ ds)) k ks in
    let first = sum_by-cons (λ j. one_if (tenth b d.used == j)) k ks in
    let other = sum_by-cons (λ j. count_by (is_tenth b j) ds) k ks in
    omega (arith, one, rest, whole, first, other)

no-counts : (b : ℕ) (ks : List ℕ) → sum_by (λ k. count_by (is_tenth b k) []) ks ≡ 0
no-counts b [] = refl
no-counts b (k ∷ ks) =
    let whole = sum_by-cons (λ j. count_by (is_tenth b j) []) k ks in
    let rest = no-counts b ks in
    omega (arith, whole, rest)

all-counts : (b : ℕ) (ds : List Did) → sum_by (λ k. count_by (is_tenth b k) ds) (below 11) ≡ length ds
all-counts b [] = no-counts b (below 11)
all-counts b (d ∷ ds) =
    let one = once (tenth b d.used) 0 11 (omega arith) (omega arith) in
    let rest = all-counts b ds in
    let more = counts-cons b d ds (below 11) in
    omega (arith, one, rest, more)

mapped : (f : ℕ → ℕ) (ks : List ℕ) → sum_by (λ n. n) (map f ks) ≡ sum_by f ks
mapped f [] = refl
mapped f (k ∷ ks) =
    let left = sum_by-cons (λ n. n) (f k) (map f ks) in
    let right = sum_by-cons f k ks in
    let rest = mapped f ks in
    omega (arith, left, right, rest)

pub tenths-are-all : (h : Heading) (past : List Entry) (p : ℕ) → sum_by (λ n. n) (tenths_of h past p) ≡ (numbers_of past (main_owner h p)).windows
tenths-are-all h past p =
    mapped (λ k. count_by (is_tenth (budget_at h p) k) (lived (main_owner h p) past)) (below 11)
    ∙ all-counts (budget_at h p) (lived (main_owner h p) past) ∙ sym (windows-are (main_owner h p) past)
