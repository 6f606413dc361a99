-- Rows that are found need by need.
use Rattle.std.proofs.Common.{ℕ, ◌≡◌, ◌<◌, ◌≤◌, ◌+◌, ◌∙◌, ◌++◌, ◌∷◌, [], List, length, drop, get_or, ap, sym, refl, subst, append_assoc, append-nil}
use Rattle.std.proofs.lemmas.List.{drop_more}
use Rattle.std.proofs.Math.ListN.{drop_of_length-le}
use Rattle.dk_config.specs.Configuration.{Configuration}
use Rattle.dk_needs.specs.declared.needs.Need.{Need}
use Rattle.dk_needs_check.specs.declared.row.Answers.{Answers}
use Rattle.dk_needs_check.specs.declared.row.Row.{Row}
use Rattle.dk_needs_check.specs.Meaning.{AreAnswers}
use Rattle.dk_needs_check.specs.Rows.{AreRowsFrom, rows_of}

-- with the rows of the needs that are left, the rows so far are those of all
abbrev pub AreSoFar : Configuration → List ℕ → List Need → ℕ → List Row → Type 0
AreSoFar c xs needs i rows = (rest : List Row) → AreRowsFrom c xs i (drop i needs) rest → AreRowsFrom c xs 0 needs (rows ++ rest)

pub one_told : (c : Configuration) (xs : List ℕ) (needs : List Need) (i : ℕ) (need : Need) (a : Answers) (old new : List Row) → i < length needs
    → need ≡ get_or needs i need → AreAnswers c xs need.what a → new ≡ old ++ rows_of i a → AreSoFar c xs needs i old → AreSoFar c xs needs (i + 1) new
one_told c xs needs i need a old new inside is are more so_far rest others =
    let left : drop i needs ≡ need ∷ drop (i + 1) needs = drop_more needs i need inside ∙ ap (λ n. n ∷ drop (i + 1) needs) (sym is) in
    let here : AreRowsFrom c xs i (need ∷ drop (i + 1) needs) (rows_of i a ++ rest) = (a, rest, are, others, refl) in
    let whole : AreRowsFrom c xs 0 needs (old ++ (rows_of i a ++ rest)) = so_far (rows_of i a ++ rest) (subst (λ (ns : List Need). AreRowsFrom c xs i ns (rows_of i a ++ rest)) (sym left) here) in
    subst (λ (rs : List Row). AreRowsFrom c xs 0 needs rs) (sym (ap (λ rs. rs ++ rest) more ∙ append_assoc old (rows_of i a) rest)) whole

pub all_told : (c : Configuration) (xs : List ℕ) (needs : List Need) (i : ℕ) (rows : List Row) → length needs ≤ i → AreSoFar c xs needs i rows → AreRowsFrom c xs 0 needs rows
all_told c xs needs i rows past so_far =
    let none : AreRowsFrom c xs i (drop i needs) [] = subst (λ (ns : List Need). AreRowsFrom c xs i ns []) (sym (drop_of_length-le needs past)) refl in
    subst (λ (rs : List Row). AreRowsFrom c xs 0 needs rs) (append-nil rows) (so_far [] none)
