-- Where the rows of threads are found.
use Rattle.std.proofs.Common.{ℕ, zero, suc, ◌≡◌, ◌+◌, ◌<◌, ◌≤◌, ◌∙◌, refl, sym, ap, arith, List, [], ◌∷◌, ◌++◌, length, set, get_or, Option, Some}
use Rattle.dk_window_report.specs.declared.late.Late.{Late}
use Rattle.dk_window_report.specs.Late.{AreUpTo}
use Rattle.dk_window_report.proofs.Steps.{no_row}
use Rattle.dk_window_report.specs.Touched.{changed, changed_at, IsAdded, AreFound}

-- ---- one row more

pub up-to-more : (now : ℕ) (ls : List Late) (l : Late) → l.tick ≤ now → AreUpTo now ls → AreUpTo now (ls ++ l ∷ [])
up-to-more now [] l h all = (h, tt)
up-to-more now (m ∷ ls) l h all = (all.0, up-to-more now ls l h all.1)

pub found-more : (old new : List (List ℕ)) (k place : ℕ) (ls : List Late) (l : Late) → IsAdded old new l.row.thread place → place ≡ k + length ls
    → AreFound old k ls → AreFound new k (ls ++ l ∷ [])
found-more old new k place [] l added is found = let same : place ≡ k = omega (arith, is) in (added.found ∙ ap Some same, tt)
found-more old new k place (m ∷ ls) l added is found =
    (added.keeps m.row.thread k found.0, found-more old new (suc k) place ls l added (omega (arith, is)) found.1)

-- ---- one row changed

pub changed-is : (f : Late → Late) (ls : List Late) (i : ℕ) (d : Late) → i < length ls → set ls i (f (get_or ls i d)) ≡ changed f i ls
changed-is f [] i d there = absurd (omega (arith, there))
changed-is f (l ∷ ls) zero d there = refl
changed-is f (l ∷ ls) (suc i) d there = ap (λ rest. l ∷ rest) (changed-is f ls i d (omega (arith, there)))

pub changed-past : (f : Late → Late) (ls : List Late) (i : ℕ) → length ls ≤ i → ls ≡ changed f i ls
changed-past f [] i past = refl
changed-past f (l ∷ ls) zero past = absurd (omega (arith, past))
changed-past f (l ∷ ls) (suc i) past = ap (λ rest. l ∷ rest) (changed-past f ls i (omega (arith, past)))

pub changed-here : (f : Late → Late) (ls : List Late) (i : ℕ) (d x y : Late) (place : Option ℕ) → place ≡ Some i → i < length ls → x ≡ get_or ls i d → y ≡ f x
    → set ls i y ≡ changed_at f place ls
changed-here f ls i d x y place is there got new = ap (set ls i) (new ∙ ap f got) ∙ changed-is f ls i d there ∙ ap (λ o. changed_at f o ls) (sym is)

pub changed-nowhere : (f : Late → Late) (ls : List Late) (i : ℕ) (place : Option ℕ) → place ≡ Some i → length ls ≤ i → ls ≡ changed_at f place ls
changed-nowhere f ls i place is past = changed-past f ls i past ∙ ap (λ o. changed_at f o ls) (sym is)

abbrev pub no_late : Late
no_late = record { row = no_row; tick = 0 }
