use Rattle.std.proofs.Common.{◌≡◌, ◌-◌, ℕ, List, Bool, true}
use Rattle.dk_document_report.specs.Standing.{Decides, IsSearch, IsWithin}
use Rattle.dk_document_report.proofs.places.piece_of.Given as goal

-- by each test that the calls decide, it is reached with one of the expressions that are left
abbrev pub invariant-loop-search : goal.invariant-loop-search
invariant-loop-search g l =
    IsWithin l.ends l.search
    × ((reached : List ℕ → Bool) → Decides (goal.F-post g l.test) reached → reached l.bytes ≡ true → IsSearch l.bytes l.ends reached l.search)

abbrev pub decreases-loop-search : goal.decreases-loop-search
decreases-loop-search g l = l.search.high - l.search.low
