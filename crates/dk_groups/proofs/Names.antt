-- The lines of the processes in a header that can be read.
use Rattle.std.proofs.Common.{ℕ, zero, suc, ◌≡◌, ◌≤◌, [], ◌∷◌, List, length, refl, arith}
use Rattle.std.specs.Prelude.{true, slice_get}
use Rattle.std.specs.List.{AllByRecursion, list_all}
use Rattle.std.specs.Option.{option_map_or}
use Rattle.dk_config.specs.Rules.{is_word}
use Rattle.dk_ledger.specs.declared.header.ProcessLine.{ProcessLine}
use Rattle.dk_ledger.specs.Heading.{Heading, name_of}
use Rattle.dk_ledger.specs.Readable.{IsReadableHeading, IsProcessLine}
use Rattle.dk_ledger.proofs.NameLemmas.{both_right}

-- the name on a line, or the empty name where there is none, and the line's level
pub line_at : (ps : List ProcessLine) (levels p : ℕ) → AllByRecursion (IsProcessLine levels) ps
    → (list_all is_word (option_map_or (λ line. line.name) (slice_get ps p) []) ≡ true) × (option_map_or (λ line. line.level) (slice_get ps p) 0 ≤ levels)
line_at [] levels p all = (refl, omega arith)
line_at (q ∷ ps) levels zero all = let small = all.0.level in (both_right _ (list_all is_word q.name) all.0.name, omega (arith, small))
line_at (q ∷ ps) levels (suc p) all = line_at ps levels p all.1

pub name_words : (h : Heading) → IsReadableHeading h → (p : ℕ) → list_all is_word (name_of h p) ≡ true
name_words h is p = (line_at h.processes (length h.levels) p is.processes).0
