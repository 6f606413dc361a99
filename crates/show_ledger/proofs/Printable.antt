-- A header that can be read can be written.
use Rattle.std.proofs.Common.{ℕ, ◌≡◌, ◌∙◌, List, [], ◌∷◌, length, refl, ap}
use Rattle.std.specs.Prelude.{true, ◌&&◌}
use Rattle.std.specs.List.{AllByRecursion, list_all}
use Rattle.dk_config.specs.Rules.{is_name}
use Rattle.dk_ledger.specs.declared.header.ProcessLine.{ProcessLine}
use Rattle.dk_ledger.specs.Heading.{Heading, IsPrintable}
use Rattle.dk_ledger.specs.Readable.{IsProcessLine, IsReadableHeading}

names_are : (levels : ℕ) (ps : List ProcessLine) → AllByRecursion (IsProcessLine levels) ps → list_all (λ (p : ProcessLine). is_name p.name) ps ≡ true
names_are levels [] all = refl
names_are levels (p ∷ ps) all = ap (λ b. b && list_all (λ (p : ProcessLine). is_name p.name) ps) all.0.name ∙ names_are levels ps all.1

pub readable_printable : (h : Heading) → IsReadableHeading h → IsPrintable h
readable_printable h is = record {
  levels = is.few_levels;
  processes = is.few_processes;
  names = names_are (length h.levels) h.processes is.processes;
}
