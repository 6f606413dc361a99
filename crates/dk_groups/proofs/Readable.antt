-- The groups of a ledger that can be read are lines that can be read, and the whole range has all entries.
use Rattle.std.proofs.Common.{ℕ, ◌≡◌, ◌-◌, ◌≤◌, [], ◌∷◌, List, length, sym, ap, refl, subst, arith}
use Rattle.std.specs.Prelude.{flat_map, Option, Some, None, option_to_list}
use Rattle.std.specs.List.{AllByRecursion}
use Rattle.std.proofs.lemmas.List.{take_all}
use Rattle.dk_trace.specs.declared.Entry.{Entry}
use Rattle.dk_trace.specs.Ranges.{HasEntry}
use Rattle.dk_ledger.specs.declared.line.LedgerLine.{LedgerLine}
use Rattle.dk_ledger.specs.Heading.{Heading}
use Rattle.dk_ledger.specs.Lines.{lines_of}
use Rattle.dk_ledger.specs.Readable.{IsReadable, size_in}
use Rattle.dk_ledger.proofs.EntryLists.{IsReadableLine, all_both, lines_readable}
use Rattle.dk_ledger.proofs.OneCut.{is_cut}
use Rattle.dk_groups.specs.Groups.{groups, part_of_line, slice}
use Rattle.dk_groups.proofs.NextLine.{part_fits}

-- the parts of lines that can be read
parts_readable : (h : Heading) (from to : ℕ) (ls : List LedgerLine) → AllByRecursion (IsReadableLine h) ls
    → AllByRecursion (IsReadableLine h) (flat_map (λ l. option_to_list (part_of_line from to l)) ls)
parts_readable h from to [] all = tt
parts_readable h from to (l ∷ ls) all =
    all_both (IsReadableLine h) (option_to_list (part_of_line from to l)) (flat_map (λ k. option_to_list (part_of_line from to k)) ls)
    (go (part_of_line from to l) refl) (parts_readable h from to ls all.1)
  where
    go : (o : Option LedgerLine) → part_of_line from to l ≡ o → AllByRecursion (IsReadableLine h) (option_to_list o)
    go None is = tt
    go (Some g) is =
        let fits = part_fits h from to l g all.0.short all.0.label all.0.event is in
        (record { label = fits.label; event = fits.event; short = fits.short }, tt)

pub groups_readable : (h : Heading) (from to : ℕ) (es : List Entry) → IsReadable (record { heading = h; entries = es }) → AllByRecursion (IsReadableLine h) (groups from to es)
groups_readable h from to es is =
    let cut = is_cut es in
    parts_readable h from to (lines_of es)
    (lines_readable h 0 (lines_of es) cut.filled cut.in_turn (let short = is.short in let whole = ap length cut.whole in omega (arith, short, whole))
    (subst (AllByRecursion (HasEntry (size_in h))) (sym cut.whole) is.entries))

pub whole_all : (es : List Entry) → slice 0 (length es) es ≡ es
whole_all es = let all : length es ≤ length es - 0 = omega arith in take_all (length es - 0) es all
