use Rattle.std.proofs.Common.{◌≡◌, ◌++◌, drop, map}
use Rattle.dk_html.specs.Tables.{properties_from}
use Rattle.dk_html.proofs.tables.add_properties.Given as goal

-- the properties so far, before those of the fields that are left
abbrev pub invariant-loop-column : goal.invariant-loop-column
invariant-loop-column l =
    l.out.items ++ properties_from l.column (map (λ f. f.now) (drop l.column l.fields)) ≡ l.initial.out.items ++ properties_from 0 (map (λ f. f.now) l.fields)
