use Rattle.dk_dispatch.proofs.Names.{◌≡◌, ◌∙◌, ℕ, List, [], ◌∷◌, length, map, ap, subst, refl, arith, IfOk, length-map, Configuration, spare, below, length-numbers, TableRow, row_of, at_start, spares_of}
use Rattle.dk_dispatch.proofs.reserving.slack_of.Goals as goal

spare-rows : (c : Configuration) (ns : List ℕ) → map (λ (row : TableRow). row.spare) (map (row_of c) ns) ≡ map (λ j. spare c j) ns
spare-rows c [] = refl
spare-rows c (n ∷ ns) = ap (λ rest. spare c n ∷ rest) (spare-rows c ns)

-- there is a row for each level
rows-known : (c : Configuration) (rows : List TableRow) → rows ≡ map (row_of c) (below (length c.levels)) → length rows ≡ length c.levels
rows-known c rows is = ap length is ∙ length-map (below (length c.levels)) (row_of c) ∙ length-numbers 0 (length c.levels)

pub spares_of-spares-requires-clause-known : goal.spares_of-spares-requires-clause-known
spares_of-spares-requires-clause-known c =
    omega (
      arith,
      rows-known c.args.config.now c.args.table.now c.requires.rows,
      c.len.ensures,
      ap (λ (k : Configuration). length k.levels) c.config.view_is,
    )

pub reserve-requires-clause-spares : goal.reserve-requires-clause-spares
reserve-requires-clause-spares c =
    ap length (c.as_slice.ensures.value ∙ c.spares_of-spares.ensures)
    ∙ length-map c.args.table.now (λ (row : TableRow). row.spare)
    ∙ rows-known c.args.config.now c.args.table.now c.requires.rows

pub returns : goal.returns
returns c =
    let C = c.args.config.now in
    let spares : c.as_slice.result.now ≡ spares_of C =
    c.as_slice.ensures.value ∙ c.spares_of-spares.ensures ∙ ap (map (λ (row : TableRow). row.spare)) c.requires.rows ∙ spare-rows C (below _) in
    subst (λ (ticks : List ℕ). IfOk c.reserve.result (λ slack. slack ≡ at_start C ticks)) spares c.reserve.ensures
