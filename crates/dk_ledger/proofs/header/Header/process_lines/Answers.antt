use Rattle.dk_ledger.proofs.Names.{◌≡◌, ◌∙◌, ◌<◌, ◌++◌, ◌∷◌, [], ap, sym, subst, map, take, length, arith, line_of_row}
use Rattle.dk_ledger.proofs.NameLemmas.{take_all, map_row}
use Rattle.dk_ledger.proofs.header.Header.process_lines.Goals as goal

pub loop-row-preserved : goal.loop-row-preserved
loop-row-preserved c =
    c.in_ok-push_line.ensures ∙ ap (λ ls. ls ++ line_of_row c.row-item.result ∷ []) c.loop-row.invariant
    ∙ sym (map_row line_of_row c.args.rows.now c.loop-row.row-index c.row-item.result c.loop-row-test.true c.row-item.is)

pub push_line-requires : goal.push_line-requires
push_line-requires c = subst (λ row. row.level < 256) (sym c.row-item.is) (c.requires c.loop-row.row-index c.row-item.result c.loop-row-test.true)

pub returns : goal.returns
returns c =
    let all : c.loop-row.row-index ≡ length c.args.rows.now = omega arith in
    c.loop-row.invariant ∙ ap (λ n. map line_of_row (take n c.args.rows.now)) all ∙ ap (map line_of_row) (take_all c.args.rows.now)
