use Rattle.dk_picture.proofs.Names.{List, ◌<◌, length, subst, sym, Row}
use Rattle.dk_picture.proofs.Few.{few_rows}
use Rattle.dk_picture.proofs.row_list.rows_of.Goals as goal

pub new-requires : goal.new-requires
new-requires c =
    subst (λ (rs : List Row). length rs < 65536) (sym c.in_ok-row_list.ensures) (few_rows c.args.header.now c.args.groups.now c.requires.levels c.requires.processes)
