use Rattle.dk_inspect.proofs.Names.{ap, is_printable_as}
use Rattle.dk_inspect.proofs.printing.header_is_printable.Goals as goal

pub returns : goal.returns
returns c =
    let h = c.args.header.now in
    let whole = ap (λ lines. record { levels = h.levels; processes = lines }) c.requires.processes in
    is_printable_as h c.args.kernel.now.config h.levels whole c.dispatcher-tables.ensures.ruled.limits c.requires.levels
