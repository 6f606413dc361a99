use Rattle.std.proofs.Common.{[], length, ap, arith, sym}
use Rattle.std.specs.Option.{option_map_or}
use Rattle.std.proofs.lemmas.Option.{slice_get_past}
use Rattle.dk_ledger.specs.Heading.{Heading}
use Rattle.dk_vcd.proofs.holders.name_of.Goals as goal

pub returns-else-process-len-clause-name : goal.returns-else-process-len-clause-name
returns-else-process-len-clause-name c =
    let same = ap (λ (h : Heading). length h.processes) c.header.view_is in
    sym (ap (λ o. option_map_or (λ line. line.name) o []) (slice_get_past c.args.header.now.processes c.args.process (omega (arith, same))))
