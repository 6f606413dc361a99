use Rattle.dk_loader.proofs.Names.{table_view}
use Rattle.dk_loader.proofs.WrittenLemmas.{members_depth-config_members, reading-printed}
use Rattle.dk_loader.proofs.writing.write_config.Goals as goal

pub printed-requires : goal.printed-requires
printed-requires c = rw c.in_ok-table.ensures.members (members_depth-config_members c.args.config.now)

pub returns : goal.returns
returns c = reading-printed (λ v. v.items) c.printed.result (table_view c.in_ok-table.table) c.args.config.now c.in_ok-table.ensures.members c.in_ok-table.ensures.small c.requires.checked c.requires.version c.printed.ensures
