use Rattle.dk_dispatch.proofs.Names.{◌≡◌, Some, sym, subst, Tables, child_of, running_child}
use Rattle.dk_dispatch.proofs.tables.AllTables.delete.Goals as goal

pub stop_child-requires : goal.stop_child-requires
stop_child-requires g c =
    c.requires c.in-Some.row
    (subst (λ (t : Tables). running_child t.threads (child_of c.args.id c.args.serial) ≡ Some c.in-Some.row) c.self.view_is (sym c.in-Some.ensures))
