use Rattle.dk_mutex.proofs.Names.{◌∙◌, Bool, false, Option, Some, ap, sym, option_map_or, slice_get-get_or, slice_get_past}
use Rattle.dk_mutex.proofs.row.lists_user.Goals as goal

pub returns-in-Some : goal.returns-in-Some
returns-in-Some c =
    sym (ap (λ (o : Option Bool). option_map_or (λ listed. listed) o false)
    (slice_get-get_or c.args.row.now.users c.args.process false c.in-Some.ensures.lookup.3.0 ∙ ap Some (sym (c.in-Some.ensures.lookup.3.1 false))))

pub returns-in-None : goal.returns-in-None
returns-in-None c =
    sym (ap (λ (o : Option Bool). option_map_or (λ listed. listed) o false) (slice_get_past c.args.row.now.users c.args.process c.in-None.ensures.lookup.3))
