use Rattle.dk_mutex.proofs.Names.{◌∙◌, Bool, true, Option, Some, ap, sym, option_map_or, slice_get-get_or, slice_get_past}
use Rattle.dk_mutex.proofs.marks.may_hold.Goals as goal

pub returns-in-Some : goal.returns-in-Some
returns-in-Some c =
    sym (ap (λ (o : Option Bool). option_map_or (λ marked. marked) o true)
    (slice_get-get_or c.args.marks.now c.args.id.process true c.in-Some.ensures.lookup.3.0 ∙ ap Some (sym (c.in-Some.ensures.lookup.3.1 true))))

pub returns-in-None : goal.returns-in-None
returns-in-None c =
    sym (ap (λ (o : Option Bool). option_map_or (λ marked. marked) o true) (slice_get_past c.args.marks.now c.args.id.process c.in-None.ensures.lookup.3))
