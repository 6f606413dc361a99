-- The totals stand for these entries more.
use Rattle.dk_command.proofs.Names.{◌≡◌, ◌<◌, ◌∙◌, ap, arith, length, refl, reverse, subst, sym, length-reverse, IfSome, kernel_level, thread_of, Numbers, StandsFor}
use Rattle.dk_command.proofs.RunEntries.{gone_on_reversed}
use Rattle.dk_command.proofs.recording.RunTotalsRecorder.take.Goals as goal

pub returns-clause-taken : goal.returns-clause-taken
returns-clause-taken c = λ size past has.
    let (other, before, stands, few, known) = c.requires.begun in
    let totals = c.args.self.now.totals in
    let long : length (reverse past) ≡ length (reverse before) =
    sym (ap (λ (n : Numbers). n.entries) has.stands) ∙ ap (λ (n : Numbers). n.entries) stands.stands in
    record {
      ok = refl;
      levels = c.add_stretch.ensures.levels ∙ has.levels;
      processes = c.add_stretch.ensures.processes ∙ has.processes;
      stands = subst (λ es. StandsFor c.add_stretch.new.self es) (sym (gone_on_reversed c.args.count c.args.last past))
          (c.add_stretch.ensures.after (reverse past) has.stands (omega (arith, few, long, length-reverse before)));
    }

pub add_stretch-requires-clause-level : goal.add_stretch-requires-clause-level
add_stretch-requires-clause-level c =
    let (size, past, has, few, known) = c.requires.begun in
    subst (λ n. IfSome (kernel_level c.args.last.label) (λ j. j < n)) (sym has.levels) known.level

pub add_stretch-requires-clause-process : goal.add_stretch-requires-clause-process
add_stretch-requires-clause-process c =
    let (size, past, has, few, known) = c.requires.begun in
    subst (λ n. IfSome (thread_of c.args.last.label) (λ x. x.process < n)) (sym has.processes) known.process
