use Rattle.dk_inputs.proofs.Names.{◌≡◌, ◌∙◌, ap, rules, heading}
use Rattle.dk_inputs.proofs.commands.generated.Goals as goal

pub returns-clause-tested : goal.returns-clause-tested
returns-clause-tested c =
    let runnable = c.in_ok-loaded.ensures.runnable in
    let is : c.loaded.inside.config ≡ c.in_ok-loaded.loaded.config = search rules in (
      record {
        heads = c.in_ok-header.ensures.header ∙ ap heading is;
        printable = c.in_ok-header.ensures.printable;
        certified = record { checked = runnable.checked; accepted = runnable.accepted };
        limits = runnable.limits;
        programs = runnable.programs;
        sizes = runnable.sizes;
      },
      c.requires,
    )
