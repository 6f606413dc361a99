use Rattle.dk_inputs.proofs.Names.{arith, rules, refl, ◌≡◌, ◌∙◌, ap, length, subst, sym, length-map, Err, IsAccepted, IsChecked, IsWithinLimits, Configuration, process_name, Heading, line_of_row, name_of, Loaded, Finds, heading, programs_at}
use Rattle.dk_inputs.specs.declared.refusal.Refusal.TheVariants as why
use Rattle.dk_inputs.proofs.FollowLemmas.{silently}
use Rattle.dk_inputs.proofs.ProgramReads.{held_programs, name_is, told_long, told_programs}
use Rattle.dk_inputs.proofs.reading.loaded.Goals as goal

pub returns-in-Ok-clause-found : goal.returns-in-Ok-clause-found
returns-in-Ok-clause-found g c = record {
  told = told_programs (g.D.Depot.seen c.args.depot.now).files c.args.config _ _ c.in-Ok.loaded c.in-Ok.ensures.told c.in-Ok.ensures.counted;
  cause = search rules;
  faults_stay = λ other. c.in-Ok.ensures.stays (λ failed. cc);
  held = held_programs (g.D.Depot.seen c.args.depot.now).files c.args.config _ _ c.in-Ok.ensures.stray;
  left = search rules;
}

pub returns-in-Err-Depot-clause-found : goal.returns-in-Err-Depot-clause-found
returns-in-Err-Depot-clause-found g c = record {
  told = silently (λ (x : Loaded) y. y ≡ x.programs) (λ y e. ⊥) _ why.Depot (λ at. programs_at at c.args.config.processes) _ _ refl;
  cause = λ is. (rw c.in-Err-Depot.field-0-is at c.in-Err-Depot.ensures).depot refl;
  faults_stay = λ other. absurd (other refl);
  held = held_programs (g.D.Depot.seen c.args.depot.now).files c.args.config _ _ c.in-Err-Depot.ensures.stray;
  left = search rules;
}

pub returns-in_ok-name-in-Err-TooLong-clause-found : goal.returns-in_ok-name-in-Err-TooLong-clause-found
returns-in_ok-name-in-Err-TooLong-clause-found g c =
    let named : name_of c.args.header.now c.in-Err-TooLong.process ≡ process_name c.args.config c.in-Err-TooLong.process =
    ap (λ h. name_of h c.in-Err-TooLong.process) c.requires.header ∙ name_is c.args.config.processes c.in-Err-TooLong.process in
    let load = rw c.in-Err-TooLong.field-0-is at c.in-Err-TooLong.ensures in
    record {
      told = told_long (g.D.Depot.seen c.args.depot.now).files c.args.config _ _ (λ (x : Loaded) y. y ≡ x.programs) c.in-Err-TooLong.process c.in_ok-name-in-Err-TooLong.name (c.in_ok-name-in-Err-TooLong.ensures ∙ named) load.told load.counted;
      cause = search rules;
      faults_stay = λ other. load.stays (λ failed. cc);
      held = held_programs (g.D.Depot.seen c.args.depot.now).files c.args.config _ _ load.stray;
      left = search rules;
    }

-- Memory ran out for the name.
pub returns-in_err-name-in-Err-TooLong-clause-found : goal.returns-in_err-name-in-Err-TooLong-clause-found
returns-in_err-name-in-Err-TooLong-clause-found g c =
    let is : c.from_residual.result ≡ Err why.NoMemory = search rules in
    let load = rw c.in-Err-TooLong.field-0-is at c.in-Err-TooLong.ensures in
    subst (λ r. Finds (λ (l : Loaded). l.programs) (g.D.Depot.seen c.args.depot.now) (g.D.Depot.seen c.load.new.depot) r (λ at. programs_at at c.args.config.processes)) (sym is) (record {
      told = silently (λ (x : Loaded) y. y ≡ x.programs) (λ y e. ⊥) _ why.NoMemory (λ at. programs_at at c.args.config.processes) _ _ refl;
      cause = λ failed. absurd (cc);
      faults_stay = λ other. load.stays (λ failed. cc);
      held = held_programs (g.D.Depot.seen c.args.depot.now).files c.args.config _ _ load.stray;
      left = search rules;
    })

pub returns-in-Err : goal.returns-in-Err
returns-in-Err g c = record {
  found = record {
    told = silently (λ (x : Loaded) y. y ≡ x.programs) (λ y e. ⊥) _ why.NoMemory (λ at. programs_at at c.args.config.processes) _ _ refl;
    cause = search rules;
    faults_stay = search rules;
    held = held_programs (g.D.Depot.seen c.args.depot.now).files c.args.config _ _ c.in-Err.ensures.stray;
    left = search rules;
  };
  bootable = tt;
  config = tt;
}

pub returns-in-Ok-clause-bootable : goal.returns-in-Ok-clause-bootable
returns-in-Ok-clause-bootable g c =
    let is = c.in-Ok.ensures.config in record {
      heads = c.requires.header ∙ ap heading (sym is);
      printable = c.requires.printable;
      certified = record { checked = subst IsChecked (sym is) c.requires.checked; accepted = subst IsAccepted (sym is) c.requires.accepted };
      limits = subst IsWithinLimits (sym is) c.requires.limits;
      programs = c.in-Ok.ensures.given.0 ∙ ap (λ (k : Configuration). length k.processes) (sym is);
      sizes = c.in-Ok.ensures.given.1.short;
    }

pub name_of-requires : goal.name_of-requires
name_of-requires g c =
    let load = rw c.in-Err-TooLong.field-0-is at c.in-Err-TooLong.ensures in
    let lines : length c.args.header.now.processes ≡ length c.args.config.processes = ap (λ (h : Heading). length h.processes) c.requires.header ∙ length-map c.args.config.processes line_of_row in
    omega (arith, load.given.0, lines)
