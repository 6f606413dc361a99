use Rattle.dk_inputs.proofs.Names.{ℕ, Global, Vec, ◌≡◌, ◌+◌, ◌∙◌, length, vec_len, arith, refl, rules, sym, ap, false≢true, is_failed_read, file_at}
use Rattle.dk_inputs.specs.declared.refusal.Refusal.TheVariants as why
use Rattle.dk_inputs.proofs.FileReads.{held_file, told_file, told_longer}
use Rattle.dk_inputs.proofs.FollowLemmas.{silently}
use Rattle.dk_inputs.proofs.reading.file_at.Goals as goal

-- The file is too long.
pub returns-then-len-most-clause-found : goal.returns-then-len-most-clause-found
returns-then-len-most-clause-found g c =
    let count : vec_len c.in-Ok.bytes ≡ length c.in-Ok.bytes.items = search rules in
    let rose : (g.D.Depot.seen c.read.new.self).given ≡ (g.D.Depot.seen c.args.depot.now).given + length c.in-Ok.bytes.items = omega (arith, count, c.in-Ok.ensures.given_ok) in record {
      told = told_longer (λ (v : Vec ℕ Global). v.items) (g.D.Depot.seen c.args.depot.now).files c.args.name.now c.args.most c.args.long c.in-Ok.bytes _ _ c.in-Ok.ensures.held rose (omega (arith, count));
      faults_stay = λ other. c.in-Ok.ensures.stays (λ failed. cc);
      cause = λ is. absurd (false≢true (sym c.requires.late ∙ ap is_failed_read (let same : c.args.long ≡ why.Depot = cc in same)));
      held = held_file (g.D.Depot.seen c.args.depot.now).files c.args.name.now c.args.most c.args.long _ _ c.in-Ok.ensures.stray;
      left = record {
        files_stay = c.in-Ok.ensures.same;
        faults_rise = c.in-Ok.ensures.faults;
        given_rises = omega (arith, rose);
        strays_rise = c.in-Ok.ensures.strays;
      };
    }

-- It was read.
pub returns-in-Ok-clause-found : goal.returns-in-Ok-clause-found
returns-in-Ok-clause-found g c =
    let count : vec_len c.in-Ok.bytes ≡ length c.in-Ok.bytes.items = search rules in
    let rose : (g.D.Depot.seen c.read.new.self).given ≡ (g.D.Depot.seen c.args.depot.now).given + length c.in-Ok.bytes.items = omega (arith, count, c.in-Ok.ensures.given_ok) in record {
      told = told_file (λ (v : Vec ℕ Global). v.items) (g.D.Depot.seen c.args.depot.now).files c.args.name.now c.args.most c.args.long c.in-Ok.bytes _ _ c.in-Ok.ensures.held rose (omega (arith, count));
      cause = λ is. (cc);
      faults_stay = λ other. c.in-Ok.ensures.stays (λ failed. cc);
      held = held_file (g.D.Depot.seen c.args.depot.now).files c.args.name.now c.args.most c.args.long _ _ c.in-Ok.ensures.stray;
      left = record {
        files_stay = c.in-Ok.ensures.same;
        faults_rise = c.in-Ok.ensures.faults;
        given_rises = omega (arith, rose);
        strays_rise = c.in-Ok.ensures.strays;
      };
    }

-- The outside failed.
pub returns-in-Err-Failed-clause-found : goal.returns-in-Err-Failed-clause-found
returns-in-Err-Failed-clause-found g c = record {
  told = silently (λ (x : Vec ℕ Global) y. y ≡ x.items) (λ y e. ⊥) _ why.Depot (λ at. file_at at c.args.name.now c.args.most c.args.long) _ _ refl;
  cause = search rules;
  faults_stay = λ other. absurd (other refl);
  held = held_file (g.D.Depot.seen c.args.depot.now).files c.args.name.now c.args.most c.args.long _ _ c.read.ensures.stray;
  left = search rules;
}

-- Memory ran out.
pub returns-clause-found : goal.returns-clause-found
returns-clause-found g c = record {
  told = silently (λ (x : Vec ℕ Global) y. y ≡ x.items) (λ y e. ⊥) _ why.NoMemory (λ at. file_at at c.args.name.now c.args.most c.args.long) _ _ refl;
  cause = λ is. (cc);
  faults_stay = search rules;
  held = held_file (g.D.Depot.seen c.args.depot.now).files c.args.name.now c.args.most c.args.long _ _ c.read.ensures.stray;
  left = search rules;
}
