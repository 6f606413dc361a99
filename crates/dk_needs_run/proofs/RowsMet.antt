-- When the rows of a need of a run are met.
use Rattle.std.proofs.Common.{ℕ, ◌≡◌, ◌≤◌, ◌∙◌, ◌++◌, true, false, Some, None, ap, sym, refl, subst, length, arith}
use Rattle.std.specs.Prelude.{Bool, ◌&&◌, nat_le, Option, if◌then◌else◌}
use Rattle.std.specs.List.{list_all}
use Rattle.std.proofs.lemmas.Bool.{and_from, and_parts}
use Rattle.std.proofs.lemmas.Bool.Decides.{nat_tests}
use Rattle.std.proofs.lemmas.List.Folds.{list_all-append}
use Rattle.dk_config.specs.Configuration.{Configuration}
use Rattle.dk_trace.specs.Audit.{Audited}
use Rattle.dk_ledger.specs.Readable.{Journal}
use Rattle.dk_audit.specs.declared.finding.Finding.TheVariants as finding
use Rattle.dk_audit.specs.Findings.{IsFinding, IsFoundOnce, whole_past}
use Rattle.dk_needs_check.specs.declared.row.Audit.{Audit}
use Rattle.dk_needs_check.specs.declared.row.Measure.{Measure}
use Rattle.dk_needs_check.specs.declared.row.Verdict.{Verdict}
use Rattle.dk_needs_check.specs.Bounds.{audit_verdict, is_met_row, is_upper, is_verdict_met, keeps}
use Rattle.dk_needs_run.specs.declared.found.RunFound.{RunFound}
use Rattle.dk_needs_run.specs.Rows.{IsExact, bound_row, run_rows}
use Rattle.dk_needs_run.specs.Run.{IsRunMet, IsRunOf, IsWithin, finding_of}

le_of : (a b : ℕ) → nat_le a b ≡ true → a ≤ b
le_of a b is = grind (arith, nat_tests)

of_le : (a b : ℕ) → a ≤ b → nat_le a b ≡ true
of_le a b is = grind (arith, nat_tests)

met_if : (b : Bool) → is_verdict_met (if b then Verdict.Met else Verdict.Missed) ≡ b
met_if true = refl
met_if false = refl

-- a bound from above, met where the number is within it
bound_is : (i : ℕ) (m : Measure) (n asked : ℕ) → is_upper m ≡ true → list_all is_met_row (bound_row i m n (Some asked)) ≡ (nat_le n asked && true)
bound_is i m n asked upper =
    ap (λ b. b && true) (met_if (keeps (is_upper m) (Some n) asked) ∙ ap (λ u. keeps u (Some n) asked) upper)

bound_met : (i : ℕ) (m : Measure) (n : ℕ) (o : Option ℕ) → is_upper m ≡ true → list_all is_met_row (bound_row i m n o) ≡ true → IsWithin n o
bound_met i m n None upper met = tt
bound_met i m n (Some asked) upper met = le_of n asked (and_parts (nat_le n asked) true (sym (bound_is i m n asked upper) ∙ met)).0

met_bound : (i : ℕ) (m : Measure) (n : ℕ) (o : Option ℕ) → is_upper m ≡ true → IsWithin n o → list_all is_met_row (bound_row i m n o) ≡ true
met_bound i m n None upper within = refl
met_bound i m n (Some asked) upper within = bound_is i m n asked upper ∙ and_from (nat_le n asked) true (of_le n asked within) refl

-- an audit passed exactly where the entries follow the rules
passed_rules : (c : Configuration) (j : Journal) (a : Audit) → IsFinding c j (finding_of a) → is_verdict_met (audit_verdict a) ≡ true → Audited c (whole_past j.entries)
passed_rules c j (Audit.Passed n) found met = found.1.rules
passed_rules c j (Audit.Label n) found met = absurd (let bad : false ≡ true = met in cc)
passed_rules c j (Audit.Event n) found met = absurd (let bad : false ≡ true = met in cc)

rules_passed : (c : Configuration) (j : Journal) (a : Audit) → IsFoundOnce → IsFinding c j (finding_of a) → Audited c (whole_past j.entries) → is_verdict_met (audit_verdict a) ≡ true
rules_passed c j (Audit.Passed n) one found audited = refl
rules_passed c j (Audit.Label n) one found audited =
    let passed : IsFinding c j (finding.Passed (length j.entries)) = (found.0, record { all = refl; rules = audited }) in
    let bad = one c j (finding.Label n) (finding.Passed (length j.entries)) found passed in cc
rules_passed c j (Audit.Event n) one found audited =
    let passed : IsFinding c j (finding.Passed (length j.entries)) = (found.0, record { all = refl; rules = audited }) in
    let bad = one c j (finding.Event n) (finding.Passed (length j.entries)) found passed in cc

module _ (c : Configuration) (j : Journal) (run : RunFound) (is : IsRunOf c j run) (i : ℕ) (overruns refused faults : Option ℕ) where
  split : list_all is_met_row (run_rows i run overruns refused faults)
      ≡ (is_verdict_met (audit_verdict run.audit)
      && (list_all is_met_row (bound_row i Measure.Overruns run.overruns overruns)
      && (list_all is_met_row (bound_row i Measure.Refused run.refused refused) && list_all is_met_row (bound_row i Measure.Faults run.faults faults))))
  split =
      let o = bound_row i Measure.Overruns run.overruns overruns in
      let r = bound_row i Measure.Refused run.refused refused in
      let f = bound_row i Measure.Faults run.faults faults in
      ap (λ b. is_verdict_met (audit_verdict run.audit) && b)
      (list_all-append is_met_row o (r ++ f) ∙ ap (λ b. list_all is_met_row o && b) (list_all-append is_met_row r f))

  pub rows_tell : list_all is_met_row (run_rows i run overruns refused faults) ≡ true → IsRunMet c j overruns refused faults
  rows_tell met =
      let a = is_verdict_met (audit_verdict run.audit) in
      let o = list_all is_met_row (bound_row i Measure.Overruns run.overruns overruns) in
      let r = list_all is_met_row (bound_row i Measure.Refused run.refused refused) in
      let f = list_all is_met_row (bound_row i Measure.Faults run.faults faults) in
      let one = and_parts a (o && (r && f)) (sym split ∙ met) in
      let two = and_parts o (r && f) one.1 in
      let three = and_parts r f two.1 in
      record {
        audited = passed_rules c j run.audit is.audit one.0;
        overruns = subst (λ n. IsWithin n overruns) is.overruns (bound_met i Measure.Overruns run.overruns overruns refl two.0);
        refused = subst (λ n. IsWithin n refused) is.refused (bound_met i Measure.Refused run.refused refused refl three.0);
        faults = subst (λ n. IsWithin n faults) is.faults (bound_met i Measure.Faults run.faults faults refl three.1);
      }

  pub told_rows : IsFoundOnce → IsRunMet c j overruns refused faults → list_all is_met_row (run_rows i run overruns refused faults) ≡ true
  told_rows one met =
      let a = is_verdict_met (audit_verdict run.audit) in
      let o = list_all is_met_row (bound_row i Measure.Overruns run.overruns overruns) in
      let r = list_all is_met_row (bound_row i Measure.Refused run.refused refused) in
      let f = list_all is_met_row (bound_row i Measure.Faults run.faults faults) in
      split
      ∙ and_from a (o && (r && f)) (rules_passed c j run.audit one is.audit met.audited)
      (and_from o (r && f) (met_bound i Measure.Overruns run.overruns overruns refl (subst (λ n. IsWithin n overruns) (sym is.overruns) met.overruns))
      (and_from r f (met_bound i Measure.Refused run.refused refused refl (subst (λ n. IsWithin n refused) (sym is.refused) met.refused))
      (met_bound i Measure.Faults run.faults faults refl (subst (λ n. IsWithin n faults) (sym is.faults) met.faults))))

-- the rows tell it exactly
pub exact : IsFoundOnce → (c : Configuration) (j : Journal) (run : RunFound) → IsRunOf c j run → IsExact c j run
exact one c j run is = λ i o r f. (rows_tell c j run is i o r f, told_rows c j run is i o r f one)
