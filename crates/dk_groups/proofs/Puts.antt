-- Writes in a row.
use Rattle.std.proofs.Common.{ℕ, ◌≡◌, ◌∙◌, ◌++◌, List, sym, subst, arith}
use Rattle.std.specs.Prelude.{Result, Ok, Err, IsErrAnd, IsErrOf}
use Rattle.dk_outside.specs.Views.{SinkView}
use Rattle.dk_outside.specs.Written.{Appends, AppendsPrefix}
use Rattle.dk_outside.proofs.WrittenLemmas.{Appends-append, AppendsPrefix-append, AppendsPrefix-after}
use Rattle.dk_ledger.proofs.Readings.{passed_on}
use Rattle.dk_groups.specs.declared.write_fault.WriteFault.{WriteFault}
use Rattle.dk_groups.specs.Writing.{Puts}
use Rattle.dk_groups.proofs.Going.{passed_back, rises_later}

-- Two writes in a row, of which each may fail.
module _ (first second whole : List ℕ) (parts : whole ≡ first ++ second) where
  -- the first failed, and its fault is passed on
  pub put_fails : {A B : Type 0} (old new : SinkView) (f : WriteFault) (r : Result B WriteFault) → IsErrAnd r (λ e. e ≡ f)
      → Puts {A = A} old new (Err f) first → Puts old new r whole
  put_fails old new f (Ok x) only p = absurd only
  put_fails {A = A} old new f (Err e) only p = record {
    ok = tt;
    err = subst (AppendsPrefix old.written new.written) (sym parts) (AppendsPrefix-append old.written new.written first second p.err);
    cause = λ is. p.cause (passed_on (Err e) f WriteFault.Sink only is);
    stays = λ never. p.stays (λ is. never (passed_back {T = A} (Err e) f WriteFault.Sink only is));
    faults = p.faults;
    same = p.same;
  }

  -- the first was written, and the result is that of the second
  pub put_ends : {A B : Type 0} (old between new : SinkView) (x : A) (r : Result B WriteFault) → Puts old between (Ok x) first
      → Puts between new r second → Puts old new r whole
  put_ends old between new x (Ok y) v w =
      let a = v.faults in
      let b = w.faults in
      record {
        ok = subst (Appends old.written new.written) (sym parts) (Appends-append old.written between.written new.written first second v.ok w.ok);
        err = tt;
        cause = λ is. absurd (cc);
        stays = λ never. w.stays (λ is. absurd (cc)) ∙ v.stays (λ is. absurd (cc));
        faults = omega (arith, a, b);
        same = w.same ∙ v.same;
      }
  put_ends old between new x (Err e) v w =
      let a = v.faults in
      let b = w.faults in
      record {
        ok = tt;
        err = subst (AppendsPrefix old.written new.written) (sym parts) (AppendsPrefix-after old.written between.written new.written first second v.ok w.err);
        cause = λ is. rises_later old.faults between.faults new.faults v.faults (w.cause is);
        stays = λ never. w.stays never ∙ v.stays (λ is. absurd (cc));
        faults = omega (arith, a, b);
        same = w.same ∙ v.same;
      }
