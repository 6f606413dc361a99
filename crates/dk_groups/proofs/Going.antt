-- Groups that are gone through, and texts that are written of them.
use Rattle.std.proofs.Common.{ℕ, ◌≡◌, ◌∙◌, ◌≤◌, ◌++◌, [], ◌∷◌, List, length, take, sym, ap, refl, subst, arith, append_assoc, length-append}
use Rattle.std.specs.Prelude.{Option, Some, None, Result, Ok, Err, OnOk, IsErr, IsErrAnd, IsErrOf, true, false}
use Rattle.std.proofs.Math.Seq.{take-append_seam}
use Rattle.dk_outside.specs.Counts.{Rises}
use Rattle.dk_outside.specs.Views.{SinkView}
use Rattle.dk_outside.specs.Written.{Appends, AppendsPrefix, Writes}
use Rattle.dk_outside.proofs.WrittenLemmas.{Appends-append, AppendsPrefix-append, AppendsPrefix-after}
use Rattle.dk_ledger.specs.declared.line.LedgerLine.{LedgerLine}
use Rattle.dk_ledger.specs.Heading.{IsPrintable}
use Rattle.dk_ledger.specs.Readable.{Journal, text_of}
use Rattle.dk_ledger.proofs.Readings.{header_printable, passed_on}
use Rattle.dk_groups.specs.declared.write_fault.WriteFault.{WriteFault}
use Rattle.dk_groups.specs.Cutting.{Cutting, ComesNext, IsCutting, IsGoingOn}
use Rattle.dk_groups.specs.Writing.{Puts}

pub comes_some : (j : Journal) (gs : List LedgerLine) (next : Option LedgerLine) (g : LedgerLine) (c : Cutting) → next ≡ Some g → ComesNext j gs next c → ComesNext j gs (Some g) c
comes_some j gs next g c is comes = subst (λ o. ComesNext j gs o c) is comes

pub comes_none : (j : Journal) (gs : List LedgerLine) (next : Option LedgerLine) (c : Cutting) → next ≡ None → ComesNext j gs next c → ComesNext j gs None c
comes_none j gs next c is comes = subst (λ o. ComesNext j gs o c) is comes

pub cutting_on : (next : Option LedgerLine) (g : LedgerLine) (c : Cutting) → next ≡ Some g → IsGoingOn next c → IsCutting c
cutting_on next g c is on = (on.0, on.1, on.2 ++ g ∷ [], (comes_some on.0 on.2 next g c is on.3).0)

pub printable_on : (next : Option LedgerLine) (g : LedgerLine) (c : Cutting) → next ≡ Some g → IsGoingOn next c → IsPrintable c.reading.kept.heading
printable_on next g c is on =
    let given = (comes_some on.0 on.2 next g c is on.3).0 in
    header_printable (text_of on.0) given.entries c.reading given.read

pub on_ok : {A E : Type 0} (r : Result A E) (x : A) (P : Type 0) → r ≡ Ok x → OnOk r P → P
on_ok (Ok y) x P is h = h
on_ok (Err e) x P is h = absurd (cc)

pub rises_later : (a b c : ℕ) → a ≤ b → Rises b c → Rises a c
rises_later a b c before rises = λ short. (let later = rises short in omega (arith, before, later))

-- a fault that was passed on
pub passed_back : {T U E : Type 0} (r : Result U E) (x y : E) → IsErrAnd r (λ z. z ≡ x) → IsErrOf {T = T} {E = E} (Err x) y → IsErrOf r y
passed_back r x y at e = grind arith

-- Texts of which the first were written.
module _ (whole before : List ℕ) where
  -- the next write failed
  pub cut_short : {A B F : Type 0} (old mid new : SinkView) (f : F) (r : Result B WriteFault) (piece more : List ℕ) → IsErrAnd r (λ e. e ≡ WriteFault.Sink)
      → whole ≡ before ++ (piece ++ more) → Appends old.written mid.written before → mid.faults ≡ old.faults → mid.capacity ≡ old.capacity
      → Writes {A = A} mid new (Err f) piece → Puts old new r whole
  cut_short old mid new f (Ok x) piece more sink parts first faults room w = absurd sink
  cut_short old mid new f (Err e) piece more sink parts first faults room w =
      let later = w.faults in
      record {
        ok = tt;
        err = subst (AppendsPrefix old.written new.written) (sym parts)
            (AppendsPrefix-after old.written mid.written new.written before (piece ++ more) first (AppendsPrefix-append mid.written new.written piece more w.err));
        cause = λ is. rises_later old.faults mid.faults new.faults (omega (arith, faults)) (w.cause refl);
        stays = λ never. (let is : e ≡ WriteFault.Sink = sink in absurd (never (cc)));
        faults = omega (arith, faults, later);
        same = w.same ∙ room;
      }

  -- memory ran out
  pub stopped : {B : Type 0} (old mid : SinkView) (r : Result B WriteFault) (more : List ℕ) → IsErr r → (IsErrOf r WriteFault.Sink → ⊥) → whole ≡ before ++ more
      → Appends old.written mid.written before → mid.faults ≡ old.faults → mid.capacity ≡ old.capacity
      → Puts old mid r whole
  stopped old mid (Ok x) more fails never parts first faults room = absurd (let no : false ≡ true = fails in cc)
  stopped old mid (Err e) more fails never parts first faults room =
      let all = ap length parts ∙ length-append before more in
      record {
        ok = tt;
        err = (
          length before,
          omega (arith, all),
          subst (λ (t : List ℕ). Appends old.written mid.written (take (length before) t)) (sym parts)
              (subst (Appends old.written mid.written) (sym (take-append_seam before more)) first),
        );
        cause = λ is. absurd (never is);
        stays = λ _. faults;
        faults = omega (arith, faults);
        same = room;
      }

  -- all were written
  pub all_put : {B : Type 0} (old new : SinkView) (x : B) → whole ≡ before → Appends old.written new.written before → new.faults ≡ old.faults → new.capacity ≡ old.capacity
      → Puts old new (Ok x) whole
  all_put old new x same first faults room =
      record {
        ok = subst (Appends old.written new.written) (sym same) first;
        err = tt;
        cause = λ is. absurd (cc);
        stays = λ _. faults;
        faults = omega (arith, faults);
        same = room;
      }

  -- a first text was written, and the result is that of the rest
  pub then_puts : {A B E : Type 0} (old mid new : SinkView) (x : A) (r : Result B WriteFault) (more : List ℕ) → whole ≡ before ++ more
      → Writes {E = E} old mid (Ok x) before → Puts mid new r more → Puts old new r whole
  then_puts old mid new x (Ok y) more parts v w =
      let first = v.faults in
      let later = w.faults in
      record {
        ok = subst (Appends old.written new.written) (sym parts) (Appends-append old.written mid.written new.written before more v.ok w.ok);
        err = tt;
        cause = λ is. absurd (cc);
        stays = λ _. w.stays (λ is. absurd (cc)) ∙ v.stays;
        faults = omega (arith, first, later);
        same = w.same ∙ v.same;
      }
  then_puts old mid new x (Err e) more parts v w =
      let first = v.faults in
      let later = w.faults in
      record {
        ok = tt;
        err = subst (AppendsPrefix old.written new.written) (sym parts) (AppendsPrefix-after old.written mid.written new.written before more v.ok w.err);
        cause = λ is. rises_later old.faults mid.faults new.faults v.faults (w.cause is);
        stays = λ never. w.stays never ∙ v.stays;
        faults = omega (arith, first, later);
        same = w.same ∙ v.same;
      }

-- One piece more was written.
module _ {A E : Type 0} (old mid new : SinkView) (r : Result A E) (x : A) (before piece own : List ℕ) (was : r ≡ Ok x) (is : piece ≡ own)
    (first : Appends old.written mid.written before) (wrote : Writes mid new r piece) where
  pub one_more : (whole : List ℕ) → whole ≡ before ++ own → Appends old.written new.written whole
  one_more whole parts =
      let ok : Appends mid.written new.written piece = on_ok r x _ was wrote.ok in
      subst (Appends old.written new.written) (ap (λ t. before ++ t) is ∙ sym parts) (Appends-append old.written mid.written new.written before piece first ok)

  -- and the sink counted no fault
  pub stays : new.faults ≡ mid.faults
  stays = on_ok r x _ was wrote.stays

  -- and then memory ran out
  pub stopped_behind : {B : Type 0} (q : Result B WriteFault) (whole more : List ℕ) → IsErr q → IsErrAnd q (λ e. e ≡ WriteFault.NoMemory) → whole ≡ before ++ (own ++ more)
      → mid.faults ≡ old.faults → mid.capacity ≡ old.capacity → Puts old new q whole
  stopped_behind q whole more fails only parts faults room =
      stopped whole (before ++ own) old new q more fails
      (λ e. let bad = passed_on {U = Unit {0}} q WriteFault.NoMemory WriteFault.Sink only e in cc)
      (parts ∙ sym (append_assoc before own more)) (one_more (before ++ own) refl) (stays ∙ faults) (wrote.same ∙ room)

-- The texts of these groups have been written, of which the next comes now.
pub record HasWritten (j : Journal) (text : List LedgerLine → List ℕ) (next : Option LedgerLine) (c : Cutting) (old new : SinkView) : Type 0 where
  pub groups : List LedgerLine
  pub comes : ComesNext j groups next c
  pub appended : Appends old.written new.written (text groups)
