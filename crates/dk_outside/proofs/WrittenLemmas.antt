-- What follows from two writes in a row.
use Rattle.std.proofs.Common.{length, arith, length-append, ◌≤◌, ℕ, ◌+◌, List, ◌++◌, take, drop, refl, ap, sym, subst, ◌≡◌, ◌∙◌, append_assoc}
use Rattle.std.specs.Prelude.{true, false, Option, Some, None, Result, Ok, Err, IsErr}
use Rattle.std.proofs.Math.Seq.{take-add, take-append-le, take-append-add}
use Rattle.dk_outside.specs.Counts.{Rises}
use Rattle.dk_outside.specs.Views.{SinkView}
use Rattle.dk_outside.specs.Written.{Appends, AppendsPrefix, Writes}

-- what two writes append is appended by both together
pub Appends-append : (a b c : Option (List ℕ)) (xs ys : List ℕ) → Appends a b xs → Appends b c ys → Appends a c (xs ++ ys)
Appends-append None b c xs ys first second = rw (second, first) refl
Appends-append (Some w) b c xs ys first second = rw (second, first) (ap (λ (t : List ℕ). Some t) (append_assoc w xs ys))

-- a piece of which the first m bytes were written, and then the next n
pub Appends-take-add : (a b c : Option (List ℕ)) (m n : ℕ) (piece : List ℕ) → Appends a b (take m piece) → Appends b c (take n (drop m piece)) → Appends a c (take (m + n) piece)
Appends-take-add a b c m n piece first second = rw (take-add m n piece) (Appends-append a b c _ _ first second)

-- a prefix of the first piece is a prefix of both
pub AppendsPrefix-append : (a b : Option (List ℕ)) (xs ys : List ℕ) → AppendsPrefix a b xs → AppendsPrefix a b (xs ++ ys)
AppendsPrefix-append a b xs ys (n, within, appended) =
    let fits : n ≤ length (xs ++ ys) = omega (arith, length-append xs ys) in
    (n, fits, rw (take-append-le n xs ys within) appended)

-- the first piece, and a prefix of the second
pub AppendsPrefix-after : (a b c : Option (List ℕ)) (xs ys : List ℕ) → Appends a b xs → AppendsPrefix b c ys → AppendsPrefix a c (xs ++ ys)
AppendsPrefix-after a b c xs ys first (n, within, appended) =
    let fits : length xs + n ≤ length (xs ++ ys) = omega (arith, length-append xs ys) in
    (length xs + n, fits, rw (take-append-add xs ys n) (Appends-append a b c xs (take n ys) first appended))

-- several pieces in turn
pub ruleset written_in_turn = (Appends-append, AppendsPrefix-append, AppendsPrefix-after)

-- a count that rises after a time in which it didn't fall
rises_later : (a b c : ℕ) → a ≤ b → Rises b c → Rises a c
rises_later a b c before rises = λ short. (let later = rises short in omega (arith, before, later))

-- Two writes in a row, of a text of two pieces.
module _ (first second text : List ℕ) (parts : text ≡ first ++ second) where
  -- the first failed
  pub first_fails : {A B E F : Type 0} (old new : SinkView) (f : F) (r : Result B E) → IsErr r → Writes {A = A} old new (Err f) first
      → Writes old new r text
  first_fails old new f (Ok x) fails w = absurd (let no : false ≡ true = fails in cc)
  first_fails old new f (Err e) fails w =
      record {
        ok = tt;
        err = subst (AppendsPrefix old.written new.written) (sym parts) (AppendsPrefix-append old.written new.written first second w.err);
        cause = w.cause;
        stays = tt;
        faults = w.faults;
        same = w.same;
      }

  -- the first was written, and the result is that of the second
  pub second_ends : {A B E F : Type 0} (old between new : SinkView) (x : A) (r : Result B E) → Writes {E = F} old between (Ok x) first
      → Writes between new r second → Writes old new r text
  second_ends old between new x (Ok y) v w =
      record {
        ok = subst (Appends old.written new.written) (sym parts) (Appends-append old.written between.written new.written first second v.ok w.ok);
        err = tt;
        cause = λ fails. absurd (let no : false ≡ true = fails in cc);
        stays = w.stays ∙ v.stays;
        faults = omega (arith, v.faults, w.faults);
        same = w.same ∙ v.same;
      }
  second_ends old between new x (Err e) v w =
      record {
        ok = tt;
        err = subst (AppendsPrefix old.written new.written) (sym parts) (AppendsPrefix-after old.written between.written new.written first second v.ok w.err);
        cause = λ fails. rises_later old.faults between.faults new.faults v.faults (w.cause fails);
        stays = tt;
        faults = omega (arith, v.faults, w.faults);
        same = w.same ∙ v.same;
      }
