-- Files that were read up to one byte more than they may have.
use Rattle.std.proofs.Common.{◌≤◌, ◌+◌, ◌≡◌, ℕ, List, [], length, refl, sym, take, arith, subst, inl, inr, ◌∙◌}
use Rattle.std.proofs.lemmas.Bool.{cases_Bool}
use Rattle.std.proofs.lemmas.Bool.Decides.{nat_tests}
use Rattle.std.proofs.lemmas.List.{length-take, take_all}
use Rattle.std.specs.Prelude.{IfOk, IfSome, nat_lt, Option, Some, None, Result, Ok, Err}
use Rattle.dk_config.specs.declared.TheConstants.{MAX_CONFIG_BYTES, MAX_LEDGER_BYTES}
use Rattle.dk_outside.specs.declared.depot.DepotError.{DepotError}
use Rattle.dk_page.specs.declared.told.Additions.{Additions}
use Rattle.dk_page_prog.specs.Answers.{AreRead, IsAsked, IsLongOr, IsOfFiles, IsOfMore, IsOfShort, IsReadAt, first_long}
use Rattle.dk_page_prog.specs.Asking.{Asking}
use Rattle.dk_page_prog.specs.Repeating.{Tells, search_asked}
use Rattle.dk_page_prog.specs.declared.answers.Answer.{Answer}
use Rattle.dk_page_prog.specs.declared.files.Held.{Held}
use Rattle.dk_page_prog.specs.declared.files.LongFile.{LongFile}

-- the beginning is as much too long as the whole
beginning_long : (most : ℕ) (file : List ℕ) → nat_lt most (length (take (most + 1) file)) ≡ nat_lt most (length file)
beginning_long most file =
    let counted = length-take (most + 1) file in
    elim (cases_Bool (nat_lt most (length file))) [
      | inl e ↦ grind (arith, nat_tests, counted)
      | inr e ↦ grind (arith, nat_tests, counted)
    ]

beginnings_long : (d n l : List ℕ)
    → first_long (take (MAX_CONFIG_BYTES + 1) d) (take (MAX_CONFIG_BYTES + 1) n) (take (MAX_LEDGER_BYTES + 1) l) ≡ first_long d n l
beginnings_long d n l =
    rw (beginning_long MAX_CONFIG_BYTES d, beginning_long MAX_CONFIG_BYTES n, beginning_long MAX_LEDGER_BYTES l) refl

pub record AreShort (d n l : List ℕ) : Type 0 where
  pub document : length d ≤ MAX_CONFIG_BYTES
  pub needs : length n ≤ MAX_CONFIG_BYTES
  pub ledger : length l ≤ MAX_LEDGER_BYTES

pub none_long : (d n l : List ℕ) → first_long d n l ≡ None → AreShort d n l
none_long d n l none =
    elim (cases_Bool (nat_lt MAX_CONFIG_BYTES (length d))) [
      | inl e ↦ let bad : Some LongFile.Config ≡ None = rw e at none in absurd (cc)
      | inr e ↦ elim (cases_Bool (nat_lt MAX_CONFIG_BYTES (length n))) [
        | inl f ↦ let bad : Some LongFile.Needs ≡ None = rw (e, f) at none in absurd (cc)
        | inr f ↦ elim (cases_Bool (nat_lt MAX_LEDGER_BYTES (length l))) [
          | inl g ↦ let bad : Some LongFile.Ledger ≡ None = rw (e, f, g) at none in absurd (cc)
          | inr g ↦ record { document = grind (arith, nat_tests); needs = grind (arith, nat_tests); ledger = grind (arith, nat_tests) }
        ]
      ]
    ]

whole_file : (most : ℕ) (file : List ℕ) → length file ≤ most → take (most + 1) file ≡ file
whole_file most file few = take_all (most + 1) file (omega (arith, few))

-- what the beginnings come to is what the files come to
files_whole : (at : List ℕ → Option (List ℕ)) (k : Asking) (a : Answer) (d n l : List ℕ) (long : Option LongFile) → first_long d n l ≡ long
    → IsLongOr (IsOfShort at k (take (MAX_CONFIG_BYTES + 1) d) (take (MAX_CONFIG_BYTES + 1) n) (take (MAX_LEDGER_BYTES + 1) l) a) a long
    → IsLongOr (IsOfShort at k d n l a) a long
files_whole at k a d n l (Some long) same is = is
files_whole at k a d n l None same is =
    let few = none_long d n l same in
    subst (λ x. IsOfShort at k d n x a) (whole_file MAX_LEDGER_BYTES l few.ledger)
    (subst (λ x. IsOfShort at k d x (take (MAX_LEDGER_BYTES + 1) l) a) (whole_file MAX_CONFIG_BYTES n few.needs)
    (subst (λ x. IsOfShort at k x (take (MAX_CONFIG_BYTES + 1) n) (take (MAX_LEDGER_BYTES + 1) l) a) (whole_file MAX_CONFIG_BYTES d few.document) is))

whole : (at : List ℕ → Option (List ℕ)) (k : Asking) (a : Answer) (d n l e o m : List ℕ) → d ≡ take (MAX_CONFIG_BYTES + 1) e → n ≡ take (MAX_CONFIG_BYTES + 1) o
    → l ≡ take (MAX_LEDGER_BYTES + 1) m → IsOfFiles at k a d n l → IsOfFiles at k a e o m
whole at k a d n l e o m ds ns ls is =
    files_whole at k a e o m (first_long e o m) refl
    (subst (λ x. IsLongOr (IsOfShort at k (take (MAX_CONFIG_BYTES + 1) e) (take (MAX_CONFIG_BYTES + 1) o) (take (MAX_LEDGER_BYTES + 1) m) a) a x)
    (beginnings_long e o m) (rw (ds, ns, ls) at is))

-- so what was read comes to what the files come to
pub of_read : (files : Option (List ℕ → Option (List ℕ))) (k : Asking) (h : Held) (result : Result Answer DepotError)
    → IfSome files (λ at. AreRead at k h)
    → IfSome files (λ at. IfOk result (λ a. IsOfFiles at k a h.document.items h.needs.items h.ledger.items))
    → IfSome files (λ at. IfOk result (IsAsked at k))
of_read None k h result read is = tt
of_read (Some at) k h (Ok a) read is = record {
  document = read.document.0;
  needs = read.needs_are.0;
  ledger = read.ledger_is.0;
  has_document = read.document.1;
  has_needs = read.needs_are.1;
  has_ledger = read.ledger_is.1;
  comes = whole at k a _ _ _ read.document.0 read.needs_are.0 read.ledger_is.0 read.document.2 read.needs_are.2 read.ledger_is.2 is;
}
of_read (Some at) k h (Err e) read is = tt

-- the depot has the same files later
pub read_later : (later files : Option (List ℕ → Option (List ℕ))) (name : Option (List ℕ)) (limit : ℕ) (bytes : List ℕ) → later ≡ files
    → IfSome later (λ at. IsReadAt at name limit bytes) → IfSome files (λ at. IsReadAt at name limit bytes)
read_later later files name limit bytes same read = subst (λ fs. IfSome fs (λ at. IsReadAt at name limit bytes)) same read

-- three files that were read
pub all_read : (files : Option (List ℕ → Option (List ℕ))) (k : Asking) (h : Held)
    → IfSome files (λ at. IsReadAt at (Some k.name) MAX_CONFIG_BYTES h.document.items)
    → IfSome files (λ at. IsReadAt at k.needs MAX_CONFIG_BYTES h.needs.items)
    → IfSome files (λ at. IsReadAt at k.ledger MAX_LEDGER_BYTES h.ledger.items)
    → IfSome files (λ at. AreRead at k h)
all_read None k h d n l = tt
all_read (Some at) k h d n l = record { document = d; needs_are = n; ledger_is = l }

-- nothing was read where no file is named
pub none_read : (files : Option (List ℕ → Option (List ℕ))) (name : Option (List ℕ)) (limit : ℕ) (bytes : List ℕ) → name ≡ None
    → bytes ≡ [] → IfSome files (λ at. IsReadAt at name limit bytes)
none_read None name limit bytes none nothing = tt
none_read (Some at) None limit bytes none nothing = ([], refl, nothing ∙ sym (take_all (limit + 1) [] (omega arith)))
none_read (Some at) (Some name) limit bytes none nothing = absurd (cc)

pub wider : {E : Type 0} (P Q : Answer → Type 0) (r : Result Answer E) → ((a : Answer) → P a → Q a) → IfOk r P → IfOk r Q
wider P Q (Ok a) all is = all a is
wider P Q (Err e) all is = tt

-- what the page tells more
pub more_told : (files : Option (List ℕ → Option (List ℕ))) (k : Asking) (d n l bytes : List ℕ) (more : Additions)
    (r : Result Answer DepotError) → bytes ≡ d → IfSome files (λ at. Tells k.name (search_asked at bytes k.repeats) more)
    → IfOk r (IsOfMore k d n l more) → IfSome files (λ at. IfOk r (IsOfShort at k d n l))
more_told None k d n l bytes more r same tells is = tt
more_told (Some at) k d n l bytes more (Ok a) same tells is =
    inl (record { more = more; tells = subst (λ b. Tells k.name (search_asked at b k.repeats) more) same tells; is = is })
more_told (Some at) k d n l bytes more (Err e) same tells is = tt
