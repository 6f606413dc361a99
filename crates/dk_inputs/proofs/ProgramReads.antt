-- The programs, as the loader reads them and as parts of what a command reads.
use Rattle.dk_inputs.proofs.Names.{ℕ, zero, suc, ◌≡◌, ◌+◌, ◌∙◌, List, [], ◌∷◌, length, map, subst, drop, refl, sym, ap, arith, inl, inr, ◌≢◌, IfSome, Option, Some, None, Result, Ok, Err, nat_lt, slice_get, option_map_or, cases_Bool, MAX_PROGRAM_BYTES, ProcessRow, Configuration, process_name, LoadFault, before_others, bytes_before, bytes_read, loading, program_from, programs_from, with_config, Workload, Refusal, line_of_row, Refuses, Tells, Files, Reads, ◌>>=◌, done, on_found, programs_at, read}
use Rattle.dk_loader.specs.declared.fault.LoadFault.TheVariants as fault
use Rattle.dk_inputs.specs.declared.refusal.Refusal.TheVariants as why
use Rattle.dk_inputs.proofs.FollowLemmas.{both_some, some_map}

abbrev pub refused_as : (ℕ → List ℕ) → LoadFault → Refusal
refused_as names fault.Depot = why.Depot
refused_as names (fault.TooLong p) = why.LongProgram (names p)
refused_as names _ = why.NoMemory

abbrev pub found_as : (ℕ → List ℕ) → Result (List (List ℕ)) LoadFault → Result (List (List ℕ)) Refusal
found_as names (Ok programs) = Ok programs
found_as names (Err e) = Err (refused_as names e)

-- the rows have these names, from number p on
abbrev pub AreNamed : (ℕ → List ℕ) → ℕ → List ProcessRow → Type 0
AreNamed names p [] = Unit {0}
AreNamed names p (row ∷ rows) = (names p ≡ row.name) × AreNamed names (suc p) rows

module _ (at : Files) (names : ℕ → List ℕ) where
  one_more : (file : List ℕ) (s : Reads (List (List ℕ))) (r : Result (List (List ℕ)) LoadFault) → s.found ≡ found_as names r
      → (s >>= (λ programs. done (file ∷ programs))).found ≡ found_as names (before_others (Ok file) r)
  one_more file s (Ok programs) is = rw is refl
  one_more file s (Err e) is = rw is refl

  row_found : (p : ℕ) (row : ProcessRow) (rest : Reads (List (List ℕ))) (r : Result (List (List ℕ)) LoadFault) (held : Option (List ℕ)) → names p ≡ row.name → rest.found ≡ found_as names r
      → (read MAX_PROGRAM_BYTES (why.LongProgram row.name) held >>= (λ program. rest >>= (λ programs. done (program ∷ programs)))).found ≡ found_as names (before_others (program_from p held) r)
  row_found p row rest r None named is = refl
  row_found p row rest r (Some file) named is = elim (cases_Bool (nat_lt MAX_PROGRAM_BYTES (length file))) [
    | inl e ↦ rw (e, named) refl
    | inr e ↦ rw e (one_more file rest r is)
  ]

  steps_found : (p : ℕ) (rows : List ProcessRow) → AreNamed names p rows → (programs_at at rows).found ≡ found_as names (programs_from at p rows)
  steps_found p [] named = refl
  steps_found p (row ∷ rows) named = row_found p row (programs_at at rows) (programs_from at (suc p) rows) (at row.program) named.0 (steps_found (suc p) rows named.1)

  row_given : (row : ProcessRow) (rest : Reads (List (List ℕ))) (held : Option (List ℕ))
      → (read MAX_PROGRAM_BYTES (why.LongProgram row.name) held >>= (λ program. rest >>= (λ programs. done (program ∷ programs)))).given ≡ bytes_before held rest.given
  row_given row rest None = refl
  row_given row rest (Some file) = elim (cases_Bool (nat_lt MAX_PROGRAM_BYTES (length file))) [
    | inl e ↦ rw e (omega arith)
    | inr e ↦ rw e (ap (λ n. length file + n) (last rest.found))
  ]
    where
      last : (found : Result (List (List ℕ)) Refusal) → rest.given + (on_found (λ programs. done (file ∷ programs)) found).given ≡ rest.given
      last (Ok programs) = omega arith
      last (Err e) = omega arith

  steps_given : (rows : List ProcessRow) → (programs_at at rows).given ≡ bytes_read at rows
  steps_given [] = refl
  steps_given (row ∷ rows) = row_given row (programs_at at rows) (at row.program) ∙ ap (bytes_before (at row.program)) (steps_given rows)

are_named : (all rows : List ProcessRow) (p : ℕ) → drop p all ≡ rows → AreNamed (λ q. option_map_or (λ (row : ProcessRow). row.name) (slice_get all q) []) p rows
are_named all [] p is = tt
are_named all (row ∷ rows) p is = (ap (λ o. option_map_or (λ (r : ProcessRow). r.name) o []) (here all p is), are_named all rows (suc p) (after all p is))
  where
    here : (xs : List ProcessRow) (q : ℕ) → drop q xs ≡ row ∷ rows → slice_get xs q ≡ Some row
    here [] zero e = cc
    here [] (suc q) e = cc
    here (x ∷ xs) zero e = let same : x ≡ row = cc in ap (λ y. Some y) same
    here (x ∷ xs) (suc q) e = here xs q e

    after : (xs : List ProcessRow) (q : ℕ) → drop q xs ≡ row ∷ rows → drop (suc q) xs ≡ rows
    after [] zero e = cc
    after [] (suc q) e = cc
    after (x ∷ xs) zero e = cc
    after (x ∷ xs) (suc q) e = after xs q e

-- what the loader makes of all programs is what the reads find
abbrev pub programs_of : Result Workload LoadFault → Result (List (List ℕ)) LoadFault
programs_of (Ok w) = Ok w.programs
programs_of (Err e) = Err e

loading_is : (c : Configuration) (r : Result (List (List ℕ)) LoadFault) → programs_of (with_config c r) ≡ r
loading_is c (Ok programs) = refl
loading_is c (Err e) = refl

pub programs_are : (at : Files) (c : Configuration) → (programs_at at c.processes).found ≡ found_as (process_name c) (programs_of (loading at c))
programs_are at c = steps_found at (process_name c) 0 c.processes (are_named c.processes c.processes 0 refl) ∙ ap (found_as (process_name c)) (sym (loading_is c (programs_from at 0 c.processes)))

pub bytes_are : (at : Files) (c : Configuration) → (programs_at at c.processes).given ≡ bytes_read at c.processes
bytes_are at c = steps_given at (process_name c) c.processes

-- the name on a header's line is that of the configuration
pub name_is : (rows : List ProcessRow) (p : ℕ) → option_map_or (λ line. line.name) (slice_get (map line_of_row rows) p) [] ≡ option_map_or (λ (row : ProcessRow). row.name) (slice_get rows p) []
name_is [] p = refl
name_is (row ∷ rows) zero = refl
name_is (row ∷ rows) (suc p) = name_is rows p

module _ (files : Option Files) (c : Configuration) (before after : ℕ) where
  pub told_programs : (w : Workload) → IfSome files (λ at. loading at c ≡ Ok w) → IfSome files (λ at. after ≡ before + bytes_read at c.processes)
      → IfSome files (λ at. Tells {X = Workload} (λ x y. y ≡ x.programs) (λ y e. ⊥) (Ok w) (programs_at at c.processes) before after)
  told_programs w loaded counted = some_map _ _ files (λ at both. (w.programs, programs_are at c ∙ ap (λ r. found_as (process_name c) (programs_of r)) both.0, refl, both.1 ∙ ap (λ n. before + n) (sym (bytes_are at c))))
      (both_some _ _ files loaded counted)

  pub told_long : {X : Type 0} (R : X → List (List ℕ) → Type 0) (p : ℕ) (name : List ℕ) → name ≡ process_name c p → IfSome files (λ at. loading at c ≡ Err (fault.TooLong p))
      → IfSome files (λ at. after ≡ before + bytes_read at c.processes) → IfSome files (λ at. Tells {X = X} R (λ y e. ⊥) (Err (why.LongProgram name)) (programs_at at c.processes) before after)
  told_long {X} R p name name_at loaded counted = some_map _ _ files (λ at both quiet.
      (let found : (programs_at at c.processes).found ≡ Err (why.LongProgram name) =
      programs_are at c ∙ ap (λ r. found_as (process_name c) (programs_of r)) both.0 ∙ ap (λ n. Err (why.LongProgram n)) (sym name_at) in
      (subst (λ t. Refuses {X = X} R (λ y e. ⊥) t (why.LongProgram name)) (sym found) refl, both.1 ∙ ap (λ n. before + n) (sym (bytes_are at c)))))
      (both_some _ _ files loaded counted)

pub held_programs : (files : Option Files) (c : Configuration) (first last : ℕ) → IfSome files (λ at. loading at c ≢ Err fault.Depot → last ≡ first)
    → IfSome files (λ at. (programs_at at c.processes).found ≢ Err why.Depot → last ≡ first)
held_programs files c first last held = some_map _ _ files (λ at stays apart. stays (λ missing. apart (programs_are at c ∙ ap (λ r. found_as (process_name c) (programs_of r)) missing))) held
