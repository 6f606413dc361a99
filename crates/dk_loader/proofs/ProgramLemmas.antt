-- What one program that is read, or that isn't, says of all of them.
use Rattle.dk_loader.proofs.Names.{◌≡◌, ◌≢◌, ◌∙◌, ◌<◌, ◌≤◌, ◌+◌, ◌*◌, ℕ, suc, List, [], ◌∷◌, ◌++◌, length, take, drop, get_or, refl, ap, arith, sym, subst, cond, length-append, Option, Some, None, Result, Ok, Err, IfSome, nat_lt, sum_by, nat_tests, length-take, take_all, drop_more, drop_all, append-nil, All-push, sum_by-append, DepotView, IsReading, CountsStray, MAX_PROGRAM_BYTES, ProcessRow, Configuration, LoadFault, Gives, Took, TakesOne, TakesAll, bytes_before, bytes_read, before_others, CountsReads, program_in, program_from, programs_from, ReadsOne, ReadsAll}
use Rattle.std.proofs.lemmas.List.{append_assoc}
use Rattle.dk_loader.specs.declared.fault.LoadFault.TheVariants as fault

-- what was read so far, before the rest
abbrev pub with_front : List (List ℕ) → Result (List (List ℕ)) LoadFault → Result (List (List ℕ)) LoadFault
with_front front (Ok programs) = Ok (front ++ programs)
with_front front (Err e) = Err e

-- a file that is cut one byte past the limit is as long, for the test
abbrev within : ℕ → ℕ → List ℕ → Result (List ℕ) LoadFault
within most p bytes = cond (nat_lt most (length bytes)) (Err (fault.TooLong p)) (Ok bytes)

within-take : (most p : ℕ) (file : List ℕ) → within most p (take (most + 1) file) ≡ within most p file
within-take most p file = grind (arith, nat_tests, length-take, take_all)

-- what is made of the bytes that a read gave is what is made of the file
told : {X : Type 0} (view : X → List ℕ) (files : Option (List ℕ → Option (List ℕ))) (p : ℕ) (name bytes : List ℕ) (r : Result X LoadFault)
    → IfSome files (λ at. IsReading at name MAX_PROGRAM_BYTES bytes) → Gives view r (program_in p bytes) → IfSome files (λ at. Gives view r (program_from p (at name)))
told view None p name bytes r held gives = tt
told view (Some at) p name bytes r held gives =
    let same : program_from p (at name) ≡ program_in p bytes = rw (held.1, held.2) (sym (within-take MAX_PROGRAM_BYTES p held.0)) in
    let P : Result (List ℕ) LoadFault → Type 0 = λ t. Gives view r t in
    subst P (sym same) gives

-- a program that has a fault
with_front-fault : (at : List ℕ → Option (List ℕ)) (rows : List ProcessRow) (i : ℕ) (row : ProcessRow) (front : List (List ℕ)) (e : LoadFault) → i < length rows
    → program_from i (at (get_or rows i row).program) ≡ Err e
    → with_front front (programs_from at i (drop i rows)) ≡ Err e
with_front-fault at rows i row front e h read = rw (drop_more rows i row h, read) refl

-- What all of the programs are, where these are the first i of them, by what the depot tells.
abbrev pub AreFirst : Option (List ℕ → Option (List ℕ)) → List ProcessRow → ℕ → List (List ℕ) → Type 0
AreFirst files rows i front = IfSome files (λ at. with_front front (programs_from at i (drop i rows)) ≡ programs_from at 0 rows)

-- where no program is missing, the next one isn't, so its read doesn't stray
no_stray : (files now : Option (List ℕ → Option (List ℕ))) (rows : List ProcessRow) (i : ℕ) (row : ProcessRow) (front : List (List ℕ)) (first before after : ℕ)
    → now ≡ files → row ≡ get_or rows i row → i < length rows
    → AreFirst files rows i front → IfSome files (λ at. before ≡ first)
    → IfSome now (λ at. program_from i (at row.program) ≢ Err fault.Depot → after ≡ before)
    → IfSome files (λ at. programs_from at 0 rows ≢ Err fault.Depot → after ≡ first)
no_stray rows now row i first front after before is same at h left stays here = grind (arith, nat_tests, with_front-fault)

-- one more short read
pub Took-more : (old before after : ℕ) (reads : List (List ℕ)) (x : List ℕ) → Took old before reads 0 → length x ≤ MAX_PROGRAM_BYTES → after ≡ before + length x
    → Took old after (reads ++ x ∷ []) 0
Took-more old before after reads x took short rose = record {
  short = All-push (λ bytes. length bytes ≤ MAX_PROGRAM_BYTES) reads x took.short short;
  rose = omega (arith, took.rose, rose, sum_by-append length reads (x ∷ []));
}

-- what the reads handed out when one of them was refused
refused_took : {X : Type 0} (programs : X → List (List ℕ)) (count i : ℕ) (front : List (List ℕ)) (e : LoadFault) (first before after : ℕ)
    → length front ≡ i → i < count → Took first before front 0 → TakesOne i (Err e) before after → TakesAll programs count (Err e) first after
refused_took programs count i front fault.NotToml first before after few below took here = here
refused_took programs count i front (fault.Config f) first before after few below took here = here
refused_took programs count i front fault.Depot first before after few below took here = (front, omega arith, rw here took)
refused_took programs count i front (fault.TooLong p) first before after few below took here =
    let rose : after ≡ first + sum_by length front + (MAX_PROGRAM_BYTES + 1) = omega (arith, took.rose, here.1) in
    (omega (arith, here.0), (front, omega (arith, here.0), record { short = took.short; rose = rose }))
refused_took programs count i front fault.NoMemory first before after few below took here = (front, omega arith, rw here took)

-- what they handed out when memory ran out after a read
read_took : {X : Type 0} (programs : X → List (List ℕ)) (count i : ℕ) (front : List (List ℕ)) (x : List ℕ) (result : Result X LoadFault) (first before after : ℕ)
    → result ≡ Err fault.NoMemory → length front ≡ i → i < count → Took first before front 0 → TakesOne i (Ok x) before after → TakesAll programs count result first after
read_took programs count i front x result first before after memory few below took here =
    let all : Took first after (front ++ x ∷ []) 0 = Took-more first before after front x took here.0 here.1 in
    let fits : length (front ++ x ∷ []) ≤ count = omega (arith, length-append front (x ∷ [])) in
    rw memory (front ++ x ∷ [], fits, all)

-- ---- how many bytes they handed out, where the files are told

-- what is handed out so far, and what is still to be read, is what is read in all
abbrev pub AreCounted : Option (List ℕ → Option (List ℕ)) → List ProcessRow → ℕ → ℕ → ℕ → Type 0
AreCounted files rows i first now = IfSome files (λ at. now + bytes_read at (drop i rows) ≡ first + bytes_read at rows)

long_bytes : (p q : ℕ) (o : Option (List ℕ)) (rest : ℕ) → program_from p o ≡ Err (fault.TooLong q) → bytes_before o rest ≡ MAX_PROGRAM_BYTES + 1
long_bytes p q o rest read = grind (arith, nat_tests)

-- the row at i, and then those after it
next_row : (rows : List ProcessRow) (i : ℕ) (row : ProcessRow) → i < length rows → row ≡ get_or rows i row → drop i rows ≡ row ∷ drop (i + 1) rows
next_row rows i row h is = drop_more rows i row h ∙ ap (λ r. r ∷ drop (i + 1) rows) (sym is)

with_front-more : (front : List (List ℕ)) (x : List ℕ) (rest : Result (List (List ℕ)) LoadFault) → with_front (front ++ x ∷ []) rest ≡ with_front front (before_others (Ok x) rest)
with_front-more front x is = grind (arith, nat_tests, append_assoc)

-- one more program
told_more : (files : Option (List ℕ → Option (List ℕ))) (rows : List ProcessRow) (i : ℕ) (row : ProcessRow) (front : List (List ℕ)) (x : List ℕ)
    → drop i rows ≡ row ∷ drop (i + 1) rows → AreFirst files rows i front
    → IfSome files (λ at. Gives (λ c. c) (Ok x) (program_from i (at row.program))) → AreFirst files rows (i + 1) (front ++ x ∷ [])
told_more rows i row front x is next left here = grind (arith, nat_tests, with_front-more)

counted_more : (files : Option (List ℕ → Option (List ℕ))) (rows : List ProcessRow) (i : ℕ) (row : ProcessRow) (x : List ℕ) (first before after : ℕ)
    → drop i rows ≡ row ∷ drop (i + 1) rows → AreCounted files rows i first before
    → IfSome files (λ at. Gives (λ c. c) (Ok x) (program_from i (at row.program))) → after ≡ before + length x → AreCounted files rows (i + 1) first after
counted_more rows i row x first before after is next left here rose = grind (arith, nat_tests)

-- a program that is refused
told_refusal : {X : Type 0} (view : X → List (List ℕ)) (files : Option (List ℕ → Option (List ℕ))) (rows : List ProcessRow) (i : ℕ) (row : ProcessRow) (front : List (List ℕ)) (e : LoadFault)
    → drop i rows ≡ row ∷ drop (i + 1) rows → AreFirst files rows i front
    → IfSome files (λ at. Gives {X = List ℕ} (λ c. c) (Err e) (program_from i (at row.program))) → IfSome files (λ at. Gives {X = X} view (Err e) (programs_from at 0 rows))
told_refusal view None rows i row front e next left here = tt
told_refusal {X} view (Some at) rows i row front e next left here =
    let parts : with_front front (before_others (program_from i (at row.program)) (programs_from at (suc i) (drop (i + 1) rows))) ≡ programs_from at 0 rows = rw next at left in
    refused e parts here
  where
    refused : (e : LoadFault) → with_front front (before_others (program_from i (at row.program)) (programs_from at (suc i) (drop (i + 1) rows))) ≡ programs_from at 0 rows
        → Gives {X = List ℕ} (λ c. c) (Err e) (program_from i (at row.program)) → Gives {X = X} view (Err e) (programs_from at 0 rows)
    refused fault.NotToml parts here = let plan : Err fault.NotToml ≡ programs_from at 0 rows = rw here at parts in sym plan
    refused (fault.Config f) parts here = let plan : Err (fault.Config f) ≡ programs_from at 0 rows = rw here at parts in sym plan
    refused fault.Depot parts here = tt
    refused (fault.TooLong p) parts here = let plan : Err (fault.TooLong p) ≡ programs_from at 0 rows = rw here at parts in sym plan
    refused fault.NoMemory parts here = tt

counted_refusal : (X : Type 0) (files : Option (List ℕ → Option (List ℕ))) (rows : List ProcessRow) (i : ℕ) (row : ProcessRow) (e : LoadFault) (first before after : ℕ)
    → drop i rows ≡ row ∷ drop (i + 1) rows → AreCounted files rows i first before
    → IfSome files (λ at. Gives {X = List ℕ} (λ c. c) (Err e) (program_from i (at row.program))) → TakesOne i (Err e) before after
    → IfSome files (λ at. CountsReads {X = X} (Err e) first after (bytes_read at rows))
counted_refusal X None rows i row e first before after next left here took = tt
counted_refusal X (Some at) rows i row fault.NotToml first before after next left here took = tt
counted_refusal X (Some at) rows i row (fault.Config f) first before after next left here took = tt
counted_refusal X (Some at) rows i row fault.Depot first before after next left here took = tt
counted_refusal X (Some at) rows i row (fault.TooLong q) first before after next left here took =
    let parts : before + bytes_before (at row.program) (bytes_read at (drop (i + 1) rows)) ≡ first + bytes_read at rows = rw next at left in
    let bytes = long_bytes i q (at row.program) (bytes_read at (drop (i + 1) rows)) here in
    omega (arith, parts, bytes, took.1)
counted_refusal X (Some at) rows i row fault.NoMemory first before after next left here took = tt

-- ---- the clauses where memory ran out, and those after the last program

memory_told : {X : Type 0} (view : X → List (List ℕ)) (files : Option (List ℕ → Option (List ℕ))) (rows : List ProcessRow) (result : Result X LoadFault)
    → result ≡ Err fault.NoMemory → IfSome files (λ at. Gives view result (programs_from at 0 rows))
memory_told view None rows result memory = tt
memory_told view (Some at) rows result memory = rw memory tt

memory_counted : {X : Type 0} (files : Option (List ℕ → Option (List ℕ))) (rows : List ProcessRow) (result : Result X LoadFault) (old new : ℕ)
    → result ≡ Err fault.NoMemory → IfSome files (λ at. CountsReads result old new (bytes_read at rows))
memory_counted None rows result old new memory = tt
memory_counted (Some at) rows result old new memory = rw memory tt

all_told : {X : Type 0} (view : X → List (List ℕ)) (files : Option (List ℕ → Option (List ℕ))) (rows : List ProcessRow) (i : ℕ) (x : X)
    → length rows ≤ i → AreFirst files rows i (view x) → IfSome files (λ at. Gives view (Ok x) (programs_from at 0 rows))
all_told view None rows i x past told = tt
all_told view (Some at) rows i x past told = sym told ∙ rw (drop_all i rows past, append-nil (view x)) refl

all_counted : {X : Type 0} (files : Option (List ℕ → Option (List ℕ))) (rows : List ProcessRow) (i : ℕ) (x : X) (old new : ℕ)
    → length rows ≤ i → AreCounted files rows i old new → IfSome files (λ at. CountsReads {X = X} (Ok x) old new (bytes_read at rows))
all_counted None rows i x old new past counted = tt
all_counted (Some at) rows i x old new past counted = let none : drop i rows ≡ [] = drop_all i rows past in omega (arith, rw none at counted)

all_stray : (files : Option (List ℕ → Option (List ℕ))) (rows : List ProcessRow) (first now : ℕ)
    → IfSome files (λ at. now ≡ first) → IfSome files (λ at. programs_from at 0 rows ≢ Err fault.Depot → now ≡ first)
all_stray rows first now is same = grind (arith, nat_tests)

-- ---- the whole of it

-- what was read of the first i programs
pub record AreRead (rows : List ProcessRow) (i : ℕ) (front : List (List ℕ)) (old new : DepotView) : Type 0 where
  pub inside : i ≤ length rows
  told : AreFirst old.files rows i front
  pub read : length front ≡ i
  pub took : Took old.given new.given front 0
  pub counted : AreCounted old.files rows i old.given new.given
  pub bounded : new.given ≤ old.given + MAX_PROGRAM_BYTES * i
  pub faults : new.faults ≡ old.faults
  pub stray : IfSome old.files (λ at. new.strays ≡ old.strays)
  pub strays : old.strays ≤ new.strays
  pub same : new.files ≡ old.files

pub none_read : (rows : List ProcessRow) (depot : DepotView) → AreRead rows 0 [] depot depot
none_read rows depot = grind (arith, nat_tests)

-- the read for process i, in the file that its row names, after the reads before it
module _ (rows : List ProcessRow) (i : ℕ) (row : ProcessRow) (name : List ℕ) (front : List (List ℕ)) (old mid new : DepotView)
    (inside : i < length rows) (is : row ≡ get_or rows i row) (named : name ≡ row.program) (before : AreRead rows i front old mid) where
  one_told : (r : Result (List ℕ) LoadFault) → ReadsOne i name r mid new → IfSome old.files (λ at. Gives (λ c. c) r (program_from i (at row.program)))
  one_told r one = subst (λ files. IfSome files (λ at. Gives (λ c. c) r (program_from i (at row.program)))) before.same (rw named at one.told)

  one_stray : (r : Result (List ℕ) LoadFault) → ReadsOne i name r mid new → IfSome old.files (λ at. programs_from at 0 rows ≢ Err fault.Depot → new.strays ≡ old.strays)
  one_stray r one =
      let here : IfSome mid.files (λ at. program_from i (at row.program) ≢ Err fault.Depot → new.strays ≡ mid.strays) = rw named at one.stray in
      no_stray old.files mid.files rows i row front old.strays mid.strays new.strays before.same is inside before.told before.stray here

  stray_more : (files : Option (List ℕ → Option (List ℕ))) (x : List ℕ) → IfSome files (λ at. Gives (λ c. c) (Ok x) (program_from i (at row.program)))
      → IfSome files (λ at. program_from i (at row.program) ≢ Err fault.Depot → new.strays ≡ mid.strays) → IfSome files (λ at. mid.strays ≡ old.strays) → IfSome files (λ at. new.strays ≡ old.strays)
  stray_more x is read stays so_far = grind (arith, nat_tests)

  pub one_more_read : (x : List ℕ) (after : List (List ℕ)) → ReadsOne i name (Ok x) mid new → after ≡ front ++ x ∷ [] → AreRead rows (i + 1) after old new
  one_more_read x after one same =
      let next = next_row rows i row inside is in
      let told = one_told (Ok x) one in
      let here : IfSome mid.files (λ at. program_from i (at row.program) ≢ Err fault.Depot → new.strays ≡ mid.strays) = rw named at one.stray in
      let stays = subst (λ files. IfSome files (λ at. program_from i (at row.program) ≢ Err fault.Depot → new.strays ≡ mid.strays)) before.same here in
      rw same (record {
        inside = omega (arith, inside);
        told = told_more old.files rows i row front x next before.told told;
        read = omega (arith, length-append front (x ∷ []), before.read);
        took = Took-more old.given mid.given new.given front x before.took one.given.0 one.given.1;
        counted = counted_more old.files rows i row x old.given mid.given new.given next before.counted told one.given.1;
        bounded = omega (arith, before.bounded, one.given.0, one.given.1);
        faults = one.stays (λ failed. cc) ∙ before.faults;
        stray = stray_more old.files x told stays before.stray;
        strays = omega (arith, before.strays, one.strays);
        same = one.same ∙ before.same;
      })

  pub refused_read : {X : Type 0} (view : X → List (List ℕ)) (e : LoadFault) → ReadsOne i name (Err e) mid new → ReadsAll {X = X} view rows (Err e) old new
  refused_read {X} view e one =
      let next = next_row rows i row inside is in
      let told = one_told (Err e) one in
      record {
        told = told_refusal {X = X} view old.files rows i row front e next before.told told;
        given = refused_took {X = X} view (length rows) i front e old.given mid.given new.given before.read inside before.took one.given;
        counted = counted_refusal X old.files rows i row e old.given mid.given new.given next before.counted told one.given;
        depot = λ failed. λ short. let same : e ≡ fault.Depot = cc in omega (arith, before.faults, one.depot (ap Err same) short);
        stays = λ other. one.stays (λ failed. other (let same : e ≡ fault.Depot = cc in ap Err same)) ∙ before.faults;
        faults = omega (arith, before.faults, one.faults);
        stray = one_stray (Err e) one;
        strays = omega (arith, before.strays, one.strays);
        same = one.same ∙ before.same;
      }

  pub unkept_read : {X : Type 0} (view : X → List (List ℕ)) (x : List ℕ) (result : Result X LoadFault) → result ≡ Err fault.NoMemory → ReadsOne i name (Ok x) mid new
      → ReadsAll {X = X} view rows result old new
  unkept_read {X} view x result memory one = record {
    told = memory_told view old.files rows result memory;
    given = read_took view (length rows) i front x result old.given mid.given new.given memory before.read inside before.took one.given;
    counted = memory_counted old.files rows result old.given new.given memory;
    depot = λ failed. let no = sym memory ∙ failed in cc;
    stays = λ other. one.stays (λ failed. cc) ∙ before.faults;
    faults = omega (arith, before.faults, one.faults);
    stray = one_stray (Ok x) one;
    strays = omega (arith, before.strays, one.strays);
    same = one.same ∙ before.same;
  }

pub all_read : {X : Type 0} (view : X → List (List ℕ)) (rows : List ProcessRow) (i : ℕ) (x : X) (old new : DepotView) → length rows ≤ i → AreRead rows i (view x) old new → ReadsAll view rows (Ok x) old new
all_read view rows i x old new past front = record {
  told = all_told view old.files rows i x past front.told;
  given = (omega (arith, front.read, front.inside, past), front.took);
  counted = all_counted old.files rows i x old.given new.given past front.counted;
  depot = λ failed. cc;
  stays = λ other. front.faults;
  faults = omega (arith, front.faults);
  stray = all_stray old.files rows old.strays new.strays front.stray;
  strays = front.strays;
  same = front.same;
}

-- ---- one read

stray_one : (files : Option (List ℕ → Option (List ℕ))) (p : ℕ) (name : List ℕ) (before after : ℕ) → IfSome files (λ at. CountsStray at name before after)
    → IfSome files (λ at. program_from p (at name) ≢ Err fault.Depot → after ≡ before)
stray_one p name before after is counts = grind (arith, nat_tests)

-- the bytes of the file came
pub bytes_came : (p : ℕ) (name bytes : List ℕ) (r : Result (List ℕ) LoadFault) (old new : DepotView)
    → IfSome old.files (λ at. IsReading at name MAX_PROGRAM_BYTES bytes) → Gives (λ c. c) r (program_in p bytes) → ((n : ℕ) → TakesOne p r n (n + length bytes))
    → r ≢ Err fault.Depot → new.given ≡ old.given + length bytes → new.faults ≡ old.faults → IfSome old.files (λ at. CountsStray at name old.strays new.strays)
    → old.strays ≤ new.strays → new.files ≡ old.files → ReadsOne p name r old new
bytes_came p name bytes r old new held gives takes fits rose faults counts strays same = record {
  told = told (λ c. c) old.files p name bytes r held gives;
  given = rw rose (takes old.given);
  depot = λ failed. absurd (fits failed);
  stays = λ other. faults;
  faults = omega (arith, faults);
  stray = stray_one old.files p name old.strays new.strays counts;
  strays = strays;
  same = same;
}
