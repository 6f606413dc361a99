-- The programs that the files hold for the processes, or the first refusal in their order.
use Rattle.std.specs.Prelude.{ℕ, suc, ◌≡◌, ◌≢◌, IfSome, IsErrOf, ◌+◌, ◌<◌, ◌≤◌, nat_lt, length, sum_by, All, List, [], ◌∷◌, Option, Some, None, Result, Ok, Err, if◌then◌else◌}
use Rattle.dk_outside.specs.Counts.{Rises}
use Rattle.dk_outside.specs.Views.{DepotView}
use Rattle.dk_config.specs.declared.rows.ProcessRow.{ProcessRow}
use Rattle.dk_config.specs.Configuration.{Configuration}
use Rattle.dk_config.specs.declared.TheConstants.{MAX_PROGRAM_BYTES}
use Rattle.dk_loader.specs.declared.fault.LoadFault.{LoadFault}
use Rattle.dk_loader.specs.declared.fault.LoadFault.TheVariants as fault
use Rattle.dk_loader.specs.Workload.{Workload}

-- the program of process p in a file of these bytes
abbrev pub program_in : ℕ → List ℕ → Result (List ℕ) LoadFault
program_in p file = if nat_lt MAX_PROGRAM_BYTES (length file) then Err (fault.TooLong p) else Ok file

abbrev pub program_from : ℕ → Option (List ℕ) → Result (List ℕ) LoadFault
program_from p None = Err fault.Depot
program_from p (Some file) = program_in p file

-- one program before the others, of which the first refusal counts
abbrev pub before_others : Result (List ℕ) LoadFault → Result (List (List ℕ)) LoadFault
    → Result (List (List ℕ)) LoadFault
before_others (Err e) rest = Err e
before_others (Ok program) (Err e) = Err e
before_others (Ok program) (Ok programs) = Ok (program ∷ programs)

-- the programs of these processes, the first of which has number p
abbrev pub programs_from : (List ℕ → Option (List ℕ)) → ℕ → List ProcessRow → Result (List (List ℕ)) LoadFault
programs_from at p [] = Ok []
programs_from at p (row ∷ rows) = before_others (program_from p (at row.program)) (programs_from at (suc p) rows)

abbrev pub with_config : Configuration → Result (List (List ℕ)) LoadFault → Result Workload LoadFault
with_config config (Ok programs) = Ok (record { config = config; programs = programs })
with_config config (Err e) = Err e

-- the configuration with the program of each of its processes, by what each name holds
abbrev pub loading : (List ℕ → Option (List ℕ)) → Configuration → Result Workload LoadFault
loading at config = with_config config (programs_from at 0 config.processes)

-- An answer is the one that is planned, but a fault of the outside or want of memory may come in its place.
abbrev pub Refuses : {Y : Type 0} → LoadFault → Result Y LoadFault → Type 0
Refuses fault.NotToml plan = plan ≡ Err fault.NotToml
Refuses (fault.Config f) plan = plan ≡ Err (fault.Config f)
Refuses fault.Depot plan = Unit {0}
Refuses (fault.TooLong p) plan = plan ≡ Err (fault.TooLong p)
Refuses fault.NoMemory plan = Unit {0}

abbrev pub Gives : {X Y : Type 0} → (X → Y) → Result X LoadFault → Result Y LoadFault → Type 0
Gives view (Ok x) plan = plan ≡ Ok (view x)
Gives view (Err e) plan = Refuses e plan

-- These are what reads gave, none of them longer than a program may be, and then this many bytes more: `given` rose by so much.
pub record Took (old new : ℕ) (reads : List (List ℕ)) (more : ℕ) : Type 0 where
  pub short : All (λ bytes. length bytes ≤ MAX_PROGRAM_BYTES) reads
  pub rose : new ≡ old + sum_by length reads + more

-- what one read for process p handed out
abbrev pub TakesOne : ℕ → Result (List ℕ) LoadFault → ℕ → ℕ → Type 0
TakesOne p (Ok bytes) old new = (length bytes ≤ MAX_PROGRAM_BYTES) × (new ≡ old + length bytes)
TakesOne p (Err fault.NotToml) old new = ⊥
TakesOne p (Err (fault.Config f)) old new = ⊥
TakesOne p (Err fault.Depot) old new = new ≡ old
TakesOne p (Err (fault.TooLong q)) old new = (q ≡ p) × (new ≡ old + (MAX_PROGRAM_BYTES + 1))
TakesOne p (Err fault.NoMemory) old new = new ≡ old

-- What the reads for this many processes handed out: with an Ok the programs, and with `TooLong` one byte more than the
-- limit of the first program that is too long, after those of the processes before it. No other answer comes after a
-- read so long.
abbrev pub TakesAll : {X : Type 0} → (X → List (List ℕ)) → ℕ → Result X LoadFault → ℕ → ℕ → Type 0
TakesAll programs count (Ok x) old new = (length (programs x) ≡ count) × Took old new (programs x) 0
TakesAll programs count (Err fault.NotToml) old new = ⊥
TakesAll programs count (Err (fault.Config f)) old new = ⊥
TakesAll programs count (Err fault.Depot) old new =
    (reads : List (List ℕ)) × (length reads < count) × Took old new reads 0
TakesAll programs count (Err (fault.TooLong p)) old new =
    (p < count) × ((reads : List (List ℕ)) × (length reads ≡ p) × Took old new reads (MAX_PROGRAM_BYTES + 1))
TakesAll programs count (Err fault.NoMemory) old new =
    (reads : List (List ℕ)) × (length reads ≤ count) × Took old new reads 0

-- how many bytes the reads of these processes' programs hand out, up to the first that is missing or too long
abbrev pub bytes_before : Option (List ℕ) → ℕ → ℕ
bytes_before None rest = 0
bytes_before (Some file) rest =
    if nat_lt MAX_PROGRAM_BYTES (length file) then MAX_PROGRAM_BYTES + 1 else (length file + rest)

abbrev pub bytes_read : (List ℕ → Option (List ℕ)) → List ProcessRow → ℕ
bytes_read at [] = 0
bytes_read at (row ∷ rows) = bytes_before (at row.program) (bytes_read at rows)

-- the reads handed out so many bytes, where none of them failed and memory was there
abbrev pub CountsReads : {X : Type 0} → Result X LoadFault → ℕ → ℕ → ℕ → Type 0
CountsReads (Ok x) old new n = new ≡ old + n
CountsReads (Err (fault.TooLong p)) old new n = new ≡ old + n
CountsReads (Err _) old new n = Unit {0}

-- one read for the program of process p, in the file of this name
pub record ReadsOne (p : ℕ) (name : List ℕ) (result : Result (List ℕ) LoadFault) (old new : DepotView) : Type 0 where
  pub told : IfSome old.files (λ at. Gives (λ c. c) result (program_from p (at name)))
  pub given : TakesOne p result old.given new.given
  pub depot : IsErrOf result fault.Depot → Rises old.faults new.faults
  pub stays : result ≢ Err fault.Depot → new.faults ≡ old.faults
  pub faults : old.faults ≤ new.faults
  pub stray : IfSome old.files (λ at. program_from p (at name) ≢ Err fault.Depot → new.strays ≡ old.strays)
  pub strays : old.strays ≤ new.strays
  pub same : new.files ≡ old.files

-- the reads for the programs of these processes
pub record ReadsAll {X : Type 0} (programs : X → List (List ℕ)) (rows : List ProcessRow) (result : Result X LoadFault)
    (old new : DepotView) : Type 0 where
  pub told : IfSome old.files (λ at. Gives programs result (programs_from at 0 rows))
  pub given : TakesAll programs (length rows) result old.given new.given
  pub counted : IfSome old.files (λ at. CountsReads result old.given new.given (bytes_read at rows))
  pub depot : IsErrOf result fault.Depot → Rises old.faults new.faults
  pub stays : result ≢ Err fault.Depot → new.faults ≡ old.faults
  pub faults : old.faults ≤ new.faults
  pub stray : IfSome old.files (λ at. programs_from at 0 rows ≢ Err fault.Depot → new.strays ≡ old.strays)
  pub strays : old.strays ≤ new.strays
  pub same : new.files ≡ old.files
