-- The reads of the programs hand out few bytes.
use Rattle.dk_show.proofs.Names.{ℕ, ◌+◌, ◌*◌, ◌^◌, ◌≤◌, List, length, arith, sum_by-le, Option, Some, None, IfSome, Result, Ok, Err, sum_by, MAX_PROCESSES, MAX_PROGRAM_BYTES, LoadFault, TakesAll, Took, Refusal, Files, Loads}
use Rattle.dk_loader.specs.declared.fault.LoadFault.TheVariants as fault
use Rattle.dk_show.specs.declared.refusal.Refusal.TheVariants as why

few_bytes : (old new count more : ℕ) (reads : List (List ℕ)) → length reads ≤ count → count ≤ MAX_PROCESSES → more ≤ MAX_PROGRAM_BYTES + 1
    → Took old new reads more → new ≤ old + 2 ^ 29
few_bytes old new count more reads within few little took =
    let sum : sum_by length reads ≤ length reads * 65536 = sum_by-le length MAX_PROGRAM_BYTES reads took.short in
    let rose = took.rose in
    omega (arith, within, few, little, sum, rose)

-- want of memory stands for any outcome
pub silent_loads : {A : Type 0} (files : Option Files) (outcome : Files → Result A Refusal) → IfSome files (λ at. Loads (Err why.NoMemory) (outcome at))
silent_loads None outcome = tt
silent_loads (Some at) outcome = λ loud. absurd (cc)

pub takes_few : {X : Type 0} (programs : X → List (List ℕ)) (count : ℕ) (result : Result X LoadFault) (old new : ℕ) → count ≤ MAX_PROCESSES
    → TakesAll programs count result old new → new ≤ old + 2 ^ 29
takes_few programs count (Ok x) old new few (all, took) = few_bytes old new count 0 (programs x) (omega (arith, all)) few (omega (arith)) took
takes_few programs count (Err fault.NotToml) old new few none = absurd none
takes_few programs count (Err (fault.Config f)) old new few none = absurd none
takes_few programs count (Err fault.Depot) old new few (reads, less, took) = few_bytes old new count 0 reads (omega (arith, less)) few (omega (arith)) took
takes_few programs count (Err (fault.TooLong p)) old new few (less, (reads, many, took)) =
    few_bytes old new count (MAX_PROGRAM_BYTES + 1) reads (omega (arith, less, many)) few (omega (arith)) took
takes_few programs count (Err fault.NoMemory) old new few (reads, less, took) = few_bytes old new count 0 reads less few (omega (arith)) took
