-- What a command reads and tests: a file, a test, or a computation, one after another, each with its refusal.
use Rattle.std.specs.Prelude.{ℕ, ◌+◌, nat_lt, length, List, [], ◌∷◌, Option, Some, None, Result, Ok, Err, if◌then◌else◌}
use Rattle.dk_config.specs.declared.TheConstants.{MAX_PROGRAM_BYTES}
use Rattle.dk_config.specs.declared.rows.ProcessRow.{ProcessRow}
use Rattle.dk_inputs.specs.declared.refusal.Refusal.{Refusal}
use Rattle.dk_inputs.specs.declared.refusal.Refusal.TheVariants as why

-- the names and what they hold
abbrev pub Files : Type 0
Files = List ℕ → Option (List ℕ)

-- what reads and tests, or a part of them, come to, and how many bytes the reads handed out
pub record Reads (A : Type 0) : Type 0 where
  pub given : ℕ
  pub found : Result A Refusal

abbrev pub done : {A : Type 0} → A → Reads A
done x = record { given = 0; found = Ok x }

abbrev pub refused : {A : Type 0} → Refusal → Reads A
refused e = record { given = 0; found = Err e }

-- a part that reads nothing
abbrev pub test : {A : Type 0} → Result A Refusal → Reads A
test r = record { given = 0; found = r }

abbrev pub given_more : {A : Type 0} → ℕ → Reads A → Reads A
given_more n s = record { given = n + s.given; found = s.found }

abbrev pub on_found : {A B : Type 0} → (A → Reads B) → Result A Refusal → Reads B
on_found f (Ok x) = f x
on_found f (Err e) = refused e

infixr 10 ◌>>=◌
-- one part, and those after it where it wasn't refused
abbrev pub ◌>>=◌ : {A B : Type 0} → Reads A → (A → Reads B) → Reads B
s >>= f = given_more s.given (on_found f s.found)

-- a file, of at most so many bytes
abbrev pub read : ℕ → Refusal → Option (List ℕ) → Reads (List ℕ)
read most long None = refused why.Depot
read most long (Some file) =
    if nat_lt most (length file)
    then record { given = most + 1; found = Err long }
    else record { given = length file; found = Ok file }

abbrev pub file_at : Files → List ℕ → ℕ → Refusal → Reads (List ℕ)
file_at at name most long = read most long (at name)

-- the programs of these processes, one after another
abbrev pub programs_at : Files → List ProcessRow → Reads (List (List ℕ))
programs_at at [] = done []
programs_at at (row ∷ rows) =
    file_at at row.program MAX_PROGRAM_BYTES (why.LongProgram row.name) >>= λ program.
    programs_at at rows >>= λ programs.
    done (program ∷ programs)
