-- What each command does: what it reads and tests, in order, and then what it writes.
use Rattle.std.specs.Prelude.{ℕ, List, Option, Some, None, Result, Ok, Err, position}
use Rattle.std.specs.Str.{bytes_eq}
use Rattle.dk_config.specs.declared.TheConstants.{MAX_CONFIG_BYTES, MAX_LEDGER_BYTES, MAX_PROGRAM_BYTES}
use Rattle.dk_config.specs.declared.rows.ProcessRow.{ProcessRow}
use Rattle.dk_config.specs.Configuration.{Configuration}
use Rattle.dk_certify.specs.declared.table.TableRow.{TableRow}
use Rattle.dk_certify.specs.declared.certifying.Verdict.{Verdict}
use Rattle.dk_certify.specs.declared.certifying.Verdict.TheVariants as verdict
use Rattle.dk_certify.specs.Verdicts.{verdict_of}
use Rattle.dk_certify.specs.Laws.{migrated}
use Rattle.dk_loader.specs.declared.fault.LoadFault.{LoadFault}
use Rattle.dk_loader.specs.declared.fault.LoadFault.TheVariants as fault
use Rattle.dk_loader.specs.Reading.{reading}
use Rattle.dk_loader.specs.Workload.{Workload}
use Rattle.dk_asm.specs.declared.TheConstants.{MAX_SOURCE_BYTES}
use Rattle.dk_inputs.specs.declared.refusal.Refusal.{Refusal}
use Rattle.dk_inputs.specs.declared.refusal.Refusal.TheVariants as why
use Rattle.dk_request.specs.declared.output.Output.{Output}
use Rattle.dk_request.specs.declared.output.Output.TheVariants as asked
use Rattle.dk_request.specs.declared.request.Request.{Request}
use Rattle.dk_request.specs.declared.request.Request.TheVariants as request
use Rattle.dk_request.specs.Meaning.{meaning}
use Rattle.dk_gen.specs.Generated.{generated}
use Rattle.dk_plan.specs.declared.harmonising.Ask.{Ask}
use Rattle.dk_inputs.specs.Reads.{Files, Reads, ◌>>=◌, done, test, file_at, programs_at}

-- what is to be written
pub data Job : Type 0 where
  -- the ledger of so many ticks, or their report
  run : Workload → ℕ → Output → Job
  -- the certified levels
  certificate : List TableRow → Job
  -- the ledger in these bytes, or its report
  ledger : List ℕ → Output → Job
  -- a document that stands for the configuration
  document : Configuration → Job
  -- the program of this source
  source : List ℕ → Job
  -- the listing of this program
  code : List ℕ → Job
  -- what an audit finds of the ledger in these bytes
  findings : Configuration → List ℕ → Job
  -- the greatest budget of the process with this number, which has this name
  budget : Configuration → ℕ → List ℕ → Job
  -- a base from the first number to the second for these asks
  base : ℕ → ℕ → List Ask → Job
  -- the state after so many ticks
  state : Workload → ℕ → Job

abbrev pub refused_reading : LoadFault → Refusal
refused_reading fault.NotToml = why.NotToml
refused_reading (fault.Config f) = why.Rule f
refused_reading _ = why.NoMemory

abbrev pub read_as : Result Configuration LoadFault → Result Configuration Refusal
read_as (Ok c) = Ok c
read_as (Err e) = Err (refused_reading e)

-- the configuration in these bytes
abbrev pub config_in : List ℕ → Result Configuration Refusal
config_in bytes = read_as (reading bytes)

abbrev pub accepted : Verdict → Result (List TableRow) Refusal
accepted (verdict.Accepted rows) = Ok rows
accepted (verdict.Fails level needs window) = Err (why.Uncertified level needs window)

-- the table of the configuration, where it passes the certification test
abbrev pub certified : Configuration → Result (List TableRow) Refusal
certified c = accepted (verdict_of c)

abbrev pub found_process : Option ℕ → Result ℕ Refusal
found_process (Some p) = Ok p
found_process None = Err why.NoProcess

-- the number of the process with this name
abbrev pub process_in : Configuration → List ℕ → Result ℕ Refusal
process_in c name = found_process (position (λ (row : ProcessRow). bytes_eq row.name name) c.processes)

-- the configuration in the file of this name
unfoldable pub config_at : Files → List ℕ → Reads Configuration
config_at at file = file_at at file MAX_CONFIG_BYTES why.LongConfig >>= λ bytes. test (config_in bytes)

-- a run of a certified configuration, once its programs are read
abbrev pub run_of : Configuration → ℕ → Output → Files → Reads Job
run_of c ticks output at =
    programs_at at c.processes >>= λ programs.
    done (run (record { config = c; programs = programs }) ticks output)

-- an audit for a certified configuration, once the ledger is read
abbrev pub audit_of : Configuration → List ℕ → Files → Reads Job
audit_of c name at = file_at at name MAX_LEDGER_BYTES why.LongLedger >>= λ bytes. done (findings c bytes)

-- what a request comes to
abbrev pub job_for : Request → Files → Reads Job
job_for (request.Run file ticks output) at =
    config_at at file >>= λ c.
    test (certified c) >>= λ rows.
    run_of c ticks output at
job_for (request.Certify file) at =
    config_at at file >>= λ c.
    test (certified c) >>= λ rows.
    done (certificate rows)
job_for (request.Gen number ticks) at =
    done (run (generated number) ticks asked.Report)
job_for (request.Ledger file output) at =
    file_at at file MAX_LEDGER_BYTES why.LongLedger >>= λ bytes.
    done (ledger bytes output)
job_for (request.Migrate file) at =
    config_at at file >>= λ c.
    done (document (migrated c))
job_for (request.Asm file) at =
    file_at at file MAX_SOURCE_BYTES why.LongSource >>= λ bytes.
    done (source bytes)
job_for (request.Dis file) at =
    file_at at file MAX_PROGRAM_BYTES why.LongCode >>= λ bytes.
    done (code bytes)
job_for (request.Audit file name) at =
    config_at at file >>= λ c.
    test (certified c) >>= λ rows.
    audit_of c name at
job_for (request.Plan file name) at =
    config_at at file >>= λ c.
    test (process_in c name) >>= λ p.
    done (budget c p name)
job_for (request.Harmonise lo hi asks) at =
    done (base lo hi asks)
job_for (request.Inspect file tick) at =
    config_at at file >>= λ c.
    test (certified c) >>= λ rows.
    programs_at at c.processes >>= λ programs.
    done (state (record { config = c; programs = programs }) tick)

-- what was found, where words may ask for nothing
abbrev pub some_found : {A : Type 0} → Result A Refusal → Result (Option A) Refusal
some_found (Ok x) = Ok (Some x)
some_found (Err e) = Err e

-- no job, where the words ask for nothing
abbrev pub some_job_for : Option Request → Files → Reads (Option Job)
some_job_for None at = done None
some_job_for (Some request) at = record { given = (job_for request at).given; found = some_found (job_for request at).found }

-- what the words come to
unfoldable pub job_for_words : List (List ℕ) → Files → Reads (Option Job)
job_for_words words at = some_job_for (meaning words) at
