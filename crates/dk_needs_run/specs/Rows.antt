-- The rows of needs, with those of a run where a ledger says what it was.
use Rattle.std.specs.Prelude.{ℕ, ◌≡◌, ◌≢◌, ◌↔◌, List, [], ◌∷◌, ◌++◌, flat_map, slice_get, IsTrue, Option, Some, None}
use Rattle.std.specs.Option.{option_map_or}
use Rattle.dk_config.specs.Configuration.{Configuration}
use Rattle.dk_ledger.specs.Readable.{Journal}
use Rattle.dk_needs.specs.declared.needs.Need.{Need}
use Rattle.dk_needs.specs.declared.needs.What.{What}
use Rattle.dk_needs_check.specs.declared.row.Answer.{Answer}
use Rattle.dk_needs_check.specs.declared.row.Measure.{Measure}
use Rattle.dk_needs_check.specs.declared.row.Reason.{Reason}
use Rattle.dk_needs_check.specs.declared.row.Row.{Row}
use Rattle.dk_needs_check.specs.declared.unknown.Checking.{Checking}
use Rattle.dk_needs_check.specs.Rows.{AreRows}
use Rattle.dk_needs_check.specs.Bounds.{are_met}
use Rattle.dk_needs_check.specs.Unknown.{unknown_of}
use Rattle.dk_needs_run.specs.declared.found.RunFound.{RunFound}
use Rattle.dk_needs_run.specs.Run.{IsRunIn, IsRunMet}

-- the row of a number, where anything is asked of it
abbrev pub bound_row : ℕ → Measure → ℕ → Option ℕ → List Row
bound_row i measure n None = []
bound_row i measure n (Some asked) =
    record { need = i; answer = Answer.Tested (record { measure = measure; number = Some n; asked = asked }) } ∷ []

-- the rows of need i: what the audit found, and each number that is asked for
abbrev pub run_rows : ℕ → RunFound → Option ℕ → Option ℕ → Option ℕ → List Row
run_rows i run overruns refused faults =
    record { need = i; answer = Answer.Audited run.audit }
    ∷ (bound_row i Measure.Overruns run.overruns overruns
    ++ (bound_row i Measure.Refused run.refused refused ++ bound_row i Measure.Faults run.faults faults))

-- of a need of a run the row that asks for a ledger is decided; that of whether the run repeats stays
abbrev pub ledger_rows : RunFound → Row → Option ℕ → Option ℕ → Option ℕ → Answer → List Row
ledger_rows run row overruns refused faults (Answer.Open Reason.NoLedger) = run_rows row.need run overruns refused faults
ledger_rows run row overruns refused faults _ = row ∷ []

-- a row of a need of a run is decided, and each other one stays
abbrev pub decided_row : RunFound → Row → What → List Row
decided_row run row (What.Run overruns refused faults forever) = ledger_rows run row overruns refused faults row.answer
decided_row run row _ = row ∷ []

abbrev pub decided_by : List Need → RunFound → Row → List Row
decided_by needs run row = option_map_or (λ need. decided_row run row need.what) (slice_get needs row.need) (row ∷ [])

-- The rows without a ledger, and those of a run decided by what the ledger in these bytes says.
pub record AreRunRows (c : Configuration) (needs : List Need) (bytes : List ℕ) (rows : List Row) : Type 0 where
  pub known : unknown_of c needs ≡ []
  pub before : List Row
  pub run : RunFound
  pub are : AreRows c 0 needs before
  pub says : IsRunIn c bytes run
  pub whole : rows ≡ flat_map (decided_by needs run) before

-- Where the configuration hasn't got something, all of that; else the rows.
abbrev pub IsRunCheck : Configuration → List Need → List ℕ → Checking → Type 0
IsRunCheck c needs bytes (Checking.Unknown found) = (found.items ≡ unknown_of c needs) × (unknown_of c needs ≢ [])
IsRunCheck c needs bytes (Checking.Decided rows) = AreRunRows c needs bytes rows.items

-- All rows of a need of a run that a ledger decides are met exactly where the entries follow the rules and no number is above what is asked.
abbrev pub IsExact : Configuration → Journal → RunFound → Type 0
IsExact c j run =
    (i : ℕ) (overruns refused faults : Option ℕ)
    → IsTrue (are_met (run_rows i run overruns refused faults)) ↔ IsRunMet c j overruns refused faults
