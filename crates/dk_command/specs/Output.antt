-- What is written for the words and the files, and how the call ends.
use Rattle.std.specs.Prelude.{ℕ, ◌≡◌, ◌≤◌, ◌++◌, ◌⊎◌, codes, decimal, List, Option, Some, None, IfSome, Result, Ok, Err}
use Rattle.dk_trace.specs.declared.Entry.{Entry}
use Rattle.dk_config.specs.Configuration.{Configuration}
use Rattle.dk_loader.specs.Reading.{reading}
use Rattle.dk_ledger.specs.Heading.{Heading, header_text, level_lines}
use Rattle.dk_ledger.specs.Ledgers.{ledger_text}
use Rattle.dk_ledger.specs.Readable.{Journal, IsReadable, IsNoText, IsWrongLine, text_of}
use Rattle.dk_report.specs.Report.{report_text}
use Rattle.dk_asm.specs.Source.{Assembled, Outcome}
use Rattle.dk_asm.specs.Listing.{listing}
use Rattle.dk_audit.specs.declared.finding.Finding.{Finding}
use Rattle.dk_audit.specs.Findings.{IsFinding}
use Rattle.dk_inspect.specs.View.{view}
use Rattle.dk_plan.specs.Budget.{CanHave, NoGreater}
use Rattle.dk_plan.specs.Base.{GreaterTakeMore, NoneLess}
use Rattle.dk_request.specs.declared.output.Output.{Output}
use Rattle.dk_request.specs.declared.output.Output.TheVariants as asked
use Rattle.dk_inputs.specs.declared.refusal.Refusal.{Refusal}
use Rattle.dk_inputs.specs.declared.refusal.Refusal.TheVariants as why
use Rattle.dk_inputs.specs.declared.status.Status.{Status}
use Rattle.dk_inputs.specs.declared.status.Status.TheVariants as status
use Rattle.dk_inputs.specs.Answer.{refusal_text, refusal_status}
use Rattle.dk_request.specs.Commands.{usage_text}
use Rattle.dk_command.specs.Runs.{AreEntries}
use Rattle.dk_inputs.specs.Reads.{Files}
use Rattle.dk_inputs.specs.Inputs.{heading}
use Rattle.dk_inputs.specs.Jobs.{Job, run, certificate, ledger, document, source, code, findings, budget, base, state, job_for_words}
use Rattle.dk_command.specs.Planner.{base_text, budget_text}

-- the ledger of entries, or its header and their report
abbrev pub entries_output : Output → Heading → List Entry → List ℕ
entries_output asked.Ledger h es = ledger_text h es
entries_output asked.Report h es = header_text h ++ report_text h es

-- the bytes of a ledger, or its header and the report of its entries
abbrev pub ledger_output : Output → List ℕ → Journal → List ℕ
ledger_output asked.Ledger bytes j = bytes
ledger_output asked.Report bytes j = header_text j.heading ++ report_text j.heading j.entries

-- an audit of the ledger in these bytes finds this
abbrev pub IsFoundIn : Configuration → List ℕ → Finding → Type 0
IsFoundIn c bytes finding = (j : Journal) × IsReadable j × (text_of j ≡ bytes) × IsFinding c j finding

abbrev pub passed_text : ℕ → List ℕ
passed_text n = codes "audit: passed " ++ (decimal n ++ codes "\n")

-- the text is what the job writes
abbrev pub IsText : Job → List ℕ → Type 0
IsText (run w ticks output) text =
    (es : List Entry) × AreEntries w ticks es × (text ≡ entries_output output (heading w.config) es)
IsText (certificate rows) text = text ≡ level_lines 0 rows ++ codes "certified\n"
IsText (ledger bytes output) text = (j : Journal) × IsReadable j × (text_of j ≡ bytes)
    × (text ≡ ledger_output output bytes j)
IsText (document c) text = reading text ≡ Ok c
IsText (source bytes) text = Assembled bytes (Outcome.program text)
IsText (code bytes) text = text ≡ listing bytes
IsText (findings c bytes) text = (n : ℕ) × IsFoundIn c bytes (Finding.Passed n) × (text ≡ passed_text n)
IsText (budget c p name) text =
    (answer : Option ℕ) × IfSome answer (CanHave c p) × NoGreater c p answer × (text ≡ budget_text name answer)
IsText (base lo hi asks) text =
    (p : ℕ) × (lo ≤ p) × (p ≤ hi) × NoneLess lo hi asks p × GreaterTakeMore hi asks p × (text ≡ base_text p asks)
IsText (state w tick) text = text ≡ view w.config w.programs tick

-- the job has no text, for this reason
abbrev pub Fails : Job → Refusal → Type 0
Fails (ledger bytes output) (why.LedgerLine line) = IsWrongLine line bytes × IsNoText bytes
Fails (findings c bytes) (why.LedgerLine line) = IsWrongLine line bytes × IsNoText bytes
Fails (findings c bytes) why.HeaderDiffers = IsFoundIn c bytes Finding.Header
Fails (findings c bytes) (why.WrongLabel tick) = IsFoundIn c bytes (Finding.Label tick)
Fails (findings c bytes) (why.WrongEvent tick) = IsFoundIn c bytes (Finding.Event tick)
Fails (source bytes) (why.SourceLine number cause) = Assembled bytes (Outcome.fault number cause)
Fails _ _ = ⊥

-- the same where words may ask for nothing
abbrev pub SomeFails : Option Job → Refusal → Type 0
SomeFails None e = ⊥
SomeFails (Some job) e = Fails job e

abbrev pub Says : Refusal → List ℕ → Status → Type 0
Says e text ended = (text ≡ refusal_text e) × (ended ≡ refusal_status e)

-- Words that ask for nothing get the usage line.
abbrev pub Comes : Result (Option Job) Refusal → List ℕ → Status → Type 0
Comes (Ok None) text ended = (text ≡ usage_text) × (ended ≡ status.Usage)
Comes (Ok (Some job)) text ended = (IsText job text × (ended ≡ status.Done))
    ⊎ ((e : Refusal) × Fails job e × Says e text ended)
Comes (Err e) text ended = Says e text ended

-- the text and the status are the output of the words and the files
abbrev pub IsOutput : List (List ℕ) → Files → List ℕ → Status → Type 0
IsOutput words at text ended = Comes (job_for_words words at).found text ended

-- a status that the outside and memory had no part in
abbrev pub IsAnswer : Status → Type 0
IsAnswer status.DepotFault = ⊥
IsAnswer status.SinkFault = ⊥
IsAnswer status.NoMemory = ⊥
IsAnswer _ = Unit {0}
