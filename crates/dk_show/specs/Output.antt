-- What is written for the words and the files, and how the call ends.
use Rattle.std.specs.Prelude.{ℕ, ◌≡◌, ◌≤◌, ◌<◌, ◌⊎◌, ◌++◌, length, List, [], ◌∷◌, Option, Some, None, IfSome, MatchBool, Result, Ok, Err, Bool, true, false}
use Rattle.dk_config.specs.declared.TheConstants.{MAX_CONFIG_BYTES, MAX_LEDGER_BYTES}
use Rattle.dk_config.specs.Configuration.{Configuration}
use Rattle.dk_certify.specs.declared.certifying.Verdict.{Verdict}
use Rattle.dk_certify.specs.declared.certifying.Verdict.TheVariants as verdict
use Rattle.dk_certify.specs.Verdicts.{verdict_of}
use Rattle.dk_document_report.specs.Telling.{Tells}
use Rattle.show_layout.specs.Certificate.{IsCertificate}
use Rattle.show_layout.specs.Margins.{AreMargins}
use Rattle.show_layout.specs.Warnings.{warnings_of}
use Rattle.show_layout.specs.When.{IsWhen}
use Rattle.show_rows.specs.declared.row.Form.{Form}
use Rattle.show_rows.specs.declared.row.Form.TheVariants as row_form
use Rattle.dk_loader.specs.declared.fault.LoadFault.{LoadFault}
use Rattle.dk_loader.specs.declared.fault.LoadFault.TheVariants as fault
use Rattle.dk_loader.specs.Reading.{reading}
use Rattle.dk_ledger.specs.Readable.{Journal, IsReadable, text_of}
use Rattle.dk_csv.specs.Rows.{csv_text}
use Rattle.dk_trace_events.specs.Traces.{trace_text}
use Rattle.dk_vcd.specs.Dumps.{vcd_text}
use Rattle.dk_show_request.specs.declared.commands.Drawing.{Drawing}
use Rattle.dk_show_request.specs.declared.commands.Drawing.TheVariants as drawing
use Rattle.dk_show_request.specs.declared.commands.Telling.{Telling}
use Rattle.dk_show_request.specs.declared.commands.Telling.TheVariants as telling
use Rattle.dk_show_request.specs.declared.request.RangeRequest.{RangeRequest}
use Rattle.dk_show_request.specs.declared.request.Request.{Request}
use Rattle.dk_show_request.specs.declared.request.Request.TheVariants as request
use Rattle.dk_show.specs.declared.refusal.Refusal.{Refusal}
use Rattle.dk_show.specs.declared.refusal.Refusal.TheVariants as why
use Rattle.dk_show.specs.declared.status.Status.{Status}
use Rattle.dk_show.specs.declared.status.Status.TheVariants as status
pub use Rattle.dk_show.specs.Answers.{Files, IsOfNamed, IsWrong, Says}
use Rattle.dk_show.specs.Chains.{IsChainTold, IsOfReactions, chain_at}
use Rattle.dk_show.specs.Held.{IsOfHeld}
use Rattle.dk_show.specs.Impacts.{IsOfImpact}
use Rattle.dk_show.specs.Loading.{IsOf, IsOfLoaded, certified_at}
use Rattle.dk_show.specs.Pictured.{IsOfShown}
pub use Rattle.dk_show.specs.Pictured.{from_of, to_of}
use Rattle.dk_show.specs.Needed.{IsOfCheck, ready_at}
use Rattle.dk_show_request.specs.Meaning.{meaning}
use Rattle.dk_show_request.specs.Reasons.{wrong_text}
use Rattle.dk_show_request.specs.Help.{help_text}
use Rattle.dk_show_request.specs.Usage.{usage_text}
use Rattle.dk_show_request.specs.declared.table.TheConstants.{VERSIONS}
use Rattle.dk_show.specs.Repeats.{IsOfRepeats}
use Rattle.dk_show.specs.Budgets.{IsOfTimes, config_at}
use Rattle.dk_show.specs.Replays.{IsOfProfile}
use Rattle.dk_profile.specs.declared.TheConstants.{MAX_PROFILE_BYTES}
use Rattle.dk_show.specs.Slacks.{IsOfSlack}
use Rattle.dk_show.specs.Sources.{IsOfSource, is_source_name}
use Rattle.dk_show.specs.Windowed.{IsOfWindows}
use Rattle.dk_asm.specs.declared.TheConstants.{MAX_SOURCE_BYTES}

-- the text of a ledger's ticks from `from` up to before `to`
abbrev pub drawn_text : Drawing → ℕ → ℕ → Journal → List ℕ
drawn_text drawing.Trace from to j = trace_text from to j.heading j.entries
drawn_text drawing.Vcd from to j = vcd_text from to j.heading j.entries
drawn_text drawing.Csv from to j = csv_text from to j.heading j.entries

-- the range ends within the ledger, and this is its text
pub record IsDrawn (r : RangeRequest) (j : Journal) (text : List ℕ) (ended : Status) : Type 0 where
  pub within : to_of r.range (length j.entries) ≤ length j.entries
  pub drawn : text ≡ drawn_text r.drawing (from_of r.range) (to_of r.range (length j.entries)) j
  pub done : ended ≡ status.Done

-- the range ends behind the ledger
pub record IsBehind (r : RangeRequest) (j : Journal) (text : List ℕ) (ended : Status) : Type 0 where
  pub behind : length j.entries < to_of r.range (length j.entries)
  pub says : Says (why.RangeEnds (length j.entries)) text ended

-- the ledger in these bytes, and what is drawn of it
pub record IsOfLedger (r : RangeRequest) (bytes : List ℕ) (text : List ℕ) (ended : Status) : Type 0 where
  pub ledger : Journal
  pub readable : IsReadable ledger
  pub bytes_are : text_of ledger ≡ bytes
  pub drawn : IsDrawn r ledger text ended ⊎ IsBehind r ledger text ended

-- what the bytes of a ledger come to
abbrev pub IsOfBytes : RangeRequest → List ℕ → List ℕ → Status → Type 0
IsOfBytes r bytes text ended = IsWrong bytes text ended ⊎ IsOfLedger r bytes text ended

-- the status tells whether the configuration is certified
abbrev pub certified_end : Verdict → Status
certified_end (verdict.Accepted rows) = status.Done
certified_end (verdict.Fails level needs window) = status.Uncertified

-- the form in which it is told
abbrev pub form_of : Bool → Form
form_of true = row_form.Record
form_of false = row_form.Line

-- what is told of a configuration, as a table where that is asked for
abbrev pub IsToldOf : Telling → Bool → Configuration → Verdict → List ℕ → Status → Type 0
IsToldOf telling.Certify csv c v text ended =
    IsCertificate (form_of csv) c text × (ended ≡ certified_end v)
IsToldOf telling.Margins csv c v text ended = AreMargins (form_of csv) c text × (ended ≡ status.Done)
IsToldOf telling.When csv c (verdict.Accepted rows) text ended = IsWhen (form_of csv) c text × (ended ≡ status.Done)
IsToldOf telling.When csv c (verdict.Fails level needs window) text ended =
    Says (why.Uncertified level needs window) text ended
IsToldOf telling.Warnings csv c v text ended = (text ≡ warnings_of (form_of csv) c) × (ended ≡ status.Done)

-- what is told of what a document was read as
abbrev pub IsOfReading : Telling → Bool → Result Configuration LoadFault → List ℕ → Status → Type 0
IsOfReading t csv (Ok c) text ended = IsToldOf t csv c (verdict_of c) text ended
IsOfReading t csv (Err fault.NotToml) text ended = Says why.NotToml text ended
IsOfReading t csv (Err (fault.Config f)) text ended = Says (why.Rule f) text ended
IsOfReading t csv (Err _) text ended = ⊥

-- what the bytes of a configuration come to
abbrev pub IsOfDocument : Telling → Bool → List ℕ → List ℕ → Status → Type 0
IsOfDocument t csv bytes text ended = IsOfReading t csv (reading bytes) text ended

-- the status tells whether the document is that of a configuration
abbrev pub read_end : Result Configuration LoadFault → Status
read_end (Ok c) = status.Done
read_end (Err e) = status.Config

-- all that is wrong with the document
abbrev pub IsOfFaults : List ℕ → List ℕ → Status → Type 0
IsOfFaults bytes text ended = Tells bytes text × (ended ≡ read_end (reading bytes))

-- all that is wrong with the file of this name, a source of the assembler or a document
abbrev pub IsAllWrong : Files → List ℕ → List ℕ → Status → Type 0
IsAllWrong at file text ended = MatchBool (is_source_name file)
    (IsOfNamed at file MAX_SOURCE_BYTES why.LongSource IsOfSource text ended)
    (IsOfNamed at file MAX_CONFIG_BYTES why.LongConfig IsOfFaults text ended)

-- it is this text, whatever the files are
abbrev pub IsTold : List ℕ → List ℕ → Status → Type 0
IsTold wanted text ended = (text ≡ wanted) × (ended ≡ status.Done)

abbrev pub IsOfRequest : Request → Files → List ℕ → Status → Type 0
IsOfRequest (request.Draw r) at text ended =
    IsOfNamed at r.ledger MAX_LEDGER_BYTES why.LongLedger (IsOfBytes r) text ended
IsOfRequest (request.Picture ledger file range) at text ended = IsOfShown file at range ledger text ended
IsOfRequest (request.Windows ledger form) at text ended =
    IsOfNamed at ledger MAX_LEDGER_BYTES why.LongLedger (IsOfWindows form) text ended
IsOfRequest (request.Holds ledger file) at text ended = IsOfHeld file at ledger text ended
IsOfRequest (request.Faults file) at text ended = IsAllWrong at file text ended
IsOfRequest (request.Tell r) at text ended =
    IsOfNamed at r.file MAX_CONFIG_BYTES why.LongConfig (IsOfDocument r.telling r.as_csv) text ended
IsOfRequest (request.Slack r) at text ended = IsOf (certified_at (at r.file)) (IsOfSlack r) text ended
IsOfRequest (request.Chain r) at text ended = IsOf (chain_at at r) IsChainTold text ended
IsOfRequest (request.Reactions r ledger) at text ended =
    IsOf (chain_at at r) (λ chain. IsOfNamed at ledger MAX_LEDGER_BYTES why.LongLedger (IsOfReactions chain)) text ended
IsOfRequest (request.Impact r) at text ended = IsOfImpact at r text ended
IsOfRequest (request.Repeats file ticks) at text ended = IsOfLoaded at file (IsOfRepeats ticks) text ended
IsOfRequest (request.Check r) at text ended = IsOf (ready_at at r) (IsOfCheck at r.form r.ledger) text ended
IsOfRequest (request.Replay r) at text ended =
    IsOf (certified_at (at r.file))
    (λ c. IsOfNamed at r.profile MAX_PROFILE_BYTES why.LongProfile (IsOfProfile c r.profile r.name)) text ended
IsOfRequest (request.Budgets r) at text ended =
    IsOf (config_at (at r.file)) (λ c. IsOfNamed at r.times MAX_PROFILE_BYTES why.LongProfile (IsOfTimes r.form r.percent c)) text ended
IsOfRequest (request.Help command) at text ended = IsTold (help_text command) text ended
IsOfRequest request.Version at text ended = IsTold VERSIONS.now text ended

-- the usage line, and why the words mean nothing
abbrev pub IsUsage : List (List ℕ) → List ℕ → Status → Type 0
IsUsage words text ended = (text ≡ usage_text ++ wrong_text words) × (ended ≡ status.Usage)

-- what words of this meaning come to
abbrev pub IsOfMeaning : List (List ℕ) → Option Request → Files → List ℕ → Status → Type 0
IsOfMeaning words None at text ended = IsUsage words text ended
IsOfMeaning words (Some r) at text ended = IsOfRequest r at text ended

-- the text and the status are the output of the words and the files
abbrev pub IsOutput : List (List ℕ) → Files → List ℕ → Status → Type 0
IsOutput words at text ended = IsOfMeaning words (meaning words) at text ended

-- where the files are told
abbrev pub StandsInOutput : Option Files → List (List ℕ) → List ℕ → Status → Type 0
StandsInOutput files words text ended = IfSome files (λ at. IsOutput words at text ended)
