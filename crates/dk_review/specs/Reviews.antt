-- The page of a document, with all that is told of it.
use Rattle.std.specs.Prelude.{ℕ, Bool, true, false, List, ◌≡◌, length, Option, Result, Ok, Err}
use Rattle.dk_config.specs.Configuration.{Configuration}
use Rattle.dk_certify.specs.declared.certifying.Verdict.{Verdict}
use Rattle.dk_certify.specs.declared.certifying.Verdict.TheVariants as verdict
use Rattle.dk_certify.specs.Verdicts.{verdict_of}
use Rattle.dk_document_report.specs.Telling.{Tells}
use Rattle.dk_loader.specs.declared.fault.LoadFault.{LoadFault}
use Rattle.dk_loader.specs.Reading.{reading}
use Rattle.dk_warnings.specs.Found.{warnings}
use Rattle.show_layout.specs.Certificate.{IsCertificate}
use Rattle.show_layout.specs.Margins.{AreMargins}
use Rattle.show_layout.specs.Matrix.{IsMatrix}
use Rattle.show_layout.specs.Warnings.{warnings_of}
use Rattle.show_layout.specs.When.{IsWhen}
use Rattle.show_rows.specs.declared.row.Form.TheVariants as row_form
use Rattle.dk_audit.specs.Lines.{IsFoundIn}
use Rattle.dk_audit.specs.declared.finding.Finding.{Finding}
use Rattle.dk_page.specs.Needs.{IsBoth}
use Rattle.dk_page.specs.Pages.{faults_text, page_text}
use Rattle.dk_page.specs.declared.needing.Standing.{Standing}
use Rattle.dk_page.specs.declared.needing.Standing.TheVariants as standing
use Rattle.dk_page.specs.Runs.{IsAddedBy}
use Rattle.dk_page.specs.declared.running.Run.{Run}
use Rattle.dk_page.specs.declared.told.Additions.{Additions}
use Rattle.dk_page.specs.declared.told.Certification.{Certification}
use Rattle.dk_page.specs.declared.told.Certification.TheVariants.{Certified, Failing}
use Rattle.dk_page.specs.declared.told.Told.{Told}
use Rattle.dk_review.specs.declared.drawing.Range.{Range}
use Rattle.dk_review.specs.declared.reviewing.Ending.{Ending}
use Rattle.dk_review.specs.declared.reviewing.Review.{Review}
use Rattle.dk_review.specs.Files.{File}
use Rattle.dk_review.specs.Needs.{AddsNeeds, AddsNothing}
use Rattle.dk_review.specs.Runs.{IsRunOf}

-- by when each main has its ticks, as a text and as a table
abbrev pub IsCertified : Configuration → Certification → Type 0
IsCertified c (Certified when table) = IsWhen row_form.Line c when.items × IsWhen row_form.Record c table.items
IsCertified c (Failing level needs window) = ⊥

-- that, or the first level that may miss its window
abbrev pub IsCertification : Configuration → Verdict → Certification → Type 0
IsCertification c (verdict.Accepted rows) k = IsCertified c k
IsCertification c (verdict.Fails level needs window) k = k ≡ Failing level needs window

-- what the commands tell of the configuration, as texts and as tables
pub record IsTold (c : Configuration) (t : Told) : Type 0 where
  pub certificate : IsCertificate row_form.Line c t.certificate.items
  pub certificate_table : IsCertificate row_form.Record c t.certificate_table.items
  pub matrix : IsMatrix c t.matrix.items
  pub certification : IsCertification c (verdict_of c) t.certification
  pub margins : AreMargins row_form.Line c t.margins.items
  pub margins_table : AreMargins row_form.Record c t.margins_table.items
  pub count : t.count ≡ length (warnings c)
  pub warnings : t.warnings.items ≡ warnings_of row_form.Line c

-- of a configuration that isn't certified nothing more is told
pub record IsUncertified (file : File) (c : Configuration) (r : Review) : Type 0 where
  pub told : Told
  pub added : Additions
  pub is_told : IsTold c told
  pub alone : AddsNothing added
  pub page : r.bytes.items ≡ page_text file.name file.bytes told added
  pub ends : r.ending ≡ Ending.Uncertified

-- how needs that stand so end the review, where all else is as it should be
abbrev pub needs_ending : Standing → Ending
needs_ending standing.Met = Ending.Certified
needs_ending standing.Unmet = Ending.Failing
needs_ending standing.Refused = Ending.Refused

-- of a certified configuration, with what is needed of it, and more behind that
pub record IsReviewed (file : File) (needs : Option File) (more : Additions) (c : Configuration) (r : Review) : Type 0 where
  pub told : Told
  pub stand : Standing
  pub first : Additions
  pub added : Additions
  pub is_told : IsTold c told
  pub needed : AddsNeeds file.name c needs stand first
  pub both : IsBoth first more added
  pub page : r.bytes.items ≡ page_text file.name file.bytes told added
  pub ends : r.ending ≡ needs_ending stand

-- a ledger that breaks a rule ends it as needs do that aren't met
abbrev pub run_ending : Standing → Bool → Ending
run_ending s true = needs_ending s
run_ending standing.Met false = Ending.Failing
run_ending standing.Unmet false = Ending.Failing
run_ending standing.Refused false = Ending.Refused

-- and with a ledger behind that, of which this is told
pub record IsReviewedRun (file : File) (needs : Option File) (ledger : File) (run : Run) (more : Additions) (c : Configuration)
    (r : Review) : Type 0 where
  pub told : Told
  pub stand : Standing
  pub first : Additions
  pub before : Additions
  pub last : Additions
  pub added : Additions
  pub is_told : IsTold c told
  pub needed : AddsNeeds file.name c needs stand first
  pub with_more : IsBoth first more before
  pub adds : IsAddedBy file.name ledger.name ledger.bytes run last
  pub both : IsBoth before last added
  pub page : r.bytes.items ≡ page_text file.name file.bytes told added
  pub ends : r.ending ≡ run_ending stand run.passed

-- with what the commands tell of the ledger in this file, which is one of the configuration, and the picture of this range
abbrev pub IsReviewedLedger : File → Option File → File → Option Range → Additions → Configuration → Review → Type 0
IsReviewedLedger file needs ledger range more c r =
    (run : Run) × IsRunOf c range ledger.bytes run × IsReviewedRun file needs ledger run more c r

-- the one of a certified configuration, and the other of one that isn't
abbrev pub IsReviewedBy : File → (Review → Type 0) → Configuration → Verdict → Review → Type 0
IsReviewedBy file Holds c (verdict.Accepted rows) r = Holds r
IsReviewedBy file Holds c (verdict.Fails level needs window) r = IsUncertified file c r

abbrev pub IsReviewedAlone : File → Option File → Additions → Configuration → Review → Type 0
IsReviewedAlone file needs more c r = IsReviewedBy file (IsReviewed file needs more c) c (verdict_of c) r

abbrev pub IsReviewedWith : File → Option File → File → Option Range → Additions → Configuration → Review → Type 0
IsReviewedWith file needs ledger range more c r =
    IsReviewedBy file (IsReviewedLedger file needs ledger range more c) c (verdict_of c) r

-- of a document that is that of none: all that is wrong with it
pub record IsRefused (file : File) (r : Review) : Type 0 where
  pub faults : List ℕ
  pub tells : Tells file.bytes faults
  pub page : r.bytes.items ≡ faults_text file.name file.bytes faults
  pub ends : r.ending ≡ Ending.Refused

-- of a document that was read as this, where that of a configuration is so
abbrev pub IsReviewOf : File → (Configuration → Review → Type 0) → Result Configuration LoadFault → Review → Type 0
IsReviewOf file Holds (Ok c) r = Holds c r
IsReviewOf file Holds (Err e) r = IsRefused file r

-- of the document in this file, with the needs in that one, where there is one, and more behind them
abbrev pub IsReview : File → Option File → Additions → Review → Type 0
IsReview file needs more r = IsReviewOf file (IsReviewedAlone file needs more) (reading file.bytes) r

-- and with the ledger in a third behind that, and the picture of the range that is asked for
abbrev pub IsReviewWith : File → Option File → File → Option Range → Additions → Review → Type 0
IsReviewWith file needs ledger range more r =
    IsReviewOf file (IsReviewedWith file needs ledger range more) (reading file.bytes) r

-- the ledger in these bytes is one of another configuration
abbrev pub IsOfOther : List ℕ → List ℕ → Type 0
IsOfOther document bytes = (c : Configuration) × (reading document ≡ Ok c) × IsFoundIn c bytes Finding.Header
