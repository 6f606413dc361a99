-- What repeats in a run, of which the page tells more.
use Rattle.std.specs.Prelude.{ℕ, ◌≡◌, List, [], ◌∷◌, Option, Some, None, Result, Ok, Err}
use Rattle.dk_certify.specs.declared.certifying.Verdict.{Verdict}
use Rattle.dk_certify.specs.declared.certifying.Verdict.TheVariants as verdict
use Rattle.dk_certify.specs.Verdicts.{verdict_of}
use Rattle.dk_config.specs.declared.rows.ProcessRow.{ProcessRow}
use Rattle.dk_config.specs.Configuration.{Configuration}
use Rattle.dk_loader.specs.declared.fault.LoadFault.{LoadFault}
use Rattle.dk_loader.specs.declared.fault.LoadFault.TheVariants as fault
use Rattle.dk_loader.specs.Programs.{loading}
use Rattle.dk_loader.specs.Reading.{reading}
use Rattle.dk_loader.specs.Workload.{Workload}
use Rattle.dk_page.specs.More.{IsAddedByProgram, IsAddedByRepeats}
use Rattle.dk_page.specs.Needs.{IsBoth}
use Rattle.dk_page.specs.declared.repeating.RepeatsTold.{RepeatsTold}
use Rattle.dk_page.specs.declared.told.Additions.{Additions}
use Rattle.dk_repeat_search.specs.Repeats.{IsRepeatsOf}
use Rattle.dk_review.specs.Needs.{AddsNothing}

-- in how many ticks it is looked for what repeats, and in the run of what, or why that can't be read
pub record Search : Type 0 where
  pub ticks : ℕ
  pub load : Result Workload LoadFault

-- of a certified configuration, with the programs that the files hold
abbrev pub search_certified : (List ℕ → Option (List ℕ)) → ℕ → Configuration → Verdict → Option Search
search_certified at ticks c (verdict.Accepted rows) = Some (record { ticks = ticks; load = loading at c })
search_certified at ticks c (verdict.Fails level needs window) = None

abbrev pub search_read : (List ℕ → Option (List ℕ)) → ℕ → Result Configuration LoadFault → Option Search
search_read at ticks (Ok c) = search_certified at ticks c (verdict_of c)
search_read at ticks (Err e) = None

-- of the one in the document, where it is asked
abbrev pub search_asked : (List ℕ → Option (List ℕ)) → List ℕ → Option ℕ → Option Search
search_asked at document (Some ticks) = search_read at ticks (reading document)
search_asked at document None = None

-- the files of these programs, one for each process
abbrev pub AddsPrograms : List ProcessRow → List (List ℕ) → Additions → Type 0
AddsPrograms [] codes a = AddsNothing a
AddsPrograms (row ∷ rows) [] a = AddsNothing a
AddsPrograms (row ∷ rows) (code ∷ codes) a = (first : Additions) × (rest : Additions) × IsAddedByProgram row.program code first
    × AddsPrograms rows codes rest × IsBoth first rest a

-- the programs of this, and what `repeats` tells of its run
pub record TellsRepeats (name : List ℕ) (ticks : ℕ) (w : Workload) (more : Additions) : Type 0 where
  pub files : Additions
  pub told : RepeatsTold
  pub section : Additions
  pub programs : AddsPrograms w.config.processes w.programs files
  pub ticks_are : told.ticks ≡ ticks
  pub repeats : IsRepeatsOf w ticks told.text.items told.whole
  pub adds : IsAddedByRepeats name told section
  pub both : IsBoth files section more

abbrev pub TellsOf : List ℕ → ℕ → Result Workload LoadFault → Additions → Type 0
TellsOf name ticks (Ok w) more = TellsRepeats name ticks w more
TellsOf name ticks (Err e) more = ⊥

-- what more the page of the file of this name has, and without a search nothing
abbrev pub Tells : List ℕ → Option Search → Additions → Type 0
Tells name None more = AddsNothing more
Tells name (Some s) more = TellsOf name s.ticks s.load more

-- the first program that is too long
abbrev pub HasLongProgram : Option Search → ℕ → Type 0
HasLongProgram None p = ⊥
HasLongProgram (Some s) p = s.load ≡ Err (fault.TooLong p)

-- the more, or that program; another fault may come in place of each
abbrev pub ComesTo : List ℕ → Option Search → Result Additions LoadFault → Type 0
ComesTo name s (Ok more) = Tells name s more
ComesTo name s (Err (fault.TooLong p)) = HasLongProgram s p
ComesTo name s (Err _) = Unit {0}
