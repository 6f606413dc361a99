-- What is told of a document of needs, and of the chains that they name.
use Rattle.std.specs.Prelude.{ℕ, ◌≡◌, Bool, true, false, List, [], codes, Option, Some, None, Result, Ok, Err}
use Rattle.std.specs.List.{list_any}
use Rattle.dk_config.specs.Configuration.{Configuration}
use Rattle.dk_document_report.specs.Telling.{IsNotTomlText}
use Rattle.dk_needs.specs.declared.fault.Fault.{Fault}
use Rattle.dk_needs.specs.declared.fault.NeedsError.{NeedsError}
use Rattle.dk_needs.specs.declared.fault.NeedsError.TheVariants as error
use Rattle.dk_needs.specs.declared.needs.Need.{Need}
use Rattle.dk_needs.specs.declared.needs.What.{What}
use Rattle.dk_needs.specs.Reading.{reading}
use Rattle.dk_needs.specs.Wanted.{Wanted}
use Rattle.dk_needs_check.specs.declared.row.Row.{Row}
use Rattle.dk_needs_check.specs.declared.unknown.Checking.{Checking}
use Rattle.dk_needs_check.specs.declared.unknown.Checking.TheVariants as checking
use Rattle.dk_needs_check.specs.Bounds.{are_met}
use Rattle.dk_needs_check.specs.Unknown.{IsCheck}
use Rattle.dk_needs_report.specs.Telling.{IsFaultsText}
use Rattle.dk_needs_text.specs.Csv.{needs_csv}
use Rattle.dk_needs_text.specs.Names.{process_names}
use Rattle.dk_needs_text.specs.Text.{needs_text}
use Rattle.dk_needs_text.specs.Unknown.{unknown_page}
use Rattle.dk_page.specs.More.{IsAddedByChains}
use Rattle.dk_page.specs.Needs.{IsAddedByNeeds, IsBoth}
use Rattle.dk_page.specs.declared.needing.Standing.{Standing}
use Rattle.dk_page.specs.declared.needing.Wants.{Wants}
use Rattle.dk_page.specs.declared.told.Additions.{Additions}
use Rattle.dk_review.specs.Chains.{AreChains}
use Rattle.dk_review.specs.Files.{File}
use Rattle.dk_review.specs.declared.needing.NeedsTold.{NeedsTold}

abbrev pub standing_of : Bool → Standing
standing_of true = Standing.Met
standing_of false = Standing.Unmet

-- it asks what the programs do for ever
abbrev pub asks_for_ever : What → Bool
asks_for_ever (What.Always name) = true
asks_for_ever (What.Slack name each within) = true
asks_for_ever (What.Run overruns refused faults forever) = forever
asks_for_ever _ = false

abbrev pub is_for_ever : Need → Bool
is_for_ever need = asks_for_ever need.what

abbrev pub asks_programs : List Need → Bool
asks_programs needs = list_any is_for_ever needs

-- the rows, as the text and the table of `check`
pub record AreRowsTold (c : Configuration) (needs : Wanted) (rows : List Row) (w : Wants) : Type 0 where
  pub check : w.check.items ≡ needs_text (process_names c) needs rows
  pub table : w.table.items ≡ needs_csv (process_names c) needs.rows rows
  pub standing : w.standing ≡ standing_of (are_met rows)
  pub programs : w.asks_programs ≡ asks_programs needs.rows

-- nothing is decided, for the reasons in this text
pub record IsNotDecided (text : List ℕ) (w : Wants) : Type 0 where
  pub check : w.check.items ≡ text
  pub standing : w.standing ≡ Standing.Refused
  pub programs : w.asks_programs ≡ false

-- without a chain
abbrev pub IsAlone : (Wants → Type 0) → NeedsTold → Type 0
IsAlone Holds t = Holds t.wants × (t.chains.items ≡ [])

-- all that the configuration hasn't got; or the rows, and what is told of the chains that the needs name
abbrev pub IsTold : Configuration → Wanted → Checking → NeedsTold → Type 0
IsTold c needs (checking.Unknown found) t = IsAlone (IsNotDecided (unknown_page needs.rows found.items)) t
IsTold c needs (checking.Decided rows) t = AreRowsTold c needs rows.items t.wants × AreChains c needs.rows 0 needs.rows t.chains.items

-- what these needs come to
pub record IsDecided (c : Configuration) (needs : Wanted) (t : NeedsTold) : Type 0 where
  pub found : Checking
  pub is : IsCheck c needs.rows found
  pub told : IsTold c needs found t

-- the bytes are no document
pub record IsNoDocument (bytes : List ℕ) (w : Wants) : Type 0 where
  pub text : List ℕ
  pub tells : IsNotTomlText (codes "needs") bytes text
  pub told : IsNotDecided text w

-- this is wrong with the document
pub record IsRefusedFor (bytes : List ℕ) (faults : List Fault) (w : Wants) : Type 0 where
  pub text : List ℕ
  pub tells : IsFaultsText bytes faults text
  pub told : IsNotDecided text w

-- what a document of needs that was read as this comes to
abbrev pub IsOfWanted : Configuration → List ℕ → Result Wanted NeedsError → NeedsTold → Type 0
IsOfWanted c bytes (Ok needs) t = IsDecided c needs t
IsOfWanted c bytes (Err error.NotToml) t = IsAlone (IsNoDocument bytes) t
IsOfWanted c bytes (Err (error.Refused faults)) t = IsAlone (IsRefusedFor bytes faults) t
IsOfWanted c bytes (Err error.NoMemory) t = ⊥

-- what the needs in these bytes come to, where neither the programs nor a ledger are looked at
abbrev pub AreNeedsTold : Configuration → List ℕ → NeedsTold → Type 0
AreNeedsTold c bytes t = IsOfWanted c bytes (reading bytes) t

-- a page without something more
pub record AddsNothing (a : Additions) : Type 0 where
  pub tile : a.tile.items ≡ []
  pub file : a.file.items ≡ []
  pub sections : a.sections.items ≡ []
  pub outputs : a.outputs.items ≡ []

-- What the needs in this file add to the page of the file of that name, with the chains that they name behind it; and how they
-- stand.
pub record AreNeeded (name : List ℕ) (c : Configuration) (needs : File) (s : Standing) (a : Additions) : Type 0 where
  pub told : NeedsTold
  pub first : Additions
  pub chains : Additions
  pub are : AreNeedsTold c needs.bytes told
  pub adds : IsAddedByNeeds name needs.name needs.bytes told.wants first
  pub chained : IsAddedByChains name told.chains.items chains
  pub both : IsBoth first chains a
  pub stand : s ≡ told.wants.standing

-- that, or nothing where there are none
abbrev pub AddsNeeds : List ℕ → Configuration → Option File → Standing → Additions → Type 0
AddsNeeds name c (Some needs) s a = AreNeeded name c needs s a
AddsNeeds name c None s a = AddsNothing a × (s ≡ Standing.Met)
