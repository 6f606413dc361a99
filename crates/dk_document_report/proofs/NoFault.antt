-- `faults 0` is told of no document with which something is wrong.
use Rattle.std.proofs.Common.{ℕ, suc, zero, ◌≡◌, ◌∙◌, ◌++◌, List, [], ◌∷◌, inl, inr, ap, append_assoc, arith, codes, refl, subst, sym, slice_index}
use Rattle.std.specs.Prelude.{Option, Some, None, Ok, Err, ◌↔◌}
use Rattle.std.proofs.lemmas.Bool.{cases_Bool}
use Rattle.toml.specs.Data.{Members}
use Rattle.dk_config.specs.Configuration.{Configuration}
use Rattle.dk_config.specs.declared.fault.ConfigFault.{ConfigFault}
use Rattle.dk_config.specs.Rules.{all_tests}
use Rattle.dk_config.specs.Tests.{Test, first_broken}
use Rattle.dk_config_report.specs.FaultLines.{count_line, faults_text}
use Rattle.dk_config_report.specs.Pages.{AreLines}
use Rattle.dk_faults.specs.Faults.{broken}
use Rattle.dk_fault_words.specs.FaultWords.{fault_head}
use Rattle.dk_loader.specs.declared.fault.LoadFault.TheVariants as why
use Rattle.dk_loader.specs.Reading.{answer_of, config_of, document, reading, reading_from, reading_of, shaped, shaped_from, shaped_of}
use Rattle.dk_loader.specs.Shape.{shape_tests}
use Rattle.dk_loader.specs.ShapeFaults.{shape_faults}
use Rattle.dk_document_report.specs.Counted.{TellsNone}
use Rattle.dk_document_report.specs.Found.{Told, keys_told, or_itself, told_all}
use Rattle.dk_document_report.specs.Telling.{IsNotTomlText, IsTextOf, Tells, TellsOf}

-- the text begins as the line of a refusal
abbrev IsRefusal : List ℕ → Type 0
IsRefusal text = (rest : List ℕ) × (text ≡ codes "config: " ++ rest)

pub refusal_not_none : (text : List ℕ) → IsRefusal text → text ≡ count_line 0 → ⊥
refusal_not_none text (rest, is) none =
    let bad : 99 ≡ 102 = ap (λ t. slice_index t 0) (sym is ∙ none) in
    omega (arith, bad)

refusal_behind : (text more : List ℕ) → IsRefusal text → IsRefusal (text ++ more)
refusal_behind text more (rest, is) = (rest ++ more, ap (λ t. t ++ more) is ∙ append_assoc (codes "config: ") rest more)

head_refusal : (f : ConfigFault) (more : List ℕ) → IsRefusal (fault_head f ++ more)
head_refusal f more = refusal_behind (fault_head f) more (_, refl)

-- the first test that fails is the first of all that fail
pub broken_first : (ts : List Test) (f : ConfigFault) → first_broken ts ≡ Some f → (rest : List ConfigFault) × (broken ts ≡ f ∷ rest)
broken_first [] f is = absurd (cc)
broken_first (t ∷ ts) f is =
    elim (cases_Bool t.1) [
      | inl fails ↦ (let first = rw fails at is in rw fails (_, ap (λ g. g ∷ broken ts) (cc)))
      | inr passes ↦ (let later = rw passes at is in rw passes (broken_first ts f later))
    ]

pub broken_none : (ts : List Test) → first_broken ts ≡ None → broken ts ≡ []
broken_none [] is = refl
broken_none (t ∷ ts) is =
    elim (cases_Bool t.1) [
      | inl fails ↦ (let bad = rw fails at is in absurd (cc))
      | inr passes ↦ (let later = rw passes at is in rw passes (broken_none ts later))
    ]

-- where none of the first tests fails, the first of those behind them is
pub behind_none : (ts more : List Test) → first_broken ts ≡ None → first_broken (ts ++ more) ≡ first_broken more
behind_none [] more is = refl
behind_none (t ∷ ts) more is =
    elim (cases_Bool t.1) [
      | inl fails ↦ (let bad = rw fails at is in absurd (cc))
      | inr passes ↦ (let later = rw passes at is in rw passes (behind_none ts more later))
    ]

pub before_all : (ts more : List Test) (f : ConfigFault) → first_broken ts ≡ Some f → first_broken (ts ++ more) ≡ Some f
before_all [] more f is = absurd (cc)
before_all (t ∷ ts) more f is =
    elim (cases_Bool t.1) [
      | inl fails ↦ (let first = rw fails at is in rw fails first)
      | inr passes ↦ (let later = rw passes at is in rw passes (before_all ts more f later))
    ]

itself_some : (f : ConfigFault) (found : List Told) → (t : Told) × (rest : List Told) × (or_itself f found ≡ t ∷ rest)
itself_some f [] = (_, _, refl)
itself_some f (t ∷ ts) = (t, ts, refl)

pub told_some : (ms : Members) (f : ConfigFault) (fs : List ConfigFault) → (t : Told) × (rest : List Told) × (told_all ms (f ∷ fs) ≡ t ∷ rest)
told_some ms f fs =
    let one = itself_some f (keys_told ms f) in
    (one.0, one.1 ++ told_all ms fs, ap (λ ts. ts ++ told_all ms fs) one.2)

lines_refusal : (P : ℕ → List ℕ → Type 0) (n : ℕ) (text : List ℕ) → ((i : ℕ) (line : List ℕ) → P i line → IsRefusal line) → AreLines P (suc n) text
    → IsRefusal text
lines_refusal P zero text each (before, line, none, is, whole) = subst IsRefusal (sym (whole ∙ ap (λ t. t ++ line) none)) (each 0 line is)
lines_refusal P (suc n) text each (before, line, are, is, whole) =
    subst IsRefusal (sym whole) (refusal_behind before line (lines_refusal P n before each are))

pub shape_refusal : (bytes : List ℕ) (ms : Members) (t : Told) (told : List Told) (text : List ℕ) → IsTextOf bytes ms (t ∷ told) text → IsRefusal text
shape_refusal bytes ms t told text is =
    let each = lines_refusal _ _ is.lines (λ i line one. subst IsRefusal (sym one.told_so.whole) (head_refusal one.thing.fault _)) is.are in
    subst IsRefusal (sym is.whole) (refusal_behind is.lines _ each)

pub faults_refusal : (c : Configuration) (f : ConfigFault) (fs : List ConfigFault) → broken (all_tests c) ≡ f ∷ fs → IsRefusal (faults_text c)
faults_refusal c f fs is = rw is (refusal_behind _ _ (refusal_behind _ _ (head_refusal f _)))

not_toml_refusal : (bytes text : List ℕ) → IsNotTomlText (codes "config") bytes text → IsRefusal text
not_toml_refusal bytes text is = (_, is.whole)

no_shape : (bytes : List ℕ) → document bytes ≡ None → shaped bytes ≡ Err why.NotToml
unfolding shaped
no_shape bytes none = ap shaped_from none

no_reading : (bytes : List ℕ) → document bytes ≡ None → reading bytes ≡ Err why.NotToml
unfolding reading
no_reading bytes none = ap reading_from none

-- of a document that is TOML, by the first of its keys and kinds that is wrong, and then by the first of its numbers
module _ (bytes : List ℕ) (ms : Members) (text : List ℕ) (read : document bytes ≡ Some ms) where
  reads : reading bytes ≡ answer_of (config_of ms) (first_broken (shape_tests ms ++ all_tests (config_of ms)))
  unfolding reading reading_of
  reads = ap reading_from read

  shapes : shaped bytes ≡ answer_of (config_of ms) (first_broken (shape_tests ms))
  unfolding shaped shaped_of
  shapes = ap shaped_from read

  abbrev Wanted : Type 0
  Wanted = (text ≡ count_line 0) ↔ ((c : Configuration) × (reading bytes ≡ Ok c))

  is_wrong : (f : ConfigFault) → first_broken (shape_tests ms ++ all_tests (config_of ms)) ≡ Some f → IsRefusal text → Wanted
  is_wrong f first refusal =
      (λ none. absurd (refusal_not_none text refusal none), λ (c, is). (let bad = sym is ∙ reads ∙ ap (answer_of (config_of ms)) first in absurd (cc)))

  by_shape : (first : Option ConfigFault) → first_broken (shape_tests ms) ≡ first → TellsOf bytes (answer_of (config_of ms) first) text → Wanted
  by_shape (Some f) is told =
      let all = broken_first (shape_tests ms) f is in
      let same : told.members ≡ ms = (let one = sym told.read ∙ read in cc) in
      let faults : shape_faults bytes ≡ f ∷ all.0 = rw read all.1 in
      let some = told_some ms f all.0 in
      let found : told_all told.members (shape_faults bytes) ≡ some.0 ∷ some.1 = rw (same, faults) some.2 in
      is_wrong f (before_all (shape_tests ms) (all_tests (config_of ms)) f is)
      (shape_refusal bytes told.members some.0 some.1 text (subst (λ ts. IsTextOf bytes told.members ts text) found told.told))
  by_shape None is told = by_numbers (first_broken (all_tests (config_of ms))) refl
    where
      by_numbers : (first : Option ConfigFault) → first_broken (all_tests (config_of ms)) ≡ first → Wanted
      by_numbers (Some f) numbers =
          let all = broken_first (all_tests (config_of ms)) f numbers in
          is_wrong f (behind_none (shape_tests ms) (all_tests (config_of ms)) is ∙ numbers)
          (subst IsRefusal (sym told) (faults_refusal (config_of ms) f all.0 all.1))
      by_numbers None numbers =
          let none = broken_none (all_tests (config_of ms)) numbers in
          let whole : faults_text (config_of ms) ≡ count_line 0 = rw none refl in
          (λ _. (config_of ms, reads ∙ ap (answer_of (config_of ms)) (behind_none (shape_tests ms) (all_tests (config_of ms)) is ∙ numbers)), λ _. told ∙ whole)

by_document : (bytes text : List ℕ) (read : Option Members) → document bytes ≡ read → Tells bytes text
    → (text ≡ count_line 0) ↔ ((c : Configuration) × (reading bytes ≡ Ok c))
by_document bytes text None read tells =
    let no_toml = not_toml_refusal bytes text (subst (λ r. TellsOf bytes r text) (no_shape bytes read) tells) in
    (λ none. absurd (refusal_not_none text no_toml none), λ (c, is). (let bad = sym is ∙ no_reading bytes read in absurd (cc)))
by_document bytes text (Some ms) read tells =
    by_shape bytes ms text read (first_broken (shape_tests ms)) refl (subst (λ r. TellsOf bytes r text) (shapes bytes ms text read) tells)

pub tells_none : TellsNone
tells_none bytes text tells = by_document bytes text (document bytes) refl tells
