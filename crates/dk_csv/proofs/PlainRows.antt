-- A row has no field that calls for quotes, so it is its fields with commas between them.
use Rattle.std.proofs.Common.{ℕ, ◌≡◌, ◌∙◌, ◌++◌, [], ◌∷◌, List, sym, ap, refl, arith, codes}
use Rattle.std.specs.Prelude.{Bool, true, false, not, decimal, Option, Some, None, if◌then◌else◌, ◌&&◌, ◌||◌}
use Rattle.std.proofs.lemmas.Bool.Decides.{nat_tests}
use Rattle.std.specs.List.{AllByRecursion, list_all, list_any}
use Rattle.csv.specs.Quoting.{needs_byte}
use Rattle.csv.specs.Writing.{default_writer, fields_text, field_text, is_blank, quoted}
use Rattle.dk_isa.specs.declared.FaultKind.{FaultKind}
use Rattle.dk_trace.specs.declared.ThreadId.{ThreadId}
use Rattle.dk_trace.specs.declared.Source.{Source}
use Rattle.dk_trace.specs.declared.Work.{Work}
use Rattle.dk_trace.specs.declared.Label.{Label}
use Rattle.dk_trace.specs.declared.Event.{Event}
use Rattle.dk_ledger.specs.declared.line.LedgerLine.{LedgerLine}
use Rattle.dk_ledger.specs.Heading.{Heading, IsPrintable, name_of}
use Rattle.dk_ledger.specs.LineText.{fault_text}
use Rattle.dk_ledger.specs.Readable.{IsReadableHeading}
use Rattle.dk_ledger.specs.Words.{IsSpelled, is_spelled}
use Rattle.dk_ledger.proofs.Spelled.{all_append, fault_spelled, number_spelled, process_spelled, word_of_spelled}
use Rattle.dk_trace.specs.declared.says.Arguments.{Arguments}
use Rattle.dk_trace.specs.Says.{arguments_of, word_of}
use Rattle.dk_entry_words.proofs.ReadBack.{printable}
use Rattle.dk_entry_words.proofs.Spelled.{word_all}
use Rattle.dk_csv.specs.Rows.{behind_comma, event_fields, fields, kind_text, level_of, owner_fields, padded, plain_row, record_text, source_fields, thread_fields}

-- a byte that calls for no quotes
abbrev pub is_plain : ℕ → Bool
is_plain b = not (needs_byte default_writer b)

-- no byte of the field calls for them
abbrev pub Plain : List ℕ → Type 0
Plain f = list_all is_plain f ≡ true

abbrev pub Plains : List (List ℕ) → Type 0
Plains fs = AllByRecursion Plain fs

plains_both : (fs more : List (List ℕ)) → Plains fs → Plains more → Plains (fs ++ more)
plains_both [] more h k = k
plains_both (f ∷ fs) more h k = (h.0, plains_both fs more h.1 k)

one_need : (x r s : Bool) → (not x && r) ≡ true → (r ≡ true → s ≡ false) → (x || s) ≡ false
one_need true r s none rest = absurd (let no : false ≡ true = none in cc)
one_need false r s all rest = rest all

none_needs : (f : List ℕ) → Plain f → list_any (needs_byte default_writer) f ≡ false
none_needs [] plain = refl
none_needs (b ∷ f) plain = one_need (needs_byte default_writer b) (list_all is_plain f) (list_any (needs_byte default_writer) f) plain (none_needs f)

field_plain : (f : List ℕ) → Plain f → field_text default_writer f ≡ f
field_plain f plain = ap (λ b. if b then (quoted default_writer f) else f) (none_needs f plain)

fields_plain : (fs : List (List ℕ)) → Plains fs → fields_text default_writer fs ≡ behind_comma fs
unfolding fields_text
fields_plain [] all = refl
fields_plain (f ∷ fs) all =
    ap (λ t. 44 ∷ (t ++ fields_text default_writer fs)) (field_plain f all.0) ∙ ap (λ t. 44 ∷ (f ++ t)) (fields_plain fs all.1)

row_plain : (first second : List ℕ) (rest : List (List ℕ)) → Plain first → Plains (second ∷ rest)
    → (first ++ behind_comma (second ∷ rest)) ++ 10 ∷ [] ≡ record_text (first ∷ second ∷ rest)
unfolding is_blank
row_plain first second rest plain all =
    sym (ap (λ t. (t ++ fields_text default_writer (second ∷ rest)) ++ 10 ∷ []) (field_plain first plain)
    ∙ ap (λ t. (first ++ t) ++ 10 ∷ []) (fields_plain (second ∷ rest) all))

spelled_plain : (b : ℕ) → is_spelled b ≡ true → is_plain b ≡ true
spelled_plain b h = grind (arith, nat_tests)

spelled : (w : List ℕ) → IsSpelled w → Plain w
spelled = word_all is_plain spelled_plain

number_plain : (n : ℕ) → Plain (decimal n)
number_plain n = spelled (decimal n) (number_spelled n)

kind_plain : (label : Label) → Plain (kind_text label)
kind_plain (Label.Kernel j) = refl
kind_plain (Label.In x) = refl
kind_plain (Label.Run x) = refl
kind_plain (Label.Call x) = refl
kind_plain (Label.Out x) = refl
kind_plain (Label.Slack x source Work.In) = refl
kind_plain (Label.Slack x source Work.Run) = refl
kind_plain (Label.Slack x source Work.Call) = refl
kind_plain Label.Idle = refl

source_plain : (label : Label) → Plains (source_fields label)
source_plain (Label.Kernel j) = (refl, (refl, tt))
source_plain (Label.In x) = (refl, (refl, tt))
source_plain (Label.Run x) = (refl, (refl, tt))
source_plain (Label.Call x) = (refl, (refl, tt))
source_plain (Label.Out x) = (refl, (refl, tt))
source_plain (Label.Slack x Source.Timeline work) = (refl, (refl, tt))
source_plain (Label.Slack x (Source.Reclaimed j) work) = (refl, (number_plain j, tt))
source_plain Label.Idle = (refl, (refl, tt))

fault_plain : (kind : FaultKind) → Plain (fault_text kind)
fault_plain kind = spelled (fault_text kind) (fault_spelled kind)

padded_plain : (word : List ℕ) (arguments : Arguments) → Plain word → Plains (padded word arguments)
padded_plain word Arguments.Nothing plain = (plain, (refl, (refl, (refl, tt))))
padded_plain word (Arguments.Kind kind) plain =
    (all_append is_plain (word ++ codes " ") (fault_text kind) (all_append is_plain word (codes " ") plain refl) (fault_plain kind), (refl, (refl, (refl, tt))))
padded_plain word (Arguments.One n) plain = (plain, (number_plain n, (refl, (refl, tt))))
padded_plain word (Arguments.Three a b c) plain = (plain, (number_plain a, (number_plain b, (number_plain c, tt))))

event_plain : (event : Option Event) → Plains (event_fields event)
event_plain None = (refl, (refl, (refl, (refl, tt))))
event_plain (Some e) = padded_plain (word_of e) (arguments_of e) (spelled (word_of e) (word_of_spelled e))

module _ (h : Heading) (is : IsPrintable h) where
  thread_plain : (x : ThreadId) → Plains (thread_fields h x)
  thread_plain x = (spelled (name_of h x.process) (process_spelled h is.names x.process), (number_plain x.serial, (number_plain (level_of h x.process), tt)))

  owner_plain : (label : Label) → Plains (owner_fields h label)
  owner_plain (Label.Kernel j) = (refl, (refl, (number_plain j, tt)))
  owner_plain (Label.In x) = thread_plain x
  owner_plain (Label.Run x) = thread_plain x
  owner_plain (Label.Call x) = thread_plain x
  owner_plain (Label.Out x) = thread_plain x
  owner_plain (Label.Slack x source work) = thread_plain x
  owner_plain Label.Idle = (refl, (refl, (refl, tt)))

  -- no field calls for quotes, and so the row is the record of its fields
  pub fields_are_plain : (n : ℕ) (g : LedgerLine)
      → Plain (decimal g.start) × Plains (decimal g.count ∷ kind_text g.label ∷ (owner_fields h g.label ++ (source_fields g.label ++ (event_fields g.event ++ decimal n ∷ []))))
      × (plain_row h n g ++ 10 ∷ [] ≡ record_text (fields h n g))
  fields_are_plain n g =
      let start = number_plain g.start in
      let last = event_fields g.event ++ decimal n ∷ [] in
      let rest : Plains (decimal g.count ∷ kind_text g.label ∷ (owner_fields h g.label ++ (source_fields g.label ++ last))) = (
        number_plain g.count,
        (
          kind_plain g.label,
          plains_both (owner_fields h g.label) (source_fields g.label ++ last) (owner_plain g.label)
              (plains_both (source_fields g.label) last (source_plain g.label) (plains_both (event_fields g.event) (decimal n ∷ []) (event_plain g.event) (number_plain n, tt))),
        ),
      ) in
      (start, rest, row_plain (decimal g.start) (decimal g.count) (kind_text g.label ∷ (owner_fields h g.label ++ (source_fields g.label ++ last))) start rest)

pub row_is : (h : Heading) → IsReadableHeading h → (n : ℕ) (g : LedgerLine) → plain_row h n g ++ 10 ∷ [] ≡ record_text (fields h n g)
row_is h is n g = (fields_are_plain h (printable h is) n g).2
