-- Where each label of a source stands.
use Rattle.std.specs.Prelude.{ℕ, suc, ◌≡◌, ◌<◌, ◌+◌, ◌==◌, ◌&&◌, nat_lt, Bool, false, List, [], ◌∷◌, if◌then◌else◌, Option, Some, None, is_none, Result, Ok, Err}
use Rattle.std.specs.Global.{Vec}
use Rattle.std.specs.List.{list_any}
use Rattle.std.specs.Option.{option_map, option_map_or}
use Rattle.std.specs.Ordering.{nat_cmp}
use Rattle.std.specs.Cmp.Lexicographic.{slice_cmp}
use Rattle.std.specs.BTreeMap.{BTreeMap, get_by}
use Rattle.std.specs.Borrow.{Bor}
use Rattle.dk_asm.specs.declared.labels.Place.{Place}
use Rattle.dk_asm.specs.declared.fault.LineFault.{LineFault}
use Rattle.dk_asm.specs.Operands.{Operand}
use Rattle.dk_asm.specs.Source.{Line, label_on, has_label, has_instruction, operands_on, is_form, is_range, has_part, cause_at, Outcome, Assembled}
use Rattle.dk_asm.specs.declared.TheConstants.{MAX_INSTRUCTIONS}

abbrev pub place : ℕ → ℕ → Place
place line value = record { line = line; value = value }

-- the first line that has the label, from 0, and how many instructions the lines before it have
abbrev pub place_of : List Line → List ℕ → Option Place
place_of [] name = None
place_of (line ∷ lines) name =
    if has_label name line then Some (place 0 0)
    else option_map (λ p. place (suc p.line) ((if has_instruction line then 1 else 0) + p.value)) (place_of lines name)

-- what the map has under a name
abbrev pub place_in : BTreeMap (Bor (List ℕ)) Place → List ℕ → Option Place
place_in places name = get_by (λ k. slice_cmp nat_cmp name k.now) places

abbrev pub ArePlaces : BTreeMap (Bor (List ℕ)) Place → List Line → Type 0
ArePlaces places source = (name : List ℕ) → place_in places name ≡ place_of source name

-- the place of a label that a line has, where no earlier line has it
abbrev pub place_on : Line → Place → List ℕ → Option Place
place_on line place name = if has_label name line then Some place else None

-- a label without a place
abbrev pub is_unplaced : BTreeMap (Bor (List ℕ)) Place → Operand → Bool
is_unplaced places (Operand.label name) = is_none (place_in places name)
is_unplaced places _ = false

-- the label has its place before this line
abbrev pub stands_before : BTreeMap (Bor (List ℕ)) Place → ℕ → Line → Bool
stands_before places i line =
    option_map_or (λ name. option_map_or (λ p. nat_lt p.line i) (place_in places name) false) (label_on line) false

-- the cause of line i, before which there are so many instructions of those of the source
abbrev pub cause_by : BTreeMap (Bor (List ℕ)) Place → ℕ → Line → ℕ → ℕ → Option LineFault
cause_by places total line i before =
    if is_form line then Some LineFault.Form else (
    if is_range line then Some LineFault.Range else (
    if stands_before places i line then Some LineFault.Twice else (
    if list_any (is_unplaced places) (operands_on line) then Some LineFault.Unknown else (
    if has_part line && nat_lt (before + 1) total then Some LineFault.Short else (
    if has_instruction line && (before == MAX_INSTRUCTIONS) then Some LineFault.Many else None)))))

pub record IsFirstFault (source : List Line) (i : ℕ) (cause : LineFault) : Type 0 where
  pub here : cause_at source i ≡ Some cause
  pub none_before : (j : ℕ) → j < i → cause_at source j ≡ None

abbrev pub HasNoFault : List Line → Type 0
HasNoFault source = (i : ℕ) → cause_at source i ≡ None

-- the program of a source, or its first line at fault, from 0
abbrev pub Found : List ℕ → Result (Vec ℕ) (ℕ × LineFault) → Type 0
Found text (Ok code) = Assembled text (Outcome.program code.items)
Found text (Err fault) = Assembled text (Outcome.fault (fault.0 + 1) fault.1)
