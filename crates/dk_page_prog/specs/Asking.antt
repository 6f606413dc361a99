-- What the words ask for.
use Rattle.std.specs.Prelude.{ℕ, ◌==◌, ◌&&◌, not, nat_lt, Bool, false, List, [], ◌∷◌, Option, Some, None, option_map, if◌then◌else◌, codes}
use Rattle.std.specs.Str.{bytes_eq}
use Rattle.dk_review.specs.declared.drawing.Range.{Range}
use Rattle.dk_page_prog.specs.declared.asking.Asked.{Asked}
use Rattle.dk_page_prog.specs.Numbers.{ticks_in}

-- the page of the file of this name, with what is said in the files of needs and of a ledger, the range of its picture, and what
-- repeats in so many ticks, where they are named
pub record Asking : Type 0 where
  pub name : List ℕ
  pub needs : Option (List ℕ)
  pub ledger : Option (List ℕ)
  pub range : Option Range
  pub repeats : Option ℕ

abbrev pub asking_of : Asked → Asking
asking_of a = record {
  name = a.name.now;
  needs = option_map (λ n. n.now) a.needs;
  ledger = option_map (λ n. n.now) a.ledger;
  range = a.range;
  repeats = a.repeats;
}

abbrev pub of_name : List ℕ → Asking
of_name name = record { name = name; needs = None; ledger = None; range = None; repeats = None }

-- a word that isn't empty, and doesn't begin as a flag does
abbrev pub is_name : List ℕ → Bool
is_name [] = false
is_name (b ∷ rest) = not (b == 45)

-- a page of the file of this name is asked for
abbrev pub is_page : List ℕ → List ℕ → Bool
is_page verb name = bytes_eq verb (codes "page") && is_name name

abbrev pub range_between : Option ℕ → Option ℕ → Option Range
range_between (Some from) (Some to) = if nat_lt from to then Some (record { from = from; to = to }) else None
range_between _ _ = None

-- the range of two words that are ticks, the first below the second
unfoldable pub range_of : List ℕ → List ℕ → Option Range
range_of from to = range_between (ticks_in from) (ticks_in to)

-- they name a file of needs
abbrev pub is_needs : List ℕ → List ℕ → Bool
is_needs flag needs = bytes_eq flag (codes "--needs") && is_name needs

-- the ticks that they ask for
abbrev pub repeats_of : List ℕ → List ℕ → Option ℕ
repeats_of flag ticks = if bytes_eq flag (codes "--repeats") then ticks_in ticks else None

-- what is asked for by words that stand behind [LEDGER [FROM TO]] [--needs NEEDS]
unfoldable pub with_repeats : Asking → List (List ℕ) → Option Asking
with_repeats a [] = Some a
with_repeats a (flag ∷ ticks ∷ []) = option_map (λ n. record a { repeats = Some n }) (repeats_of flag ticks)
with_repeats a _ = None

-- behind [LEDGER [FROM TO]]
unfoldable pub with_needs : Asking → List (List ℕ) → Option Asking
with_needs a (flag ∷ needs ∷ rest) =
    if is_needs flag needs then with_repeats (record a { needs = Some needs }) rest else with_repeats a (flag ∷ needs ∷ rest)
with_needs a rest = with_repeats a rest

abbrev pub in_range : Asking → Option Range → List (List ℕ) → List (List ℕ) → Option Asking
in_range a (Some range) behind rest = with_needs (record a { range = Some range }) behind
in_range a None behind rest = with_needs a rest

-- behind LEDGER
unfoldable pub with_range : Asking → List (List ℕ) → Option Asking
with_range a (from ∷ to ∷ rest) = in_range a (range_of from to) rest (from ∷ to ∷ rest)
with_range a rest = with_needs a rest

-- behind the name of the file
unfoldable pub with_ledger : Asking → List (List ℕ) → Option Asking
with_ledger a [] = Some a
with_ledger a (ledger ∷ rest) =
    if is_name ledger then with_range (record a { ledger = Some ledger }) rest else with_needs a (ledger ∷ rest)

-- what the words ask for; the first is the program's name, and isn't looked at
unfoldable pub asked_by : List (List ℕ) → Option Asking
asked_by (me ∷ verb ∷ name ∷ rest) = if is_page verb name then with_ledger (of_name name) rest else None
asked_by _ = None
