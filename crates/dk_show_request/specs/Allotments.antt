-- How words spell allotments of slack, as `NAME=TICKS`.
use Rattle.std.specs.Prelude.{ℕ, ◌==◌, not, Bool, find, is_some, unwrap_or, List, [], ◌∷◌, Option, Some, None, if◌then◌else◌}
use Rattle.std.specs.List.{after_first, before_first, list_any}
use Rattle.std.specs.Str.{bytes_eq}
use Rattle.dk_show_request.specs.declared.allotments.Allotment.{Allotment}
use Rattle.dk_show_request.specs.Numbers.{ticks_in}

-- what stands before the first equals sign
abbrev pub name_in : List ℕ → List ℕ
name_in w = before_first (λ b. b == 61) w

-- the number behind it, from 0 to 10,000,000
abbrev pub ticks_behind : List ℕ → Option ℕ
ticks_behind w = ticks_in (after_first (λ b. b == 61) w)

abbrev pub is_no_allotment : List ℕ → Bool
is_no_allotment w = not (is_some (ticks_behind w))

-- the allotment that a word spells
abbrev pub allotment_of : List ℕ → Allotment
allotment_of w = record { name = name_in w; ticks = unwrap_or (ticks_behind w) 0 }

abbrev pub has_same_name : List ℕ → List ℕ → Bool
has_same_name w v = bytes_eq (name_in w) (name_in v)

-- the first name that stands again behind its word
abbrev pub repeated_name : List (List ℕ) → Option (List ℕ)
repeated_name [] = None
repeated_name (w ∷ ws) = if list_any (has_same_name w) ws then Some (name_in w) else repeated_name ws
