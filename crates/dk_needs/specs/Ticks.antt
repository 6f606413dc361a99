-- How long a tick is, as a document spells it: `10us`.
use Rattle.std.specs.Prelude.{ℕ, ◌==◌, ◌&&◌, not, Bool, length, nat_lt, nat_le, position, slice_index, take, drop, unwrap_or, codes, List, Option, Some, None, if◌then◌else◌}
use Rattle.std.specs.List.{list_all}
use Rattle.std.specs.Char.{is_ascii_digit}
use Rattle.std.specs.Str.{bytes_eq}
use Rattle.std.specs.Str.Parse.{digits_value}
use Rattle.dk_needs.specs.declared.TheConstants.{MAX_AMOUNT}
use Rattle.dk_needs.specs.declared.needs.Tick.{Tick}
use Rattle.dk_needs.specs.declared.needs.Unit.{Unit}
use Rattle.dk_needs.specs.declared.needs.Unit.TheVariants as unit

-- how many digits come first
abbrev pub digit_count : List ℕ → ℕ
digit_count text = unwrap_or (position (λ b. not (is_ascii_digit b)) text) (length text)

-- digits, of which the first is no 0
abbrev pub is_spelled : List ℕ → Bool
is_spelled ds = (nat_lt 0 (length ds) && list_all is_ascii_digit ds) && not (slice_index ds 0 == 48)

-- a number from 1 to 999,999
abbrev pub amount_of : List ℕ → Option ℕ
amount_of ds = if is_spelled ds && nat_le (digits_value 10 ds) MAX_AMOUNT then Some (digits_value 10 ds) else None

abbrev pub unit_of : List ℕ → Option Unit
unit_of word =
    if bytes_eq word (codes "ns") then Some unit.Nanoseconds
    else if bytes_eq word (codes "us") then Some unit.Microseconds
    else if bytes_eq word (codes "ms") then Some unit.Milliseconds
    else if bytes_eq word (codes "s") then Some unit.Seconds
    else None

abbrev pub tick_with : Option ℕ → Option Unit → Option Tick
tick_with None u = None
tick_with (Some n) None = None
tick_with (Some n) (Some u) = Some (record { amount = n; unit = u })

-- a number and its unit
abbrev pub tick_of : List ℕ → Option Tick
tick_of text = tick_with (amount_of (take (digit_count text) text)) (unit_of (drop (digit_count text) text))
