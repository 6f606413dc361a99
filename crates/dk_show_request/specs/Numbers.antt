-- How the words spell ticks.
use Rattle.std.specs.Prelude.{ℕ, ◌==◌, ◌&&◌, ◌||◌, not, Bool, length, nat_lt, nat_le, slice_index, List, Option, Some, None, if◌then◌else◌}
use Rattle.std.specs.List.{list_all}
use Rattle.std.specs.Str.Parse.{digits_value}
use Rattle.dk_config.specs.declared.TheConstants.{MAX_RUN_TICKS}
use Rattle.dk_show_request.specs.declared.numbers.TheConstants.{MAX_RESERVE}

abbrev pub is_digit_byte : ℕ → Bool
is_digit_byte b = nat_le 48 b && nat_le b 57

-- digits with no zero before others
abbrev pub is_spelled : List ℕ → Bool
is_spelled w = (nat_lt 0 (length w) && list_all is_digit_byte w) && (length w == 1 || not (slice_index w 0 == 48))

-- the tick that the word spells, from 0 to 10,000,000
abbrev pub ticks_in : List ℕ → Option ℕ
ticks_in w = if is_spelled w && nat_le (digits_value 10 w) MAX_RUN_TICKS then Some (digits_value 10 w) else None

abbrev pub percent_of : Option ℕ → Option ℕ
percent_of None = None
percent_of (Some n) = if nat_le n MAX_RESERVE then Some n else None

-- the number of percent that the word spells, from 0 to 1,000
abbrev pub percent_in : List ℕ → Option ℕ
percent_in w = percent_of (ticks_in w)
